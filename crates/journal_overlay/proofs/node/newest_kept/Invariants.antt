use Rattle.std.proofs.Common.{ℕ, ◌≤◌, length}
use Rattle.journal_overlay.specs.Nodes.{behind, IsBack}
use Rattle.journal_overlay.proofs.node.newest_kept.Given as goal

abbrev pub invariant-loop-at : goal.invariant-loop-at
invariant-loop-at l = record {
  there : behind l.at ≤ length l.nodes;
  back : (block k : ℕ) → IsBack block l.fn.from k l.nodes → IsBack block l.at k l.nodes;
}

abbrev pub decreases-loop-at : goal.decreases-loop-at
decreases-loop-at l = behind l.at
