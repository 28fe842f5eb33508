use Rattle.std.proofs.Common.{◌≤◌}
use Rattle.journal_overlay.specs.Index.{IsWholeBut, OthersStay}
use Rattle.journal_overlay.specs.Nodes.{behind}
use Rattle.journal_overlay.proofs.place_log.drop_section.Given as goal

abbrev pub invariant-loop-next : goal.invariant-loop-next
invariant-loop-next l = record {
  whole : IsWholeBut l.section l.next l.log;
  stay : OthersStay l.section l.initial.log l.log;
  fewer : l.log.kept ≤ l.initial.log.kept;
}

abbrev pub decreases-loop-next : goal.decreases-loop-next
decreases-loop-next l = behind l.next
