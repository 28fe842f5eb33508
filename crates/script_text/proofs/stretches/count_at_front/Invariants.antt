use Rattle.std.proofs.Common.{◌≡◌, ◌+◌, ◌≤◌, ◌==◌, length}
use Rattle.std.specs.List.{prefix_len}
use Rattle.script_text.proofs.stretches.count_at_front.Given as goal

abbrev pub invariant-loop-rest : goal.invariant-loop-rest
invariant-loop-rest l = record {
  shorter : length l.rest ≤ length l.bytes;
  count : prefix_len (λ x. x == l.byte) l.bytes + length l.rest ≡ length l.bytes + prefix_len (λ x. x == l.byte) l.rest;
}

abbrev pub decreases-loop-rest : goal.decreases-loop-rest
decreases-loop-rest l = length l.rest
