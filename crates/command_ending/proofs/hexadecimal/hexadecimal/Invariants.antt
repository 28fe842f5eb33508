use Rattle.std.proofs.Common.{◌+◌, ◌≡◌, ◌<◌, length, false, ◌≤◌, ◌^◌, drop}
use Rattle.std.specs.Fmt.{digits, digits_onto}
use Rattle.command_ending.proofs.hexadecimal.hexadecimal.Given as goal

abbrev pub invariant-loop-left : goal.invariant-loop-left
invariant-loop-left l = record {
  within : l.at ≤ 7;
  left : l.left < 16 ^ (l.at + 1);
  length_ : length l.buffer ≡ 8;
  rest : digits_onto (57 + l.at) 16 false l.left (drop (l.at + 1) l.buffer) ≡ digits 16 false l.n;
}

abbrev pub decreases-loop-left : goal.decreases-loop-left
decreases-loop-left l = l.left
