use Rattle.std.proofs.Common.{◌≡◌, ◌+◌, ◌%◌, ◌^◌, sum, take}
use Rattle.workload.proofs.tally.sum_with.Given as goal

abbrev pub invariant-loop-byte : goal.invariant-loop-byte
invariant-loop-byte l = l.total ≡ (l.fn.number + sum (take l.byte-index l.bytes)) % 2 ^ 64
