use Rattle.std.proofs.Common.{◌≡◌, ◌+◌, ◌≤◌, ◌++◌, length, vec_len, vec_capacity}
use Rattle.device_model.specs.Stretches.{stretches_text}
use Rattle.script_text.proofs.stretches.put_stretches.Given as goal

abbrev pub invariant-loop-rest : goal.invariant-loop-rest
invariant-loop-rest l = record {
  room : vec_len l.text + length (stretches_text l.rest) ≤ vec_capacity l.text;
  written : l.text.items ++ stretches_text l.rest ≡ l.fn.text.items ++ stretches_text l.fn.bytes;
  capacity : vec_capacity l.fn.text ≤ vec_capacity l.text;
}

abbrev pub decreases-loop-rest : goal.decreases-loop-rest
decreases-loop-rest l = length l.rest
