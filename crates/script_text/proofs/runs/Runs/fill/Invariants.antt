use Rattle.std.proofs.Common.{◌≡◌, ◌+◌, ◌++◌, length, take}
use Rattle.device_model.specs.Script.{stretches_length, bytes_of_stretches}
use Rattle.script_text.specs.Runs.{stretches_in}
use Rattle.script_text.proofs.runs.Runs.fill.Given as goal

abbrev pub invariant-loop-run : goal.invariant-loop-run
invariant-loop-run l = record {
  room : l.from + stretches_length (stretches_in l.rest.word.now) ≡ length l.out;
  written : take l.from l.out ++ bytes_of_stretches (stretches_in l.rest.word.now) ≡ bytes_of_stretches (stretches_in l.fn.self.word.now);
}

abbrev pub decreases-loop-run : goal.decreases-loop-run
decreases-loop-run l = length (stretches_in l.rest.word.now)
