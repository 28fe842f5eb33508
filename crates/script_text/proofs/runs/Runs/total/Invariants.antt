use Rattle.std.proofs.Common.{◌≡◌, ◌+◌, length}
use Rattle.device_model.specs.Script.{stretches_length}
use Rattle.script_text.specs.Runs.{stretches_in}
use Rattle.script_text.proofs.runs.Runs.total.Given as goal

abbrev pub invariant-loop-run : goal.invariant-loop-run
invariant-loop-run l = l.total + stretches_length (stretches_in l.rest.word.now) ≡ stretches_length (stretches_in l.fn.self.word.now)

abbrev pub decreases-loop-run : goal.decreases-loop-run
decreases-loop-run l = length (stretches_in l.rest.word.now)
