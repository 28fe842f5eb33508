use Rattle.std.proofs.Common.{◌<◌, ◌^◌, length, ap, arith}
use Rattle.script_text.specs.Runs.{stretch_of, stretches_in}
use Rattle.script_text.proofs.RunsLemmas.{stretches_length-lt, stretches_length-first}
use Rattle.script_text.proofs.runs.Runs.total.Goals as goal

pub overflow_add-total : goal.overflow_add-total
overflow_add-total c =
    let word = c.args.self.now.word.now in
    let short : length word < 2 ^ 64 = omega arith in
    let few = stretches_length-lt word c.args.self.now.runs short in
    let first = stretches_length-first (stretches_in c.loop-run.rest.word.now) (stretches_in c.take_run.new.self.word.now) (stretch_of c.in-Some.run') c.in-Some.ensures.some in
    omega (arith, few, first, c.loop-run.invariant, c.from-total.ensures)

pub loop-run-smaller : goal.loop-run-smaller
loop-run-smaller c = let first = ap length c.in-Some.ensures.some in omega (arith, first)
