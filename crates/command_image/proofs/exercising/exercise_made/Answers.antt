use Rattle.std.proofs.Common.{Result, refl, rules, sym, subst}
use Rattle.command_ending.specs.declared.ended.Ended.{Ended}
use Rattle.workload_model.specs.Exercise.{Tally}
use Rattle.command_image.specs.Exercised.{IsCountTold}
use Rattle.command_image.proofs.ExercisingLemmas.{exercised_to}
use Rattle.command_image.proofs.exercising.exercise_made.Goals as goal

pub returns-in_err-counted-clause-exercised : goal.returns-in_err-counted-clause-exercised
returns-in_err-counted-clause-exercised g c made told can =
    exercised_to (g.D.Disk.identity c.args.disk.now).sectors c.args.count c.args.seed made c.exercise_new.new.counted _ _ _ _ _
    (c.exercise_new.ensures.exercised made told can) (search rules)
    (subst (λ (r : Result Tally Ended). IsCountTold r (g.O.Sink.held c.args.out.now) (g.O.Sink.held c.args.out.now) c.from_residual.result)
    (sym c.in_err-counted.was) (search rules, refl))

pub returns-clause-exercised : goal.returns-clause-exercised
returns-clause-exercised g c made told can =
    exercised_to (g.D.Disk.identity c.args.disk.now).sectors c.args.count c.args.seed made c.exercise_new.new.counted _ _ _ _ _
    (c.exercise_new.ensures.exercised made told can) (search rules)
    (subst (λ (r : Result Tally Ended). IsCountTold r (g.O.Sink.held c.args.out.now) (g.O.Sink.held c.put_tally.new.out) c.put_tally.result)
    (sym c.in_ok-counted.was) c.put_tally.ensures.told)
