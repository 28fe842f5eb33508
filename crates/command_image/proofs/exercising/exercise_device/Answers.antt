use Rattle.std.proofs.Common.{List, Err, sym, ap, subst, is_err}
use Rattle.disk_model.specs.Disk.{Content}
use Rattle.disk_model.proofs.MomentsLemmas.{EachMoment-weaker}
use Rattle.device.proofs.LeavesLemmas.{close_leaves}
use Rattle.command_image.specs.Exercised.{IsExercised}
use Rattle.command_task.proofs.ClosedLemmas.{closed_here, rests_closed}
use Rattle.command_task.proofs.DeviceLemmas.{closed_device, failed_device, in_condition}
use Rattle.command_image.proofs.ExercisingLemmas.{begun_first, exercise_closed, exercise_stopped, exercise_unclosed, last, there, within_first, others_first}
use Rattle.script_session.specs.declared.stop.Stop.TheVariants as Stops
use Rattle.command_image.proofs.exercising.exercise_device.Goals as goal

pub returns-in-Ok-default-clause-exercised : goal.returns-in-Ok-default-clause-exercised
returns-in-Ok-default-clause-exercised g c w is =
    let count = c.args.count in
    let seed = c.args.seed in
    let device = c.exercise.new.device in
    let ran = c.in-Ok.ensures.ran w is in
    let works = c.in-Ok.ensures.turn.0 (λ disk. absurd (cc)) in
    let at = there w count seed in
    let others = close_leaves at device.parts.common _ device.parts.mode ran.run.device (last w count seed) (c.close.ensures.writes works) c.close.ensures.tags in
    let ended = closed_device at _ _ c.close.result.0 (ap is_err c.in-Ok-default.is-0)
    (c.close.ensures.closed at (in_condition at _ _ device.parts _ works ran.run.device)) in
    let rests = rests_closed c.close.result.0 (ap is_err c.in-Ok-default.is-0) _ device.parts _ _ c.close.ensures.rests at
    (in_condition at _ _ device.parts _ works ran.run.device) in
    exercise_closed w count seed device.parts _ _ _ ran.run ran.in_order others c.in-Ok.tally ran.tally_ ended
    (closed_here at device.parts.common _ _ device.parts.mode ran.run.device rests)

pub returns-in-Err-default-clause-exercised : goal.returns-in-Err-default-clause-exercised
returns-in-Err-default-clause-exercised g c w is =
    let count = c.args.count in
    let seed = c.args.seed in
    let device = c.exercise.new.device in
    let ran = c.in-Ok.ensures.ran w is in
    let works = c.in-Ok.ensures.turn.0 (λ disk. absurd (cc)) in
    let at = there w count seed in
    let others = close_leaves at device.parts.common _ device.parts.mode ran.run.device (last w count seed) (c.close.ensures.writes works) c.close.ensures.tags in
    let ended = failed_device at _ _ c.close.result.0 (ap is_err c.in-Err-default.is-0)
    (λ broken. let is_broken = c.close.ensures.broken.1 broken in absurd (cc))
    (c.close.ensures.closed at (in_condition at _ _ device.parts _ works ran.run.device)) in
    exercise_unclosed w count seed device.parts _ _ _ ran.run ran.in_order others Stops.Disk ended

pub returns-in-Err-clause-exercised : goal.returns-in-Err-clause-exercised
returns-in-Err-clause-exercised g c w is =
    let count = c.args.count in
    let seed = c.args.seed in
    let cut = c.in-Err.ensures.stopped w is in
    subst (λ (m : List Content). IsExercised w count seed (Err c.in-Err.stop) (g.D.Disk.moments c.args.device.disk.now) m)
    (sym (ap g.D.Disk.moments c.give_back.ensures.disk))
    (exercise_stopped w count seed c.in-Err.stop _ _ (EachMoment-weaker (within_first w count seed) cut.cut.since)
    (begun_first w count seed _ _ cut.in_order)
    (others_first w count seed cut.cut.others) (λ x told. within_first w count seed x (cut.cut.now x told)))
