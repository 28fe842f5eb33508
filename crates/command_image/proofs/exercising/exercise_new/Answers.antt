use Rattle.std.proofs.Common.{None, List, Result, Err, sym, ap, ◌∙◌, subst}
use Rattle.disk_model.specs.Disk.{Content, last_image}
use Rattle.device_model.specs.Mode.{Journal}
use Rattle.device_parts.specs.Device.{opened_standing}
use Rattle.command_ending.specs.declared.ended.Ended.{Ended}
use Rattle.workload_model.specs.Exercise.{Tally}
use Rattle.command_image.specs.Exercised.{IsExercisedOn}
use Rattle.command_task.specs.Refusing.{ended_by_opening}
use Rattle.command_image.proofs.ExercisingLemmas.{exercised_on, not_opened, opened_new}
use Rattle.command_image.proofs.exercising.exercise_new.Goals as goal

pub returns-in-Err-clause-exercised : goal.returns-in-Err-clause-exercised
returns-in-Err-clause-exercised g c made told can =
    let disk = g.D.Disk.identity c.args.disk.now in
    let before = g.D.Disk.moments c.args.disk.now in
    let refused = not_opened c.images_that_open_have_no_fault.ensures disk _ c.args.count c.args.seed before _ made told can
    c.in-Err.ensures.err c.in-Err.refused.fault c.in-Err.ensures.refused in
    subst (λ (m : List Content). IsExercisedOn disk.sectors c.args.count c.args.seed made (Err c.ended_by_opening.result) before m)
    (sym (ap g.D.Disk.moments c.handed_back-fault.ensures.disk))
    (subst (λ (e : Ended). IsExercisedOn disk.sectors c.args.count c.args.seed made (Err e) before (g.D.Disk.moments c.in-Err.refused.disk.now))
    (sym (c.ended_by_opening.ensures ∙ ap ended_by_opening c.handed_back-fault.ensures.fault)) refused)

pub returns-in-Ok-clause-exercised : goal.returns-in-Ok-clause-exercised
returns-in-Ok-clause-exercised g c made told can =
    let disk = g.D.Disk.identity c.args.disk.now in
    let opened = opened_new c.images_that_open_have_no_fault.ensures disk _ c.args.count c.args.seed (g.D.Disk.moments c.args.disk.now) _ made told can c.in-Ok.ensures.leaves in
    let w = opened_standing Journal None disk.sectors (last_image made) (last_image opened.0) in
    subst (λ (r : Result Tally Ended). IsExercisedOn disk.sectors c.args.count c.args.seed made r (g.D.Disk.moments c.args.disk.now)
    (g.D.Disk.moments c.exercise_device-ended.result.1.now)) (sym c.ended_count.ensures)
    (exercised_on c.images_that_open_have_no_fault.ensures disk _ c.args.count c.args.seed (g.D.Disk.moments c.args.disk.now) _ made told can
    c.in-Ok.ensures.leaves c.exercise_device-ended.result.0 _ (last_image opened.0)
    (c.exercise_device-ended.ensures.exercised w (c.in-Ok.ensures.opened.device made told opened.0 opened.1)))
