use Rattle.std.proofs.Common.{rules, refl, sym, ◌∙◌, subst, ℕ, Option, IfSome}
use Rattle.direct_mode.proofs.ServingLemmas.{on_err_always}
use Rattle.device_model.specs.Progress as Model
use Rattle.device_model.specs.Regions.{recalculated_region}
use Rattle.device_parts.specs.declared.answers.Moved.TheVariants as Moves
use Rattle.device_parts.specs.declared.condition.Condition.TheVariants.{Broken, Working}
use Rattle.device_parts.specs.declared.parts.Parts.{Parts}
use Rattle.device_parts.specs.Answers.{moved_answer}
use Rattle.bitmap_mode.specs.Reading.{IsTaken}
use Rattle.bitmap_mode.specs.States.{HasCounts, counts_of}
use Rattle.bitmap_device.specs.Device.{standing_on}
use Rattle.bitmap_device.proofs.OverDisk.{done_on, is_done_on}
use Rattle.bitmap_device.proofs.StepLemmas.{recalc_done, recalc_failed, recalc_fewer, recalc_idle, recalc_tags}
use Rattle.bitmap_device.proofs.stepping.recalculate.Goals as goal

pub returns-in_err-recalculate-clause-next : goal.returns-in_err-recalculate-clause-next
returns-in_err-recalculate-clause-next g c =
    let parts = c.args.parts.now in
    let states = c.args.regions.now in
    let a = g.D.Disk.moments c.args.disk.now in
    let b = g.D.Disk.moments c.recalculate.new.disk in
    let new : Parts = record parts { tags = c.recalculate.new.tags } in
    record {
      done = search rules;
      err = on_err_always c.from_residual.result (λ w is.
          done_on w is.disk is.format (Model.FailedStep Model.Recalc) a b Broken new c.recalculate.new.self
          (recalc_failed (standing_on w is.disk) parts states a is.over (g.D.Disk.identity c.args.disk.now) c.requires new c.recalculate.new.self b refl refl
          c.recalculate.ensures.through));
    }

pub returns-in_err-recalculate-clause-tags : goal.returns-in_err-recalculate-clause-tags
returns-in_err-recalculate-clause-tags g c =
    recalc_tags c.args.parts.now c.args.regions.now (g.D.Disk.identity c.args.disk.now) (g.D.Disk.moments c.args.disk.now) (g.D.Disk.moments c.recalculate.new.disk)
    c.requires c.recalculate.ensures.through

pub returns-in-Some-clause-next : goal.returns-in-Some-clause-next
returns-in-Some-clause-next g c =
    let parts = c.args.parts.now in
    let states = c.args.regions.now in
    let a = g.D.Disk.moments c.args.disk.now in
    let b = g.D.Disk.moments c.recalculate.new.disk in
    let new : Parts = record parts { tags = c.recalculate.new.tags } in
    record {
      done = λ w is.
          is_done_on w is.disk is.format (Model.Step Model.Recalc) a b (moved_answer Moves.Did) Working new c.recalculate.new.self
          (recalc_done (standing_on w is.disk) parts states a is.over (g.D.Disk.identity c.args.disk.now) c.requires new c.recalculate.new.self b refl refl
          c.recalculate.ensures.through c.in-Some.field-0 (sym c.in-Some.is ∙ c.in_ok-recalculate.ensures.least)
          (subst (λ (o : Option ℕ). IfSome o (λ region. IsTaken parts.maker region states c.recalculate.new.self parts.tags c.recalculate.new.tags a b)) c.in-Some.is
          c.in_ok-recalculate.ensures.taken));
      err = tt;
    }

pub returns-in-Some-clause-goes_on : goal.returns-in-Some-clause-goes_on
returns-in-Some-clause-goes_on g c = λ did.
    let states = c.args.regions.now in
    recalc_fewer states c.recalculate.new.self c.in-Some.field-0 (sym c.in_ok-recalculate.ensures.least ∙ c.in-Some.is) c.recalculate.ensures.stays.regions_
    (subst (λ (o : Option ℕ). IfSome o (λ region. HasCounts c.recalculate.new.self states.geometry (recalculated_region region (counts_of states)))) c.in-Some.is
    c.in_ok-recalculate.ensures.counts)

pub returns-in-Some-clause-tags : goal.returns-in-Some-clause-tags
returns-in-Some-clause-tags g c =
    recalc_tags c.args.parts.now c.args.regions.now (g.D.Disk.identity c.args.disk.now) (g.D.Disk.moments c.args.disk.now) (g.D.Disk.moments c.recalculate.new.disk)
    c.requires c.recalculate.ensures.through

pub returns-in-None-clause-next : goal.returns-in-None-clause-next
returns-in-None-clause-next g c =
    let parts = c.args.parts.now in
    let states = c.args.regions.now in
    let a = g.D.Disk.moments c.args.disk.now in
    let none = sym c.in_ok-recalculate.ensures.least ∙ c.in-None.is in
    let idle = c.in_ok-recalculate.ensures.idle none in
    rw (idle.1, idle.2, idle.3) (record {
      done = λ w is.
          is_done_on w is.disk is.format (Model.Step Model.Recalc) a a (moved_answer Moves.Idle) Working parts states
          (recalc_idle (standing_on w is.disk) parts states a is.over (g.D.Disk.identity c.args.disk.now) c.requires (sym none));
      err = tt;
    })
