use Rattle.std.proofs.Common.{rules, refl, sym, ◌∙◌, ap, subst, ◌<◌, ℕ, Option, IfSome}
use Rattle.direct_mode.proofs.ServingLemmas.{on_err_always}
use Rattle.device_model.specs.Progress as Model
use Rattle.tag_store.specs.Store.{given_tags}
use Rattle.device_parts.specs.declared.condition.Condition.TheVariants.{Broken, Working}
use Rattle.device_parts.specs.declared.parts.Parts.{Parts}
use Rattle.recalculation.specs.Recalculation.{StepsPosition, count_of, next_of}
use Rattle.direct_device.specs.Device.{standing_on}
use Rattle.direct_device.proofs.FieldsLemmas.{step_heads}
use Rattle.direct_device.proofs.OverDisk.{done_on}
use Rattle.direct_device.proofs.StepLemmas.{err_or_ok, failed_next, step_done, step_idle}
use Rattle.direct_device.proofs.stepping.recalculate.Goals as goal
use Rattle.recalculation.proofs.FieldsLemmas.{fields_stepped, region_writes}

pub returns-in_err-step-clause-next : goal.returns-in_err-step-clause-next
returns-in_err-step-clause-next g c =
    let parts = c.args.parts.now in
    let old = c.args.recalculation.now in
    let a = g.D.Disk.moments c.args.disk.now in
    let b = g.D.Disk.moments c.step.new.disk in
    let new : Parts = record parts { tags = c.step.new.tags } in
    record {
      done = search rules;
      err = on_err_always c.from_residual.result (λ w is.
          done_on w is.disk is.format (Model.FailedStep Model.Recalc) a b Broken new c.step.new.self
          (failed_next (standing_on w is.disk) parts old a is.over c.step.ensures.position (λ none. err_or_ok c.step.result _ _ (c.step.ensures.idle none).0 c.in_err-step.was)
          new c.step.new.self b refl refl c.step.ensures.through));
    }

pub returns-in-Some-clause-next : goal.returns-in-Some-clause-next
returns-in-Some-clause-next g c =
    let parts = c.args.parts.now in
    let old = c.args.recalculation.now in
    let last = c.step.new.self in
    let a = g.D.Disk.moments c.args.disk.now in
    let b = g.D.Disk.moments c.step.new.disk in
    let new : Parts = record parts { tags = c.step.new.tags } in
    let steps = subst (λ (o : Option ℕ). IfSome o (λ region. StepsPosition parts.maker region old last parts.tags.geometry (given_tags parts.tags) (given_tags c.step.new.tags) a b)) c.in-Some.is c.in_ok-step.ensures.taken in
    record {
      done = λ w is.
          let done = step_done (standing_on w is.disk) parts old a is.over c.in-Some.field-0 (sym c.in_ok-step.ensures.least ∙ c.in-Some.is) c.step.ensures.position last c.step.new.tags b steps new refl
          c.step.ensures.stays.places refl refl in
          record { answers = done.answers; done = done_on w is.disk is.format (Model.Step Model.Recalc) a b Working new last done.done };
      err = tt;
    }

pub returns-in-Some-clause-fields : goal.returns-in-Some-clause-fields
returns-in-Some-clause-fields g c = λ did.
    let parts = c.args.parts.now in
    let old = c.args.recalculation.now in
    let last = c.step.new.self in
    let a = g.D.Disk.moments c.args.disk.now in
    let b = g.D.Disk.moments c.step.new.disk in
    fields_stepped parts.maker c.in-Some.field-0 old last parts.tags.geometry (given_tags parts.tags) (given_tags c.step.new.tags) a b
    (subst (λ (o : Option ℕ). IfSome o (λ region. StepsPosition parts.maker region old last parts.tags.geometry (given_tags parts.tags) (given_tags c.step.new.tags) a b)) c.in-Some.is c.in_ok-step.ensures.taken)

pub returns-in-Some-clause-goes_on : goal.returns-in-Some-clause-goes_on
returns-in-Some-clause-goes_on g c = λ did. subst (λ (o : Option ℕ). IfSome o (λ region. count_of c.step.new.self < count_of c.args.recalculation.now)) c.in-Some.is c.in_ok-step.ensures.fewer

pub returns-in-None-clause-next : goal.returns-in-None-clause-next
returns-in-None-clause-next g c =
    let parts = c.args.parts.now in
    let old = c.args.recalculation.now in
    let a = g.D.Disk.moments c.args.disk.now in
    let none = sym c.in_ok-step.ensures.least ∙ c.in-None.is in
    let idle = c.step.ensures.idle none in
    rw (idle.1, idle.2, idle.3) (record {
      done = λ w is.
          let done = step_idle (standing_on w is.disk) parts old a is.over none in
          record { answers = done.answers; done = done_on w is.disk is.format (Model.Step Model.Recalc) a a Working parts old done.done };
      err = tt;
    })

pub returns-in_err-step-clause-heads : goal.returns-in_err-step-clause-heads
returns-in_err-step-clause-heads g c =
    step_heads c.args.parts.now c.args.recalculation.now (g.D.Disk.moments c.args.disk.now) c.step.ensures.position (g.D.Disk.moments c.step.new.disk)
    (λ none. ap (λ y. g.D.Disk.moments y) (c.step.ensures.idle none).1) c.step.ensures.through

pub returns-in_err-step-clause-writes : goal.returns-in_err-step-clause-writes
returns-in_err-step-clause-writes g c =
    region_writes (next_of c.args.recalculation.now) c.args.parts.now.tags.geometry (g.D.Disk.moments c.args.disk.now) (g.D.Disk.moments c.step.new.disk)
    (λ none. ap (λ y. g.D.Disk.moments y) (c.step.ensures.idle none).1) c.step.ensures.writes

pub returns-in-Some-clause-heads : goal.returns-in-Some-clause-heads
returns-in-Some-clause-heads g c =
    step_heads c.args.parts.now c.args.recalculation.now (g.D.Disk.moments c.args.disk.now) c.step.ensures.position (g.D.Disk.moments c.step.new.disk)
    (λ none. ap (λ y. g.D.Disk.moments y) (c.step.ensures.idle none).1) c.step.ensures.through

pub returns-in-Some-clause-writes : goal.returns-in-Some-clause-writes
returns-in-Some-clause-writes g c =
    region_writes (next_of c.args.recalculation.now) c.args.parts.now.tags.geometry (g.D.Disk.moments c.args.disk.now) (g.D.Disk.moments c.step.new.disk)
    (λ none. ap (λ y. g.D.Disk.moments y) (c.step.ensures.idle none).1) c.step.ensures.writes

pub returns-in-None-clause-heads : goal.returns-in-None-clause-heads
returns-in-None-clause-heads g c =
    step_heads c.args.parts.now c.args.recalculation.now (g.D.Disk.moments c.args.disk.now) c.step.ensures.position (g.D.Disk.moments c.step.new.disk)
    (λ none. ap (λ y. g.D.Disk.moments y) (c.step.ensures.idle none).1) c.step.ensures.through

pub returns-in-None-clause-writes : goal.returns-in-None-clause-writes
returns-in-None-clause-writes g c =
    region_writes (next_of c.args.recalculation.now) c.args.parts.now.tags.geometry (g.D.Disk.moments c.args.disk.now) (g.D.Disk.moments c.step.new.disk)
    (λ none. ap (λ y. g.D.Disk.moments y) (c.step.ensures.idle none).1) c.step.ensures.writes
