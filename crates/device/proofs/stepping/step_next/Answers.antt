use Rattle.device.specs.Answers.{KeepsClearTags}
use Rattle.std.proofs.Common.{◌≡◌, ap, refl, sym, subst, ◌∙◌}
use Rattle.device_parts.specs.declared.answers.Moved.{Moved}
use Rattle.device_parts.specs.declared.answers.Moved.TheVariants.{Idle}
use Rattle.device_model.specs.Actors.{actor_of}
use Rattle.device_model.specs.Progress.{FailedStep, Step}
use Rattle.device_parts.specs.Answers.{moved_answer}
use Rattle.device.specs.declared.mode.DeviceParts.{DeviceParts}
use Rattle.device.specs.declared.mode.Mode.{Mode}
use Rattle.device.specs.declared.mode.Mode.TheVariants.{Bitmap, Direct, Journal}
use Rattle.device_parts.specs.declared.condition.Condition.TheVariants.{Working}
use Rattle.device.specs.Answers.{HasNoWork, WritesInStep}
use Rattle.device.specs.Device.{IsReadyIn, mode_of}
use Rattle.device.specs.Telling.{IsDoneIn, IsDueIn}
use Rattle.journal_device.specs.declared.parts.JournalParts.{JournalParts}
use Rattle.device_model.specs.Mode as Model
use Rattle.image_model.specs.Geometry.{Geometry}
use Rattle.recalculation.specs.Recalculation.{IsOfTagsOrHead, fields_next}
use Rattle.direct_device.specs.Device.{in_direct, kept as direct_kept}
use Rattle.journal_device.specs.Device.{in_journal, kept}
use Rattle.bitmap_device.specs.Device.{in_bitmap, kept as bitmap_kept}
use Rattle.device.proofs.AwaitingLemmas.{no_more_next}
use Rattle.device.proofs.ModeLemmas.{does_plain, idle_plain, if_ok_each, in_bitmap_mode, in_direct_mode, in_journal_mode, parts_in, plain_bitmap, plain_direct, plain_journal}
use Rattle.device.proofs.MovingLemmas.{direct_keeps, direct_stays, direct_tags, head_outside, journal_keeps, journal_tags, step_adds}
use Rattle.device.proofs.StepLemmas.{always_done, bitmap_goes_on, direct_goes_on, finds_nothing, journal_done, journal_goes_on, not_did, rests_recovery}
use Rattle.device.proofs.stepping.step_next.Goals as goal

pub returns-in-Direct-clause-next : goal.returns-in-Direct-clause-next
returns-in-Direct-clause-next g c =
    let parts = c.args.parts.now in
    let actor = actor_of c.args.actor in
    let r = c.in-Direct.recalculation in
    let old = direct_kept parts.common r in
    let new = direct_kept c.step.new.parts c.step.new.recalculation in
    let a = g.D.Disk.moments c.args.disk.now in
    let b = g.D.Disk.moments c.step.new.disk in
    let moved = λ (y : Geometry). no_more_next y r in
    let reads = g.met.D.Disk.reads_an_image c.args.disk.now in
    let W = IsOfTagsOrHead parts.common.tags.geometry in
    let outside = head_outside parts.common.tags.geometry in
    let writes = step_adds c.args.actor parts.common r c.step.ensures.writes in
    does_plain in_direct Model.Direct in_direct_mode plain_direct old new a b
    (direct_stays old a b reads (fields_next r) moved c.step.ensures.heads W outside writes)
    (direct_keeps old a b reads (fields_next r) moved c.step.ensures.heads W outside writes new (g.met.D.Disk.reads_an_image c.step.new.disk))
    (Step actor) (FailedStep actor) moved_answer parts (parts_in parts c.in-Direct.is) c.step.result c.step.ensures.next

pub returns-in-Direct-clause-goes_on : goal.returns-in-Direct-clause-goes_on
returns-in-Direct-clause-goes_on g c =
    rw c.in-Direct.is (direct_goes_on c.args.actor c.args.parts.now.common c.step.new.parts c.in-Direct.recalculation c.step.new.recalculation c.step.result c.step.ensures.goes_on c.step.ensures.fields)

pub returns-in-Direct-clause-idle : goal.returns-in-Direct-clause-idle
returns-in-Direct-clause-idle g c =
    let parts = c.args.parts.now in
    let new : DeviceParts = record { common = c.step.new.parts; mode = Direct c.step.new.recalculation } in
    finds_nothing c.args.actor parts new c.args.disk.now c.step.new.disk c.step.result
    (idle_plain in_direct Model.Direct in_direct_mode plain_direct (direct_kept parts.common c.in-Direct.recalculation)
    (direct_kept c.step.new.parts c.step.new.recalculation)
    (λ (m : Moved). m ≡ Idle) parts c.args.disk.now c.step.new.disk (parts_in parts c.in-Direct.is)
    c.step.result c.step.ensures.idle)
    (always_done c.step.result (IsDueIn c.args.actor new.mode) (IsDoneIn c.args.actor new.mode) tt)

pub returns-in-Direct-clause-quiet : goal.returns-in-Direct-clause-quiet
returns-in-Direct-clause-quiet g c rests =
    c.step.ensures.quiet (subst (λ (m : Mode). HasNoWork (mode_of m) (actor_of c.args.actor)) c.in-Direct.is rests)

pub returns-in-Recovery-clause-next : goal.returns-in-Recovery-clause-next
returns-in-Recovery-clause-next g c =
    rests_recovery c.args.parts.now (g.D.Disk.moments c.args.disk.now) c.args.actor c.in-Recovery.is c.step-in-Recovery.result c.step-in-Recovery.ensures

pub returns-in-Recovery-clause-goes_on : goal.returns-in-Recovery-clause-goes_on
returns-in-Recovery-clause-goes_on g c did = absurd (not_did (sym c.step-in-Recovery.ensures ∙ did))

pub returns-in-Recovery-clause-idle : goal.returns-in-Recovery-clause-idle
returns-in-Recovery-clause-idle g c idle = record {
  parts = refl;
  disk = refl;
  done = λ due. subst (λ (m : Mode). IsDoneIn c.args.actor m) (sym c.in-Recovery.is) tt;
}

pub returns-in-Recovery-clause-tags : goal.returns-in-Recovery-clause-tags
returns-in-Recovery-clause-tags g c =
    subst (λ (m : Mode). KeepsClearTags m c.args.parts.now.common (Step (actor_of c.args.actor)) (g.D.Disk.moments c.args.disk.now) (g.D.Disk.moments c.args.disk.now)) (sym c.in-Recovery.is) tt

pub returns-in-Journal-clause-next : goal.returns-in-Journal-clause-next
returns-in-Journal-clause-next g c =
    let parts = c.args.parts.now in
    let actor = actor_of c.args.actor in
    let state = c.in-Journal.state in
    let r = state.recalculation in
    let old = kept parts.common state in
    let new = kept c.step-in-Journal.new.parts c.step-in-Journal.new.state in
    let a = g.D.Disk.moments c.args.disk.now in
    let b = g.D.Disk.moments c.step-in-Journal.new.disk in
    does_plain in_journal Model.Journal in_journal_mode plain_journal old new a b (λ w is. tt)
    (journal_keeps old a b (fields_next r) (λ y. no_more_next y r) c.step-in-Journal.ensures.heads new (g.met.D.Disk.reads_an_image c.step-in-Journal.new.disk))
    (Step actor) (FailedStep actor) moved_answer parts (parts_in parts c.in-Journal.is) c.step-in-Journal.result c.step-in-Journal.ensures.next

pub returns-in-Journal-clause-idle : goal.returns-in-Journal-clause-idle
returns-in-Journal-clause-idle g c =
    let parts = c.args.parts.now in
    let state = c.in-Journal.state in
    let new : DeviceParts = record { common = c.step-in-Journal.new.parts; mode = Journal c.step-in-Journal.new.state } in
    finds_nothing c.args.actor parts new c.args.disk.now c.step-in-Journal.new.disk c.step-in-Journal.result
    (idle_plain in_journal Model.Journal in_journal_mode plain_journal (kept parts.common state)
    (kept c.step-in-Journal.new.parts c.step-in-Journal.new.state)
    (λ (m : Moved). m ≡ Idle) parts c.args.disk.now c.step-in-Journal.new.disk (parts_in parts c.in-Journal.is)
    c.step-in-Journal.result c.step-in-Journal.ensures.idle)
    (journal_done c.args.actor state c.step-in-Journal.new.state c.step-in-Journal.result
    (if_ok_each c.step-in-Journal.result (λ moved idle none. ap (λ (k : JournalParts). k.state) (idle none).0) c.step-in-Journal.ensures.idle)
    c.step-in-Journal.ensures.moves)

pub returns-in-Journal-clause-goes_on : goal.returns-in-Journal-clause-goes_on
returns-in-Journal-clause-goes_on g c =
    let state = c.in-Journal.state in
    rw c.in-Journal.is (journal_goes_on c.args.actor state c.step-in-Journal.new.state c.step-in-Journal.result
    c.step-in-Journal.ensures.goes_on c.step-in-Journal.ensures.moves)

pub returns-in-Bitmap-clause-goes_on : goal.returns-in-Bitmap-clause-goes_on
returns-in-Bitmap-clause-goes_on g c =
    rw c.in-Bitmap.is (bitmap_goes_on c.args.actor c.in-Bitmap.regions c.step-in-Bitmap.new.regions c.step-in-Bitmap.result c.step-in-Bitmap.ensures.goes_on)

pub returns-in-Journal-clause-quiet : goal.returns-in-Journal-clause-quiet
returns-in-Journal-clause-quiet g c rests =
    c.step-in-Journal.ensures.quiet (subst (λ (m : Mode). HasNoWork (mode_of m) (actor_of c.args.actor)) c.in-Journal.is rests)

pub returns-in-Bitmap-clause-next : goal.returns-in-Bitmap-clause-next
returns-in-Bitmap-clause-next g c =
    let parts = c.args.parts.now in
    let actor = actor_of c.args.actor in
    does_plain in_bitmap Model.Bitmap in_bitmap_mode plain_bitmap (bitmap_kept parts.common c.in-Bitmap.regions)
    (bitmap_kept c.step-in-Bitmap.new.parts c.step-in-Bitmap.new.regions)
    (g.D.Disk.moments c.args.disk.now) (g.D.Disk.moments c.step-in-Bitmap.new.disk) (λ w is. tt) (λ w event d is after. tt)
    (Step actor) (FailedStep actor) moved_answer parts (parts_in parts c.in-Bitmap.is) c.step-in-Bitmap.result c.step-in-Bitmap.ensures.next

pub returns-in-Bitmap-clause-idle : goal.returns-in-Bitmap-clause-idle
returns-in-Bitmap-clause-idle g c =
    let parts = c.args.parts.now in
    let new : DeviceParts = record { common = c.step-in-Bitmap.new.parts; mode = Bitmap c.step-in-Bitmap.new.regions } in
    finds_nothing c.args.actor parts new c.args.disk.now c.step-in-Bitmap.new.disk c.step-in-Bitmap.result
    (idle_plain in_bitmap Model.Bitmap in_bitmap_mode plain_bitmap (bitmap_kept parts.common c.in-Bitmap.regions)
    (bitmap_kept c.step-in-Bitmap.new.parts c.step-in-Bitmap.new.regions)
    (λ (m : Moved). m ≡ Idle) parts c.args.disk.now c.step-in-Bitmap.new.disk (parts_in parts c.in-Bitmap.is)
    c.step-in-Bitmap.result c.step-in-Bitmap.ensures.idle)
    (always_done c.step-in-Bitmap.result (IsDueIn c.args.actor new.mode) (IsDoneIn c.args.actor new.mode) tt)

pub returns-in-Bitmap-clause-quiet : goal.returns-in-Bitmap-clause-quiet
returns-in-Bitmap-clause-quiet g c rests =
    c.step-in-Bitmap.ensures.quiet (subst (λ (m : Mode). HasNoWork (mode_of m) (actor_of c.args.actor)) c.in-Bitmap.is rests)

pub returns-in-Bitmap-clause-writes : goal.returns-in-Bitmap-clause-writes
returns-in-Bitmap-clause-writes g c =
    let parts = c.args.parts.now in
    let ready = subst (λ (m : Mode). IsReadyIn m Working parts.common (g.D.Disk.identity c.args.disk.now) (g.D.Disk.moments c.args.disk.now)) c.in-Bitmap.is c.requires in
    subst (λ (m : Mode). WritesInStep m c.args.actor parts.common
    (g.D.Disk.moments c.args.disk.now) (g.D.Disk.moments c.step-in-Bitmap.new.disk)) (sym c.in-Bitmap.is)
    (ready.geometry, c.step-in-Bitmap.ensures.writes)

pub returns-in-Direct-clause-tags : goal.returns-in-Direct-clause-tags
returns-in-Direct-clause-tags g c =
    let common = c.args.parts.now.common in
    let r = c.in-Direct.recalculation in
    let a = g.D.Disk.moments c.args.disk.now in
    let b = g.D.Disk.moments c.step.new.disk in
    subst (λ (m : Mode). KeepsClearTags m common (Step (actor_of c.args.actor)) a b) (sym c.in-Direct.is)
    (direct_tags (direct_kept common r) a b (g.met.D.Disk.reads_an_image c.args.disk.now) (fields_next r) (λ y. no_more_next y r) c.step.ensures.heads)

pub returns-in-Journal-clause-tags : goal.returns-in-Journal-clause-tags
returns-in-Journal-clause-tags g c =
    let common = c.args.parts.now.common in
    let state = c.in-Journal.state in
    let r = state.recalculation in
    let a = g.D.Disk.moments c.args.disk.now in
    let b = g.D.Disk.moments c.step-in-Journal.new.disk in
    subst (λ (m : Mode). KeepsClearTags m common (Step (actor_of c.args.actor)) a b) (sym c.in-Journal.is)
    (journal_tags (kept common state) a b (fields_next r) (λ y. no_more_next y r) c.step-in-Journal.ensures.heads)

pub returns-in-Bitmap-clause-tags : goal.returns-in-Bitmap-clause-tags
returns-in-Bitmap-clause-tags g c =
    subst (λ (m : Mode). KeepsClearTags m c.args.parts.now.common (Step (actor_of c.args.actor)) (g.D.Disk.moments c.args.disk.now) (g.D.Disk.moments c.step-in-Bitmap.new.disk)) (sym c.in-Bitmap.is) c.step-in-Bitmap.ensures.tags
