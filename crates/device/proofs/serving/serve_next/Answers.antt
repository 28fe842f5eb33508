use Rattle.device_model.specs.Progress.{FailedServe}
use Rattle.device.specs.Answers.{KeepsClearTags}
use Rattle.std.proofs.Common.{◌≡◌, false, ◌∙◌, ap, sym, subst}
use Rattle.device_parts.specs.declared.condition.Condition.TheVariants.{Working}
use Rattle.device.specs.declared.mode.Mode.{Mode}
use Rattle.device.specs.Answers.{WritesInServe}
use Rattle.device.specs.Device.{IsReadyIn, any_mode, mode_of}
use Rattle.device.specs.Telling.{has_room_in}
use Rattle.journal_device.specs.Telling.{TellsOf}
use Rattle.device_parts.specs.Answers.{ServesNext}
use Rattle.image_model.specs.Geometry.{Geometry}
use Rattle.place_model.specs.Places.{IsOfPlaces}
use Rattle.request_slots.specs.Flight.{turn_of}
use Rattle.direct_device.specs.Answers.{IsWrittenNext}
use Rattle.direct_device.specs.Device.{in_direct, kept as direct_kept}
use Rattle.device_model.specs.Mode as Model
use Rattle.journal_device.specs.Device.{in_journal, kept}
use Rattle.bitmap_device.specs.Device.{in_bitmap, kept as bitmap_kept}
use Rattle.recovery_device.specs.Device.{in_recovery}
use Rattle.device.proofs.AwaitingLemmas.{no_more_same}
use Rattle.device.proofs.JournalWritesLemmas.{serve_fields}
use Rattle.device.proofs.ModeLemmas.{in_bitmap_mode, in_direct_mode, in_journal_mode, in_recovery_mode, parts_in, plain_bitmap, plain_direct, plain_journal, plain_recovery, serves_plain}
use Rattle.device.proofs.MovingLemmas.{direct_keeps, direct_stays, direct_tags, journal_keeps, journal_tags, places_fields, places_outside}
use Rattle.device.proofs.TellingLemmas.{no_bitmap, no_direct, no_recovery}
use Rattle.device.proofs.serving.serve_next.Goals as goal

pub returns-in-Direct-clause-next : goal.returns-in-Direct-clause-next
returns-in-Direct-clause-next g c =
    let parts = c.args.parts.now in
    let r = c.in-Direct.recalculation in
    let old = direct_kept parts.common r in
    let new = direct_kept c.serve.new.parts c.serve.new.recalculation in
    let a = g.D.Disk.moments c.args.disk.now in
    let b = g.D.Disk.moments c.serve.new.disk in
    let same = λ (y : Geometry). no_more_same y r.position in
    let W = IsOfPlaces parts.common.tags.geometry (IsWrittenNext parts.common.slots c.args.ticket.now) in
    let outside = places_outside (IsWrittenNext parts.common.slots c.args.ticket.now) parts.common.tags.geometry in
    let heads = places_fields (IsWrittenNext parts.common.slots c.args.ticket.now) old a b c.serve.ensures.writes.each in
    let reads = g.met.D.Disk.reads_an_image c.args.disk.now in
    serves_plain in_direct Model.Direct in_direct_mode plain_direct old new a b
    (direct_stays old a b reads r.position same heads W outside c.serve.ensures.writes.each)
    (direct_keeps old a b reads r.position same heads W outside c.serve.ensures.writes.each new (g.met.D.Disk.reads_an_image c.serve.new.disk))
    c.args.ticket.now parts (parts_in parts c.in-Direct.is) c.serve.result c.serve.ensures.next

pub returns-in-Journal-clause-next : goal.returns-in-Journal-clause-next
returns-in-Journal-clause-next g c =
    let parts = c.args.parts.now in
    let state = c.in-Journal.state in
    let r = state.recalculation in
    let old = kept parts.common state in
    let new = kept c.serve-in-Journal.new.parts c.serve-in-Journal.new.state in
    let a = g.D.Disk.moments c.args.disk.now in
    let b = g.D.Disk.moments c.serve-in-Journal.new.disk in
    serves_plain in_journal Model.Journal in_journal_mode plain_journal old new a b (λ w is. tt)
    (journal_keeps old a b r.position (λ y. no_more_same y r.position)
    (λ w is. serve_fields w parts.common state.journal r a is (turn_of parts.common.slots c.args.ticket.now) c.serve-in-Journal.ensures.writes)
    new (g.met.D.Disk.reads_an_image c.serve-in-Journal.new.disk))
    c.args.ticket.now parts (parts_in parts c.in-Journal.is) c.serve-in-Journal.result c.serve-in-Journal.ensures.next

pub returns-in-Bitmap-clause-next : goal.returns-in-Bitmap-clause-next
returns-in-Bitmap-clause-next g c =
    let parts = c.args.parts.now in
    serves_plain in_bitmap Model.Bitmap in_bitmap_mode plain_bitmap (bitmap_kept parts.common c.in-Bitmap.regions)
    (bitmap_kept c.serve-in-Bitmap.new.parts c.serve-in-Bitmap.new.regions)
    (g.D.Disk.moments c.args.disk.now) (g.D.Disk.moments c.serve-in-Bitmap.new.disk) (λ w is. tt) (λ w event d is after. tt)
    c.args.ticket.now parts (parts_in parts c.in-Bitmap.is) c.serve-in-Bitmap.result c.serve-in-Bitmap.ensures.next

pub returns-in-Bitmap-clause-writes : goal.returns-in-Bitmap-clause-writes
returns-in-Bitmap-clause-writes g c =
    let parts = c.args.parts.now in
    let ready = subst (λ (m : Mode). IsReadyIn m Working parts.common (g.D.Disk.identity c.args.disk.now) (g.D.Disk.moments c.args.disk.now)) c.in-Bitmap.is c.requires.ready in
    subst (λ (m : Mode). WritesInServe m c.args.ticket.now parts.common c.serve-in-Bitmap.new.parts
    (g.D.Disk.moments c.args.disk.now) (g.D.Disk.moments c.serve-in-Bitmap.new.disk)) (sym c.in-Bitmap.is)
    (ready.geometry, c.serve-in-Bitmap.ensures.writes)

pub returns-in-Recovery-clause-next : goal.returns-in-Recovery-clause-next
returns-in-Recovery-clause-next g c =
    let parts = c.args.parts.now in
    let before = g.D.Disk.moments c.args.disk.now in
    let after = g.D.Disk.moments c.serve-in-Recovery.new.disk in
    subst (λ (m : Mode). ServesNext any_mode c.args.ticket.now parts (record { common = c.serve-in-Recovery.new.parts; mode = m }) before after
    c.serve-in-Recovery.result) (sym c.in-Recovery.is)
    (serves_plain in_recovery Model.Recovery in_recovery_mode plain_recovery parts.common c.serve-in-Recovery.new.parts before after (λ w is. tt) (λ w event d is later. tt)
    c.args.ticket.now parts (parts_in parts c.in-Recovery.is) c.serve-in-Recovery.result c.serve-in-Recovery.ensures.next)

pub returns-in-Recovery-clause-tags : goal.returns-in-Recovery-clause-tags
returns-in-Recovery-clause-tags g c =
    subst (λ (m : Mode). KeepsClearTags m c.args.parts.now.common (FailedServe c.args.ticket.now) (g.D.Disk.moments c.args.disk.now) (g.D.Disk.moments c.serve-in-Recovery.new.disk)) (sym c.in-Recovery.is) tt

pub returns-in-Direct-clause-tags : goal.returns-in-Direct-clause-tags
returns-in-Direct-clause-tags g c =
    let common = c.args.parts.now.common in
    let r = c.in-Direct.recalculation in
    let a = g.D.Disk.moments c.args.disk.now in
    let b = g.D.Disk.moments c.serve.new.disk in
    let old = direct_kept common r in
    subst (λ (m : Mode). KeepsClearTags m common (FailedServe c.args.ticket.now) a b) (sym c.in-Direct.is)
    (direct_tags old a b (g.met.D.Disk.reads_an_image c.args.disk.now) r.position (λ y. no_more_same y r.position)
    (places_fields (IsWrittenNext common.slots c.args.ticket.now) old a b c.serve.ensures.writes.each))

pub returns-in-Journal-clause-tags : goal.returns-in-Journal-clause-tags
returns-in-Journal-clause-tags g c =
    let common = c.args.parts.now.common in
    let state = c.in-Journal.state in
    let r = state.recalculation in
    let a = g.D.Disk.moments c.args.disk.now in
    let b = g.D.Disk.moments c.serve-in-Journal.new.disk in
    subst (λ (m : Mode). KeepsClearTags m common (FailedServe c.args.ticket.now) a b) (sym c.in-Journal.is)
    (journal_tags (kept common state) a b r.position (λ y. no_more_same y r.position)
    (λ w is. serve_fields w common state.journal r a is (turn_of common.slots c.args.ticket.now) c.serve-in-Journal.ensures.writes))

pub returns-in-Bitmap-clause-tags : goal.returns-in-Bitmap-clause-tags
returns-in-Bitmap-clause-tags g c =
    subst (λ (m : Mode). KeepsClearTags m c.args.parts.now.common (FailedServe c.args.ticket.now) (g.D.Disk.moments c.args.disk.now) (g.D.Disk.moments c.serve-in-Bitmap.new.disk)) (sym c.in-Bitmap.is) c.serve-in-Bitmap.ensures.tags

-- ---- what it tells

pub returns-in-Direct-clause-tells : goal.returns-in-Direct-clause-tells
returns-in-Direct-clause-tells g c mode = absurd (no_direct (sym (ap mode_of c.in-Direct.is) ∙ mode))

pub returns-in-Journal-clause-tells : goal.returns-in-Journal-clause-tells
returns-in-Journal-clause-tells g c mode =
    subst (λ (m : Mode). TellsOf c.args.ticket.now c.args.parts.now.common.slots c.serve-in-Journal.new.parts.slots (has_room_in m ≡ false)
    c.serve-in-Journal.result) (sym c.in-Journal.is) c.serve-in-Journal.ensures.tells

pub returns-in-Bitmap-clause-tells : goal.returns-in-Bitmap-clause-tells
returns-in-Bitmap-clause-tells g c mode = absurd (no_bitmap (sym (ap mode_of c.in-Bitmap.is) ∙ mode))

pub returns-in-Recovery-clause-tells : goal.returns-in-Recovery-clause-tells
returns-in-Recovery-clause-tells g c mode = absurd (no_recovery (sym (ap mode_of c.in-Recovery.is) ∙ mode))
