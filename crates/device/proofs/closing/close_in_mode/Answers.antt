use Rattle.device_model.specs.Progress.{Close}
use Rattle.device.specs.Answers.{KeepsClearTags}
use Rattle.std.proofs.Common.{sym, subst, refl}
use Rattle.image_model.specs.declared.flags.TheConstants.{RECALCULATING}
use Rattle.image_model.specs.Superblock.{has_flag}
use Rattle.recalculation.specs.Recalculation.{IsOfTagsOrHead, fields_left}
use Rattle.direct_device.specs.Device.{in_direct, kept as direct_kept}
use Rattle.device_parts.specs.declared.condition.Condition.TheVariants.{Working}
use Rattle.device.specs.declared.mode.Mode.{Mode}
use Rattle.device.specs.Answers.{IsAtRest, WritesInClose}
use Rattle.device.specs.Device.{IsDeviceIn, IsReadyIn}
use Rattle.device_model.specs.Mode as Model
use Rattle.journal_device.specs.Device.{in_journal, kept}
use Rattle.bitmap_device.specs.Device.{in_bitmap, kept as bitmap_kept}
use Rattle.device.proofs.AwaitingLemmas.{no_more_left}
use Rattle.device.proofs.ModeLemmas.{ends_plain, in_bitmap_mode, in_direct_mode, in_journal_mode, on_ok_each, parts_in, plain_bitmap, plain_direct, plain_journal}
use Rattle.device.proofs.MovingLemmas.{close_adds, direct_stays, direct_tags, head_outside, journal_tags}
use Rattle.device.proofs.RestLemmas.{direct_rests, journal_rests}
use Rattle.device.proofs.StepLemmas.{ends_recovery}
use Rattle.device.proofs.closing.close_in_mode.Goals as goal

pub returns-in-Direct-clause-ends : goal.returns-in-Direct-clause-ends
returns-in-Direct-clause-ends g c =
    let parts = c.args.parts in
    let r = c.in-Direct.recalculation in
    let old = direct_kept parts.common r in
    let a = g.D.Disk.moments c.args.disk.now in
    let b = g.D.Disk.moments c.close.new.disk in
    ends_plain in_direct Model.Direct in_direct_mode plain_direct old a b
    (direct_stays old a b (g.met.D.Disk.reads_an_image c.args.disk.now) (fields_left r) (λ y. no_more_left y r) c.close.ensures.heads
    (IsOfTagsOrHead parts.common.tags.geometry) (head_outside parts.common.tags.geometry)
    (close_adds (has_flag RECALCULATING r.position.flags) parts.common.tags.geometry c.close.ensures.writes))
    parts (parts_in parts c.in-Direct.is) c.close.result c.close.ensures.ends

pub returns-in-Direct-clause-rests : goal.returns-in-Direct-clause-rests
returns-in-Direct-clause-rests g c =
    let parts = c.args.parts in
    let a = g.D.Disk.moments c.args.disk.now in
    on_ok_each c.close.result (λ left w is.
    subst (λ (m : Mode). IsAtRest m w (g.D.Disk.moments c.close.new.disk)) (sym c.in-Direct.is)
    (let device = (subst (λ (m : Mode). IsDeviceIn m w Working parts.common a) c.in-Direct.is is).direct in
    direct_rests w (direct_kept parts.common c.in-Direct.recalculation) a (g.D.Disk.moments c.close.new.disk) device (left w device)))
    c.close.ensures.fields

pub returns-in-Journal-clause-ends : goal.returns-in-Journal-clause-ends
returns-in-Journal-clause-ends g c =
    let parts = c.args.parts in
    let state = c.in-Journal.state in
    ends_plain in_journal Model.Journal in_journal_mode plain_journal (kept parts.common state)
    (g.D.Disk.moments c.args.disk.now) (g.D.Disk.moments c.close-in-Journal.new.disk) (λ w is. tt)
    parts (parts_in parts c.in-Journal.is) c.close-in-Journal.result c.close-in-Journal.ensures.ends

pub returns-in-Journal-clause-rests : goal.returns-in-Journal-clause-rests
returns-in-Journal-clause-rests g c =
    let parts = c.args.parts in
    let a = g.D.Disk.moments c.args.disk.now in
    on_ok_each c.close-in-Journal.result (λ placed w is.
    subst (λ (m : Mode). IsAtRest m w (g.D.Disk.moments c.close-in-Journal.new.disk)) (sym c.in-Journal.is)
    (let device = (subst (λ (m : Mode). IsDeviceIn m w Working parts.common a) c.in-Journal.is is).journaled in
    journal_rests w (kept parts.common c.in-Journal.state) a (g.D.Disk.moments c.close-in-Journal.new.disk) device (placed w device)))
    c.close-in-Journal.ensures.placed

pub returns-in-Bitmap-clause-ends : goal.returns-in-Bitmap-clause-ends
returns-in-Bitmap-clause-ends g c =
    let parts = c.args.parts in
    ends_plain in_bitmap Model.Bitmap in_bitmap_mode plain_bitmap (bitmap_kept parts.common c.in-Bitmap.regions)
    (g.D.Disk.moments c.args.disk.now) (g.D.Disk.moments c.close-in-Bitmap.new.disk) (λ w is. tt)
    parts (parts_in parts c.in-Bitmap.is) c.close-in-Bitmap.result c.close-in-Bitmap.ensures.ends

pub returns-in-Bitmap-clause-rests : goal.returns-in-Bitmap-clause-rests
returns-in-Bitmap-clause-rests g c =
    let parts = c.args.parts in
    let a = g.D.Disk.moments c.args.disk.now in
    on_ok_each c.close-in-Bitmap.result (λ left w is.
    subst (λ (m : Mode). IsAtRest m w (g.D.Disk.moments c.close-in-Bitmap.new.disk)) (sym c.in-Bitmap.is)
    (left w (subst (λ (m : Mode). IsDeviceIn m w Working parts.common a) c.in-Bitmap.is is)))
    c.close-in-Bitmap.ensures.bitmap

pub returns-in-Bitmap-clause-writes : goal.returns-in-Bitmap-clause-writes
returns-in-Bitmap-clause-writes g c =
    let parts = c.args.parts in
    let ready = subst (λ (m : Mode). IsReadyIn m Working parts.common (g.D.Disk.identity c.args.disk.now) (g.D.Disk.moments c.args.disk.now)) c.in-Bitmap.is c.requires in
    subst (λ (m : Mode). WritesInClose m parts.common
    (g.D.Disk.moments c.args.disk.now) (g.D.Disk.moments c.close-in-Bitmap.new.disk)) (sym c.in-Bitmap.is)
    (ready.geometry, c.close-in-Bitmap.ensures.writes)

pub returns-in-Direct-clause-tags : goal.returns-in-Direct-clause-tags
returns-in-Direct-clause-tags g c =
    let common = c.args.parts.common in
    let r = c.in-Direct.recalculation in
    let a = g.D.Disk.moments c.args.disk.now in
    let b = g.D.Disk.moments c.close.new.disk in
    subst (λ (m : Mode). KeepsClearTags m common Close a b) (sym c.in-Direct.is)
    (direct_tags (direct_kept common r) a b (g.met.D.Disk.reads_an_image c.args.disk.now) (fields_left r) (λ y. no_more_left y r) c.close.ensures.heads)

pub returns-in-Journal-clause-tags : goal.returns-in-Journal-clause-tags
returns-in-Journal-clause-tags g c =
    let common = c.args.parts.common in
    let state = c.in-Journal.state in
    let r = state.recalculation in
    let a = g.D.Disk.moments c.args.disk.now in
    let b = g.D.Disk.moments c.close-in-Journal.new.disk in
    subst (λ (m : Mode). KeepsClearTags m common Close a b) (sym c.in-Journal.is)
    (journal_tags (kept common state) a b (fields_left r) (λ y. no_more_left y r) c.close-in-Journal.ensures.heads)

pub returns-in-Bitmap-clause-tags : goal.returns-in-Bitmap-clause-tags
returns-in-Bitmap-clause-tags g c =
    subst (λ (m : Mode). KeepsClearTags m c.args.parts.common Close (g.D.Disk.moments c.args.disk.now) (g.D.Disk.moments c.close-in-Bitmap.new.disk)) (sym c.in-Bitmap.is) c.close-in-Bitmap.ensures.tags

pub returns-clause-ends : goal.returns-clause-ends
returns-clause-ends g c = ends_recovery c.args.parts (g.D.Disk.moments c.args.disk.now) c.in-Recovery.is

pub returns-clause-rests : goal.returns-clause-rests
returns-clause-rests g c = λ w is.
    subst (λ (m : Mode). IsAtRest m w (g.D.Disk.moments c.args.disk.now)) (sym c.in-Recovery.is) tt

pub returns-clause-writes : goal.returns-clause-writes
returns-clause-writes g c =
    let a = g.D.Disk.moments c.args.disk.now in
    subst (λ (m : Mode). WritesInClose m c.args.parts.common a a) (sym c.in-Recovery.is) refl

pub returns-clause-tags : goal.returns-clause-tags
returns-clause-tags g c =
    let a = g.D.Disk.moments c.args.disk.now in
    subst (λ (m : Mode). KeepsClearTags m c.args.parts.common Close a a) (sym c.in-Recovery.is) tt
