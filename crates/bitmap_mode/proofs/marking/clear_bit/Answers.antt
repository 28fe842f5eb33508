use Rattle.std.proofs.Common.{◌≤◌, false, sym, subst}
use Rattle.std.proofs.lemmas.Result.{on_ok_weaker}
use Rattle.disk_model.specs.Identity.{DiskIdentity}
use Rattle.image_model.specs.Geometry.{Geometry, bitmap_sectors, journal_sectors}
use Rattle.device_model.specs.Regions.{with_region}
use Rattle.direct_laws.specs.CallLaws.{GivesTags}
use Rattle.bitmap_laws.specs.CallLaws.{AddsBits, KeepsElsewhere}
use Rattle.dirty_bitmap.specs.Bits.{bits_of}
use Rattle.tag_store.specs.Store.{given_tags}
use Rattle.direct_mode.proofs.StoreCalls.{ReadsWhole, reads_whole}
use Rattle.bitmap_mode.proofs.MarkingLemmas.{gives_same, is_store}
use Rattle.bitmap_mode.proofs.marking.clear_bit.Goals as goal

pub returns-clause-store : goal.returns-clause-store
returns-clause-store g c =
    let store = c.args.tags.now in
    let disk = c.args.disk.now in
    let last = c.clear.new.disk in
    let bits = with_region c.args.region false (bits_of c.args.bits.now) in
    let here = sym c.requires.same in
    rw c.clear.ensures.stays.identity
    (is_store store (g.D.Disk.identity disk) (g.D.Disk.moments disk) (g.D.Disk.moments last) c.requires.store (subst (λ (y : Geometry). bitmap_sectors y ≤ journal_sectors y) here c.requires.fits)
    (subst (λ (y : Geometry). KeepsElsewhere y (g.D.Disk.moments disk) (g.D.Disk.moments last)) here c.clear.ensures.stays.elsewhere)
    bits (subst (λ (y : Geometry). AddsBits y bits (g.D.Disk.moments disk) (g.D.Disk.moments last)) here c.clear.ensures.moments))

pub returns-clause-made : goal.returns-clause-made
returns-clause-made g c = on_ok_weaker c.clear.result (λ written.
    let store = c.args.tags.now in
    let disk = c.args.disk.now in
    let last = c.clear.new.disk in
    let here = sym c.requires.same in
    let whole = reads_whole (g.D.Disk.identity disk) (g.D.Disk.moments disk) (g.met.D.Disk.reads_an_image disk) (g.met.D.Disk.whole_sectors disk) in
    let whole_last = subst (λ (x : DiskIdentity). ReadsWhole x (g.D.Disk.moments last)) c.clear.ensures.stays.identity
    (reads_whole (g.D.Disk.identity last) (g.D.Disk.moments last) (g.met.D.Disk.reads_an_image last) (g.met.D.Disk.whole_sectors last)) in
    let gives = gives_same store (g.D.Disk.identity disk) (g.D.Disk.moments disk) (g.D.Disk.moments last) c.requires.store (subst (λ (y : Geometry). bitmap_sectors y ≤ journal_sectors y) here c.requires.fits)
    (subst (λ (y : Geometry). KeepsElsewhere y (g.D.Disk.moments disk) (g.D.Disk.moments last)) here c.clear.ensures.stays.elsewhere) whole whole_last in
    record {
      adds = c.clear.ensures.moments;
      made = written;
      gives = subst (λ (y : Geometry). GivesTags y (given_tags store) (given_tags store) (g.D.Disk.moments disk) (g.D.Disk.moments last)) c.requires.same gives;
    }) c.clear.ensures.written
