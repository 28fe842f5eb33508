use Rattle.std.proofs.Common.{◌≡◌, ◌*◌, ◌<◌, ◌≤◌, sym, ◌∙◌, ap, subst}
use Rattle.disk_model.specs.Disk.{last_image}
use Rattle.disk_model.specs.Identity.{DiskIdentity}
use Rattle.disk_model.specs.Moments.{EachSince}
use Rattle.image_model.specs.Geometry.{Geometry, bitmap_sectors, journal_sectors}
use Rattle.image_format.specs.declared.reading.ImageFormat.{ImageFormat}
use Rattle.image_format.specs.Format.{IsBitmapFormat, disk_format}
use Rattle.change_model.specs.Opened.{IsEntry}
use Rattle.direct_mode.proofs.StoreCalls.{ReadsWhole, reads_whole}
use Rattle.mode_change.specs.ToBitmap.{KeepsEmptied, OpensBitmap, bitmap_format}
use Rattle.mode_change.proofs.FormatLemmas.{marks_format}
use Rattle.hmac_tag.specs.TagMaker.{TagRule}
use Rattle.tag_store.specs.Store.{IsStore, Store, given_tags}
use Rattle.request_slots.specs.Flight.{Flight}
use Rattle.device_opening.proofs.MadeDeviceLemmas.{bitmap_made, is_store_behind, placed_behind, same_blocks, some_disk, store_behind}
use Rattle.device_opening.proofs.MadeLemmas.{change_keeps, change_made, recovery_keeps, recovery_made}
use Rattle.device_opening.proofs.MomentsLemmas.{now_told}
use Rattle.device_opening.proofs.changing.make_bitmap.Goals as goal

pub returns-in_err-recovered-clause-leaves : goal.returns-in_err-recovered-clause-leaves
returns-in_err-recovered-clause-leaves g c =
    let image = c.args.image in
    let sectors = (g.D.Disk.identity c.args.disk.now).sectors in
    let judged = c.requires.judged in
    let leaves = c.recover_whole.ensures.leaves in
    record {
      keeps = recovery_keeps image.maker.key sectors image.format (λ x told. (judged.now x told).opens) leaves.cells;
      writes = recovery_made image.format sectors judged.format.accepted.geometry leaves.writes;
    }

pub returns-in_err-after-clause-leaves : goal.returns-in_err-after-clause-leaves
returns-in_err-after-clause-leaves g c =
    let image = c.args.image in
    let key = image.maker.key in
    let old = g.D.Disk.identity c.args.disk.now in
    let judged = c.requires.judged in
    let leaves = c.recover_whole.ensures.leaves in
    record {
      keeps = change_keeps key old.sectors image.format c.in_ok-recovered.recovered c.requires.room.recalculation_.written.fits (λ x told. (judged.now x told).opens) leaves.writes leaves.cells c.in_ok-recovered.ensures.emptied
          (subst (λ (i : DiskIdentity). EachSince (KeepsEmptied (disk_format key i.sectors image.format)) (g.D.Disk.moments c.recover_whole.new.disk) (g.D.Disk.moments c.change_to_bitmap.new.disk)) c.recover_whole.ensures.identity (c.change_to_bitmap.ensures.moments.keeps key));
      writes = change_made image.format old.sectors judged.format.accepted.geometry leaves.writes c.in_ok-recovered.ensures.written (g.met.D.Disk.reads_an_image c.recover_whole.new.disk) c.change_to_bitmap.ensures.moments.writes;
    }

pub returns-clause-leaves : goal.returns-clause-leaves
returns-clause-leaves g c =
    let image = c.args.image in
    let key = image.maker.key in
    let old = g.D.Disk.identity c.args.disk.now in
    let judged = c.requires.judged in
    let leaves = c.recover_whole.ensures.leaves in
    record {
      keeps = change_keeps key old.sectors image.format c.in_ok-recovered.recovered c.requires.room.recalculation_.written.fits (λ x told. (judged.now x told).opens) leaves.writes leaves.cells c.in_ok-recovered.ensures.emptied
          (subst (λ (i : DiskIdentity). EachSince (KeepsEmptied (disk_format key i.sectors image.format)) (g.D.Disk.moments c.recover_whole.new.disk) (g.D.Disk.moments c.change_to_bitmap.new.disk)) c.recover_whole.ensures.identity (c.change_to_bitmap.ensures.moments.keeps key));
      writes = change_made image.format old.sectors judged.format.accepted.geometry leaves.writes c.in_ok-recovered.ensures.written (g.met.D.Disk.reads_an_image c.recover_whole.new.disk) c.change_to_bitmap.ensures.moments.writes;
    }

pub returns-clause-ready : goal.returns-clause-ready
returns-clause-ready g c =
    let image = c.args.image in
    let key = image.maker.key in
    let old = g.D.Disk.identity c.args.disk.now in
    let mid = c.recover_whole.new.disk in
    let end = c.change_to_bitmap.new.disk in
    let there : g.D.Disk.identity mid ≡ old = c.recover_whole.ensures.identity in
    let then_ : g.D.Disk.identity end ≡ old = c.change_to_bitmap.ensures.identity ∙ there in
    let done = c.in_ok-recovered.ensures in
    let tags = c.in_ok-recovered.recovered.tags in
    let accepted = c.requires.judged.format.accepted in
    let marks = marks_format old.sectors image.format accepted c.requires.room.recalculation_.written.fits in
    let after_is : IsBitmapFormat old.sectors (bitmap_format image.format) =
    subst (λ (i : DiskIdentity). IsBitmapFormat i.sectors (bitmap_format image.format)) there (subst (IsBitmapFormat (g.D.Disk.identity mid).sectors) c.in_ok-after.ensures.format c.in_ok-after.ensures.bitmap) in
    let whole_mid : ReadsWhole old (g.D.Disk.moments mid) = subst (λ (i : DiskIdentity). ReadsWhole i (g.D.Disk.moments mid)) there (reads_whole (g.D.Disk.identity mid) (g.D.Disk.moments mid) (g.met.D.Disk.reads_an_image mid) (g.met.D.Disk.whole_sectors mid)) in
    let whole_end : ReadsWhole old (g.D.Disk.moments end) = subst (λ (i : DiskIdentity). ReadsWhole i (g.D.Disk.moments end)) then_ (reads_whole (g.D.Disk.identity end) (g.D.Disk.moments end) (g.met.D.Disk.reads_an_image end) (g.met.D.Disk.whole_sectors end)) in
    let store_mid : IsStore tags old (g.D.Disk.moments mid) = subst (λ (i : DiskIdentity). IsStore tags i (g.D.Disk.moments mid)) there done.made.of_image.store in
    let some : 0 < old.sectors = some_disk image.format.geometry old.sectors accepted.geometry in
    let fits : bitmap_sectors (bitmap_format image.format).geometry ≤ journal_sectors image.format.geometry = marks.fits in
    let behind : c.under.result ≡ store_behind image.format old tags (g.D.Disk.moments mid) (g.D.Disk.moments end) store_mid done.made.of_image.geometry done.made.unmarked marks.replaces after_is.accepted.geometry fits some whole_mid whole_end c.in_ok-after.ensures.written =
    c.under.ensures ∙ ap (λ (f : ImageFormat). let s : Store = record { geometry = f.geometry; sectors = tags.sectors } in s) c.in_ok-after.ensures.format in
    let device = c.args.room.recovery.device in
    let has = c.requires.room.device in
    let places : c.under.result.geometry ≡ (bitmap_format image.format).geometry = ap (λ (s : Store). s.geometry) behind in
    record {
      parts_ = record {
        store =
            subst (λ (i : DiskIdentity). IsStore c.under.result i (g.D.Disk.moments end)) (sym then_)
            (subst (λ (s : Store). IsStore s old (g.D.Disk.moments end)) (sym behind)
            (is_store_behind image.format old tags (g.D.Disk.moments mid) (g.D.Disk.moments end) store_mid done.made.of_image.geometry done.made.unmarked marks.replaces after_is.accepted.geometry fits some whole_mid whole_end c.in_ok-after.ensures.written));
        blocks = ap (λ (x : Flight). x.blocks) has.slots ∙ ap (λ (x : Geometry). x.blocks) (sym places);
        block_size = ap (λ (x : Flight). x.block_size) has.slots ∙ ap (λ (x : Geometry). 512 * x.shape.spb) (sym places);
        spb = ap (λ x. x.spb) c.shape.ensures.shape ∙ ap (λ (x : Geometry). x.shape.spb) (sym places);
        tag_size = ap (λ (r : TagRule). r.size) (done.made.of_image.maker ∙ c.requires.judged.maker) ∙ ap (λ (x : Geometry). x.shape.tag_size) (sym places);
        buffer = has.buffer ∙ sym (ap (λ (x : Flight). x.block_size) has.slots);
      };
      geometry = c.requires.regions.geometry ∙ sym places;
    }

pub returns-clause-opened : goal.returns-clause-opened
returns-clause-opened g c start told last told_last =
    let image = c.args.image in
    let key = image.maker.key in
    let old = g.D.Disk.identity c.args.disk.now in
    let mid = c.recover_whole.new.disk in
    let end = c.change_to_bitmap.new.disk in
    let there : g.D.Disk.identity mid ≡ old = c.recover_whole.ensures.identity in
    let then_ : g.D.Disk.identity end ≡ old = c.change_to_bitmap.ensures.identity ∙ there in
    let done = c.in_ok-recovered.ensures in
    let tags = c.in_ok-recovered.recovered.tags in
    let accepted = c.requires.judged.format.accepted in
    let marks = marks_format old.sectors image.format accepted c.requires.room.recalculation_.written.fits in
    let after_is : IsBitmapFormat old.sectors (bitmap_format image.format) =
    subst (λ (i : DiskIdentity). IsBitmapFormat i.sectors (bitmap_format image.format)) there (subst (IsBitmapFormat (g.D.Disk.identity mid).sectors) c.in_ok-after.ensures.format c.in_ok-after.ensures.bitmap) in
    let whole_mid : ReadsWhole old (g.D.Disk.moments mid) = subst (λ (i : DiskIdentity). ReadsWhole i (g.D.Disk.moments mid)) there (reads_whole (g.D.Disk.identity mid) (g.D.Disk.moments mid) (g.met.D.Disk.reads_an_image mid) (g.met.D.Disk.whole_sectors mid)) in
    let whole_end : ReadsWhole old (g.D.Disk.moments end) = subst (λ (i : DiskIdentity). ReadsWhole i (g.D.Disk.moments end)) then_ (reads_whole (g.D.Disk.identity end) (g.D.Disk.moments end) (g.met.D.Disk.reads_an_image end) (g.met.D.Disk.whole_sectors end)) in
    let store_mid : IsStore tags old (g.D.Disk.moments mid) = subst (λ (i : DiskIdentity). IsStore tags i (g.D.Disk.moments mid)) there done.made.of_image.store in
    let some : 0 < old.sectors = some_disk image.format.geometry old.sectors accepted.geometry in
    let fits : bitmap_sectors (bitmap_format image.format).geometry ≤ journal_sectors image.format.geometry = marks.fits in
    let behind : c.under.result ≡ store_behind image.format old tags (g.D.Disk.moments mid) (g.D.Disk.moments end) store_mid done.made.of_image.geometry done.made.unmarked marks.replaces after_is.accepted.geometry fits some whole_mid whole_end c.in_ok-after.ensures.written =
    c.under.ensures ∙ ap (λ (f : ImageFormat). let s : Store = record { geometry = f.geometry; sectors = tags.sectors } in s) c.in_ok-after.ensures.format in
    let middle = now_told c.recover_whole.ensures.leaves.writes start told in
    let on = done.emptied start told middle.0 middle.1 in
    let entry = last_image start in
    let now = c.requires.judged.now start told in
    let is : IsEntry (disk_format key old.sectors image.format) entry = record { opens = now.opens; fits = c.requires.room.recalculation_.written.fits } in
    let becomes = subst (λ (i : DiskIdentity). OpensBitmap key i.sectors image.format (g.D.Disk.moments mid) (g.D.Disk.moments end)) there (c.in_ok-after.ensures.opened key) in
    let placed = placed_behind image.format old tags (g.D.Disk.moments mid) (g.D.Disk.moments end) store_mid done.made.of_image.geometry done.made.unmarked marks.replaces after_is.accepted.geometry fits some whole_mid whole_end c.in_ok-after.ensures.written last told_last in
    let others = given_tags (store_behind image.format old tags (g.D.Disk.moments mid) (g.D.Disk.moments end) store_mid done.made.of_image.geometry done.made.unmarked marks.replaces after_is.accepted.geometry fits some whole_mid whole_end c.in_ok-after.ensures.written) last in
    let made = becomes middle.0 middle.1 last told_last entry on.disk on.number (given_tags tags middle.0) others is on.emptied placed in
    let f = bitmap_format image.format in
    bitmap_made key old.sectors image.format entry _ others last now.read.own c.requires.judged.format.no_bitmap after_is.bitmap made
    (record { tags = c.under.result; maker = c.in_ok-recovered.recovered.maker; slots = c.args.room.recovery.device.slots; spb = c.shape.result.spb; buffer = c.args.room.recovery.device.buffer })
    c.args.room.regions (g.D.Disk.moments end) told_last (ap (λ (s : Store). s.geometry) behind) (ap (λ (s : Store). given_tags s last) behind) c.requires.room.device.slots
    (done.made.of_image.maker ∙ c.requires.judged.maker ∙ ap (λ salt. let r : TagRule = record { key = key; salt = salt; size = image.format.geometry.shape.tag_size } in r) (sym marks.replaces.salt)) c.requires.regions

pub returns-clause-blocks : goal.returns-clause-blocks
returns-clause-blocks g c start told last told_last =
    let image = c.args.image in
    let key = image.maker.key in
    let old = g.D.Disk.identity c.args.disk.now in
    let mid = c.recover_whole.new.disk in
    let end = c.change_to_bitmap.new.disk in
    let there : g.D.Disk.identity mid ≡ old = c.recover_whole.ensures.identity in
    let then_ : g.D.Disk.identity end ≡ old = c.change_to_bitmap.ensures.identity ∙ there in
    let done = c.in_ok-recovered.ensures in
    let tags = c.in_ok-recovered.recovered.tags in
    let accepted = c.requires.judged.format.accepted in
    let marks = marks_format old.sectors image.format accepted c.requires.room.recalculation_.written.fits in
    let after_is : IsBitmapFormat old.sectors (bitmap_format image.format) =
    subst (λ (i : DiskIdentity). IsBitmapFormat i.sectors (bitmap_format image.format)) there (subst (IsBitmapFormat (g.D.Disk.identity mid).sectors) c.in_ok-after.ensures.format c.in_ok-after.ensures.bitmap) in
    let whole_mid : ReadsWhole old (g.D.Disk.moments mid) = subst (λ (i : DiskIdentity). ReadsWhole i (g.D.Disk.moments mid)) there (reads_whole (g.D.Disk.identity mid) (g.D.Disk.moments mid) (g.met.D.Disk.reads_an_image mid) (g.met.D.Disk.whole_sectors mid)) in
    let whole_end : ReadsWhole old (g.D.Disk.moments end) = subst (λ (i : DiskIdentity). ReadsWhole i (g.D.Disk.moments end)) then_ (reads_whole (g.D.Disk.identity end) (g.D.Disk.moments end) (g.met.D.Disk.reads_an_image end) (g.met.D.Disk.whole_sectors end)) in
    let store_mid : IsStore tags old (g.D.Disk.moments mid) = subst (λ (i : DiskIdentity). IsStore tags i (g.D.Disk.moments mid)) there done.made.of_image.store in
    let some : 0 < old.sectors = some_disk image.format.geometry old.sectors accepted.geometry in
    let fits : bitmap_sectors (bitmap_format image.format).geometry ≤ journal_sectors image.format.geometry = marks.fits in
    let behind : c.under.result ≡ store_behind image.format old tags (g.D.Disk.moments mid) (g.D.Disk.moments end) store_mid done.made.of_image.geometry done.made.unmarked marks.replaces after_is.accepted.geometry fits some whole_mid whole_end c.in_ok-after.ensures.written =
    c.under.ensures ∙ ap (λ (f : ImageFormat). let s : Store = record { geometry = f.geometry; sectors = tags.sectors } in s) c.in_ok-after.ensures.format in
    let middle = now_told c.recover_whole.ensures.leaves.writes start told in
    let on = done.emptied start told middle.0 middle.1 in
    let entry = last_image start in
    let now = c.requires.judged.now start told in
    let is : IsEntry (disk_format key old.sectors image.format) entry = record { opens = now.opens; fits = c.requires.room.recalculation_.written.fits } in
    let becomes = subst (λ (i : DiskIdentity). OpensBitmap key i.sectors image.format (g.D.Disk.moments mid) (g.D.Disk.moments end)) there (c.in_ok-after.ensures.opened key) in
    let placed = placed_behind image.format old tags (g.D.Disk.moments mid) (g.D.Disk.moments end) store_mid done.made.of_image.geometry done.made.unmarked marks.replaces after_is.accepted.geometry fits some whole_mid whole_end c.in_ok-after.ensures.written last told_last in
    let others = given_tags (store_behind image.format old tags (g.D.Disk.moments mid) (g.D.Disk.moments end) store_mid done.made.of_image.geometry done.made.unmarked marks.replaces after_is.accepted.geometry fits some whole_mid whole_end c.in_ok-after.ensures.written) last in
    let made = becomes middle.0 middle.1 last told_last entry on.disk on.number (given_tags tags middle.0) others is on.emptied placed in
    let f = bitmap_format image.format in
    same_blocks key old.sectors image.format entry _ others last now.read.own c.requires.judged.format.no_bitmap after_is.bitmap made marks.replaces.salt
