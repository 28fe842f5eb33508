-- From the judging of an image with a bitmap to one all of whose regions are recalculated.
use Rattle.std.proofs.Common.{◌≡◌, ℕ, refl, sym, ◌∙◌, ap, subst, Option, Some, List}
use Rattle.std.proofs.lemmas.Option.{same_Some}
use Rattle.disk_model.specs.Disk.{Content, EachImage, OnlyAdds, last_image, newest_only}
use Rattle.disk_model.specs.Identity.{DiskIdentity}
use Rattle.disk_model.specs.Moments.{EachSince, HasNow, IsChangedBy, content_now}
use Rattle.disk_model.proofs.DiskLemmas.{OnlyAdds-none}
use Rattle.disk_model.proofs.MomentsLemmas.{EachMoment-then, EachMoment-weaker, content_at_end}
use Rattle.image_model.specs.declared.flags.TheConstants.{DIRTY_BITMAP}
use Rattle.image_model.specs.Bitmap.{is_dirty}
use Rattle.image_model.specs.Cells.{placed_cells_of}
use Rattle.image_model.specs.Geometry.{Geometry}
use Rattle.image_model.specs.Superblock.{has_flag}
use Rattle.place_model.specs.Format.{DiskFormat, HasWholeSectors, OpensAs, format_on}
use Rattle.place_model.proofs.FormatLemmas.{opens_on}
use Rattle.buffer_cache.proofs.CachedLemmas.{changed_now}
use Rattle.bitmap_model.specs.BitmapDisk.{BitmapDisk}
use Rattle.bitmap_model.specs.Opening.{opened_disk}
use Rattle.bitmap_laws.specs.CallLaws.{KeepsNow}
use Rattle.bitmap_laws.specs.MomentLaws.{HasBitmap, IsOpenedOn}
use Rattle.bitmap_laws.proofs.MomentLemmas.{opening_done_law}
use Rattle.direct_laws.specs.CallLaws.{ReadsImage, ReadsTagsNow}
use Rattle.change_model.specs.FromBitmap.{IsRecalculating}
use Rattle.change_model.specs.Opened.{KeepsEntry}
use Rattle.change_model.proofs.BeginLemmas.{recalculating_begins, recalculating_cut}
use Rattle.change_model.proofs.OpenedLemmas.{same_format_left_law}
use Rattle.recalculation.specs.All.{IsOfTagsOnly}
use Rattle.recalculation.specs.AllWithBitmap.{AwaitWithBitmap, KeepsOpenedNow, OpensWithBitmap, RecalculatesWithBitmap, StandsWithBitmap, recalculated_disk}
use Rattle.recalculation.proofs.AllWithBitmapLemmas.{bitmap_cells_law, bitmap_recalculated_law}
use Rattle.recalculation.specs.Awaiting.{AwaitingRegions, awaiting_of}
use Rattle.tag_store.specs.Store.{Store, given_tags}
use Rattle.device_opening.specs.declared.bitmap_judging.JudgedBitmap.{JudgedBitmap}
use Rattle.device_opening.specs.BitmapOpening.{HasJudgedBitmap}
use Rattle.device_opening.specs.Changing.{KeepsEntryThrough}
use Rattle.device_opening.specs.JournalMaking.{HasRecalculatedOn, IsOfRecalculation, LeavesRecalculated, bitmap_judged}
use Rattle.device_opening.proofs.MomentsLemmas.{each_from, settles_then, sync_settles, told_synced}

-- An image that was judged can be opened in its format.
pub opens_judged : (disk : DiskIdentity) (image : JudgedBitmap) (a : List Content) → HasJudgedBitmap disk.sectors image a → HasNow (λ c. OpensAs (bitmap_judged disk.sectors image) (last_image c)) a
opens_judged disk image a judged start told =
    let now = judged.now start told in
    subst (λ (x : DiskFormat). OpensAs x (last_image start)) now.read.own (opens_on image.maker.key disk.sectors (last_image start) now.opens)

module _ (disk : DiskIdentity) (image : JudgedBitmap) (a m : List Content) (judged : HasJudgedBitmap disk.sectors image a) (reads : ReadsImage a)
    (newest : EachSince (λ start c. c ≡ newest_only start) a m) where
  abbrev key : Option (List ℕ)
  key = image.maker.key

  abbrev f : DiskFormat
  f = bitmap_judged disk.sectors image

  -- The disk that is opened on the image.
  abbrev opened : Content → BitmapDisk
  opened start = opened_disk f (last_image start)

  own : (start : Content) → content_now a ≡ Some start → format_on key disk.sectors (last_image start) ≡ f
  own start told = (judged.now start told).read.own

  whole : (start : Content) → content_now a ≡ Some start → HasWholeSectors f (last_image start)
  whole start told = (judged.now start told).read.whole

  begins : (start : Content) → content_now a ≡ Some start → IsRecalculating (opened start) (last_image start) (newest_only start)
  begins start told = recalculating_begins f start (reads start told) (opens_judged disk image a judged start told) judged.format.bitmap (whole start told)

  -- While regions are recalculated each image has its cells.
  keeps_at : (start c : Content) → IsRecalculating (opened start) (last_image start) c → EachImage (KeepsEntry f (last_image start)) c
  keeps_at start c is left is_left = same_format_left_law f (last_image start) left (recalculating_cut (opened start) (last_image start) c is left is_left).0

  sync_keeps : KeepsEntryThrough f a m
  sync_keeps start told =
      EachMoment-weaker (λ c same. subst (EachImage (KeepsEntry f (last_image start))) (sym same) (keeps_at start (newest_only start) (begins start told)))
      (each_from (λ from c. c ≡ newest_only from) start told newest)

  -- So it is of the first sync.
  pub sync_leaves : LeavesRecalculated (bitmap_judged disk.sectors image) a m
  sync_leaves = record { keeps = sync_keeps; writes = sync_settles (λ entry. IsOfTagsOnly f.geometry) newest }

  module _ (tags : Store) (synced : IsChangedBy newest_only a m) (same : tags.geometry ≡ image.format.geometry)
      (placed : (c : Content) (n : ℕ) → given_tags tags c n ≡ (placed_cells_of tags.geometry (last_image c) n).tag)
      (waits : AwaitingRegions) (waits_is : waits ≡ image.regions.awaiting) (first : waits.first ≡ 0) (waits_geometry : waits.geometry ≡ image.format.geometry) where
    can : HasNow (λ c. HasBitmap key disk.sectors (last_image c)) a
    can c now =
        let read = judged.now c now in
        record {
          opens = read.opens;
          set = ap (λ (x : DiskFormat). has_flag DIRTY_BITMAP x.superblock.flags) (own c now) ∙ judged.format.bitmap;
          whole = subst (λ (x : DiskFormat). HasWholeSectors x (last_image c)) (sym (own c now)) read.read.whole;
        }

    geometry_then : (c : Content) → content_now m ≡ Some c → (format_on key disk.sectors (last_image c)).geometry ≡ image.format.geometry
    geometry_then c now =
        let from = changed_now newest_only (content_now a) (content_now m) synced c now in
        ap (λ (y : Content). (format_on key disk.sectors (last_image y)).geometry) from.2 ∙ ap (λ (x : DiskFormat). x.geometry) (own from.0 from.1)

    opened_on_it : HasNow (λ start. IsOpenedOn key disk.sectors (last_image start) (given_tags tags) m) a
    opened_on_it =
        opening_done_law key disk.sectors (given_tags tags) a m reads can synced
        (λ c now n low. placed c n ∙ ap (λ (g : Geometry). (placed_cells_of g (last_image c) n).tag) (same ∙ sym (geometry_then c now)))

    keeps_now : (start : Content) → content_now a ≡ Some start → KeepsNow (opened start) (is_dirty f.geometry (last_image start)) (given_tags tags) m
    keeps_now start told = subst (λ (x : DiskFormat). KeepsNow (opened_disk x (last_image start)) (is_dirty x.geometry (last_image start)) (given_tags tags) m) (own start told) (opened_on_it start told).keeps

    synced_is : (start c : Content) → content_now a ≡ Some start → content_now m ≡ Some c → c ≡ newest_only start
    synced_is start c told now =
        let from = changed_now newest_only (content_now a) (content_now m) synced c now in
        from.2 ∙ ap newest_only (same_Some from.0 start (sym from.1 ∙ told))

    opened_now : (start : Content) → content_now a ≡ Some start → KeepsOpenedNow (opened start) (last_image start) (given_tags tags) m
    opened_now start told c now = record {
      is = subst (IsRecalculating (opened start) (last_image start)) (sym (synced_is start c told now)) (begins start told);
      keeps = (keeps_now start told c now).cells;
    }

    await : (start : Content) → content_now a ≡ Some start → AwaitWithBitmap (opened start) image.maker waits
    await start told = record {
      geometry = waits_geometry;
      first = first;
      regions_ = λ region low. ap (λ (w : AwaitingRegions). awaiting_of w region) waits_is ∙ (judged.regions_.opened f refl start told).awaiting region low;
      rule_is = judged.maker;
    }

    synced_content : (start : Content) → content_now a ≡ Some start → content_now m ≡ Some (newest_only start)
    synced_content start told = told_synced (content_now a) (content_now m) start synced told

    opens_with : (start : Content) → content_now a ≡ Some start → OpensWithBitmap f (last_image start) image.maker waits (given_tags tags (newest_only start)) (newest_only start)
    opens_with start told = record { opened = opened_now start told (newest_only start) (synced_content start told); awaiting = await start told }

    module _ {b : List Content} (through : StandsWithBitmap image.maker waits (given_tags tags) m b) (adds : EachSince (OnlyAdds (IsOfTagsOnly image.format.geometry)) m b) where
      -- At each moment of the recalculation each image keeps its cells, and nothing is written but tags.
      pub recalculated_leaves : LeavesRecalculated (bitmap_judged disk.sectors image) a b
      recalculated_leaves = record {
        keeps = λ start told.
            EachMoment-then (sync_keeps start told)
            (EachMoment-weaker (λ c has left is. same_format_left_law f (last_image start) left (has.1 left is).0)
            (bitmap_cells_law f (last_image start) image.maker waits (given_tags tags) (newest_only start) m b (synced_content start told) (opens_with start told) through));
        writes = settles_then (λ entry. IsOfTagsOnly f.geometry) newest synced adds;
      }

      -- What was pending is settled by it, and nothing else is written.
      pub recalculated_written : HasNow (λ start. HasNow (IsOfRecalculation image.format.geometry start) b) a
      recalculated_written start told =
          let middle = synced_content start told in
          content_at_end {P = IsOfRecalculation image.format.geometry start} (each_from (OnlyAdds (IsOfTagsOnly image.format.geometry)) (newest_only start) middle adds)
          (λ c told_c. subst (IsOfRecalculation image.format.geometry start) (same_Some (newest_only start) c (sym middle ∙ told_c)) (OnlyAdds-none (IsOfTagsOnly image.format.geometry) (newest_only start)))

      -- Behind it all regions are recalculated.
      pub recalculated_on : (last : Store) → RecalculatesWithBitmap image.maker waits (given_tags tags) (given_tags last) m b → ReadsTagsNow image.format.geometry (given_tags last) b
          → HasRecalculatedOn image.maker.key disk.sectors image.format a b last
      recalculated_on last taken back start told c now = record {
        disk = recalculated_disk (opened start);
        is = bitmap_recalculated_law f (last_image start) image.maker waits (given_tags tags) (given_tags last) (newest_only start) m b (synced_content start told) (opens_with start told) taken back c now;
      }
