-- Both changes of mode on a fresh disk of eight blocks, step by step: at the end of each a device can be opened in
-- the new mode. So no law of a whole change speaks of nothing.
use Rattle.std.proofs.Common.{◌≡◌, inl, inr, ℕ, ◌+◌, ◌-◌, ◌*◌, ◌/◌, ◌<◌, ◌≤◌, refl, sym, ◌∙◌, ap, subst, arith, List, length, replicate}
use Rattle.std.specs.List.{Contains}
use Rattle.disk_model.specs.Disk.{Content, EachImage, Image, IsImage, last_image, newest_only, sector_in, with_run}
use Rattle.disk_model.proofs.DiskLemmas.{OnlyAdds-none, last_image-with_run, last_image-with_run_out, newest_only-last, only_candidate, within_or_out}
use Rattle.image_model.specs.Cells.{placed_cells_of}
use Rattle.image_model.specs.Geometry.{bitmap_sectors_for, entries_per_sector, entry_size, fitting_log2_region, regions_for, section_entries, section_sectors, tag_run_of}
use Rattle.image_model.specs.Grid.{is_zero_sector}
use Rattle.image_model.specs.Sectors.{bytes_at}
use Rattle.image_model.proofs.SectorLemmas.{length-bytes_at, sector_in-bytes_at}
use Rattle.place_model.specs.Format.{HasCells, cells_on}
use Rattle.place_model.specs.Journal.{IsOfJournal}
use Rattle.place_model.proofs.WorkedDisk.{bitmap_format, fresh_bitmap, fresh_journal, journal_format, HasWholeSectors-journal}
use Rattle.change_model.specs.Change.{HasWritten, IsOfFilling, IsOfHead, IsOfRest, IsOfZeros, ModeChange, new_bitmap, old_bitmap}
use Rattle.change_model.specs.Ends.{IsNewBitmap, IsNewJournal, format_after}
use Rattle.change_model.specs.Fields.{KeepsRest}
use Rattle.change_model.specs.Opened.{KeepsEntry, bitmap_change, bitmap_head, journal_change, journal_head, rest_of}
use Rattle.change_model.specs.Whole.{FillsSectors, Marked, Unmarking, WritesHead, WritesRest, ZeroesSectors}
use Rattle.change_model.proofs.OpenedLemmas.{opens_bitmap_done, opens_bitmap_moments, opens_journal_done, opens_journal_moments}
use Rattle.change_model.proofs.PlacedLemmas.{journal_inside}
use Rattle.change_model.proofs.WorkedDisk.{fresh, content, tags, sectors-is, bitmap_content, bitmap_disk, bitmap_tags, IsEntry-fresh, IsEmptiedOf-fresh, IsHeadOf-fresh, IsEntry-bitmap, IsRecalculatedOf-fresh, IsEmptyJournal-written, IsHeadOf-journal}

-- ---- a run that is written and synced

-- Sectors of an image are written over a content whose reads are an image.
module _ (written_image : Image) (whole : (sector : ℕ) → sector < 112 → length (written_image sector) ≡ 512) (at count : ℕ) (low : at + count ≤ 112)
    (W : ℕ → List ℕ → Type 0) (first : Content) (image : IsImage first (last_image first)) (of : (sector : ℕ) → at ≤ sector → sector < at + count → W sector (written_image sector)) where
  abbrev run : List ℕ
  run = bytes_at written_image at count

  run_size : length (bytes_at written_image at count) ≡ 512 * count
  run_size = length-bytes_at written_image at count (λ sector above under. whole sector (omega arith))

  run_sector : (sector : ℕ) → at ≤ sector → sector < at + count → sector_in run (sector - at) ≡ written_image sector
  run_sector sector above under =
      sector_in-bytes_at written_image at count (sector - at) (λ s above under. whole s (omega arith)) (omega arith)
      ∙ ap written_image (let there : at + (sector - at) ≡ sector = omega arith in there)

  pub reads_run : (sector : ℕ) → at ≤ sector → sector < at + count → last_image (newest_only (with_run at (bytes_at written_image at count) first)) sector ≡ written_image sector
  reads_run sector above under = let size = run_size in last_image-with_run at run first sector above (omega (arith, size)) ∙ run_sector sector above under

  pub has_run : HasWritten W first (newest_only (with_run at (bytes_at written_image at count) first))
  has_run = record {
    adds = record {
      among = λ sector x has.
          let is = only_candidate (last_image (with_run at run first) sector) x has in
          elim (within_or_out at (length run / 512) sector) [
            | inl within ↦
                let size = run_size in
                let under : sector < at + count = omega (arith, within.1, size) in
                inr (subst (W sector) (sym (is ∙ reads_run sector within.0 under)) (of sector within.0 under))
            | inr out ↦ inl (subst (Contains (first sector)) (sym (is ∙ last_image-with_run_out at run first sector out)) (image sector))
          ];
    };
    reads = newest_only-last (with_run at run first);
  }

-- What is synced twice reads the same, and is an image.
abbrev after_run : Image → ℕ → ℕ → Content → Content
after_run written_image at count first = newest_only (newest_only (with_run at (bytes_at written_image at count) first))

-- ---- the images that are written

abbrev zero_image : Image
zero_image sector = replicate 512 0

abbrev head_image : List ℕ → Image
head_image head sector = head

pub on_journal : (sector : ℕ) → 8 ≤ sector → sector < 96 → IsOfJournal journal_format.geometry sector
on_journal sector above under = let wide = sectors-is in record { section = 0; place = sector - 8; inside = omega arith; narrow = omega (arith, wide); is = omega arith }

module _ (head : List ℕ) (size : length head ≡ 512) (first : Content) (image : IsImage first (last_image first)) where
  pub writes_head : WritesHead head first (after_run (head_image head) 0 1 first)
  writes_head = record {
    before_sync = newest_only (with_run 0 (bytes_at (head_image head) 0 1) first);
    written = has_run (head_image head) (λ sector inside. size) 0 1 (omega arith) (IsOfHead head) first image (λ sector above under. record { first = omega arith; is = refl });
    reads = reads_run (head_image head) (λ sector inside. size) 0 1 (omega arith) (IsOfHead head) first image (λ sector above under. record { first = omega arith; is = refl }) 0 (omega arith) (omega arith);
    is = refl;
  }

module _ (m : ModeChange) (same : m.disk.geometry ≡ journal_format.geometry) (bitmap : ℕ) (eight : bitmap ≡ 8) (first : Content) (image : IsImage first (last_image first)) where
  on_disk : (sector : ℕ) → 8 ≤ sector → sector < 96 → IsOfJournal m.disk.geometry sector
  on_disk sector above under = subst (λ (g : _). IsOfJournal g sector) (sym same) (on_journal sector above under)

  zeros_of : (sector : ℕ) → 8 ≤ sector → sector < 16 → IsOfZeros m.disk.geometry bitmap sector (zero_image sector)
  zeros_of sector above under = record { on = on_disk sector above (omega arith); inside = omega (arith, eight); whole = refl; zeros = refl }

  pub zeroes_sectors : ZeroesSectors m bitmap first (after_run zero_image 8 8 first)
  zeroes_sectors = record {
    before_sync = newest_only (with_run 8 (bytes_at zero_image 8 8) first);
    written = has_run zero_image (λ sector inside. refl) 8 8 (omega arith) (IsOfZeros m.disk.geometry bitmap) first image zeros_of;
    reads = λ sector on inside. ap is_zero_sector (reads_run zero_image (λ sector inside. refl) 8 8 (omega arith) (IsOfZeros m.disk.geometry bitmap) first image zeros_of sector
        (journal_inside m.disk.geometry sector on).0 (omega (arith, eight)));
    is = refl;
  }

-- ---- from a journal to a bitmap

abbrev to_bitmap : ModeChange
to_bitmap = bitmap_change journal_format fresh 0

new-eight : new_bitmap to_bitmap ≡ 8
unfolding fitting_log2_region bitmap_sectors_for regions_for entry_size entries_per_sector section_entries section_sectors
new-eight = refl

abbrev start : Content
start = newest_only content

abbrev zeroed : Content
zeroed = after_run zero_image 8 8 start

abbrev marked : Content
marked = after_run (head_image (bitmap_head journal_format (fresh_journal 0))) 0 1 zeroed

abbrev marked_tags : ℕ → List ℕ
marked_tags b = (placed_cells_of (format_after to_bitmap).geometry (last_image marked) b).tag

pub NewBitmap-fresh : IsNewBitmap to_bitmap marked_tags marked × EachImage (HasCells (format_after to_bitmap) (cells_on journal_format fresh_journal)) marked
NewBitmap-fresh =
    opens_bitmap_done journal_format fresh_journal fresh 0 tags marked_tags content zeroed marked IsEntry-fresh refl IsEmptiedOf-fresh (newest_only-last content)
    (zeroes_sectors to_bitmap refl (new_bitmap to_bitmap) new-eight start (newest_only-last content))
    (writes_head (bitmap_head journal_format (fresh_journal 0)) IsHeadOf-fresh.size zeroed (newest_only-last (newest_only (with_run 8 (bytes_at zero_image 8 8) start))))
    (λ b low. refl)

-- At each moment, such as at its end, each image keeps blocks and cells of the one at entry, and what follows its fields.
pub KeepsEntry-marked : EachImage (KeepsEntry journal_format fresh_journal) marked × KeepsRest (rest_of content) marked
KeepsEntry-marked =
    opens_bitmap_moments journal_format fresh_journal fresh 0 tags content marked IsEntry-fresh refl IsEmptiedOf-fresh (newest_only-last content)
    (Marked zeroed (zeroes_sectors to_bitmap refl (new_bitmap to_bitmap) new-eight start (newest_only-last content))
    (writes_head (bitmap_head journal_format (fresh_journal 0)) IsHeadOf-fresh.size zeroed (newest_only-last (newest_only (with_run 8 (bytes_at zero_image 8 8) start)))))

-- ---- from a bitmap to a journal

abbrev to_journal : ModeChange
to_journal = journal_change bitmap_format bitmap_disk fresh_journal

-- All lies where it did.
same-places : to_journal.disk.geometry ≡ journal_format.geometry
unfolding tag_run_of
same-places = refl

old-eight : old_bitmap to_journal ≡ 8
unfolding bitmap_sectors_for regions_for
old-eight = refl

abbrev bitmap_start : Content
bitmap_start = newest_only bitmap_content

abbrev cleared : Content
cleared = after_run zero_image 8 8 bitmap_start

abbrev emptied : Content
emptied = after_run fresh_journal 16 80 cleared

abbrev unmarked : Content
unmarked = after_run (head_image (journal_head bitmap_format (fresh_bitmap 0))) 0 1 emptied

abbrev filled : Content
filled = after_run fresh_journal 8 8 unmarked

abbrev filled_tags : ℕ → List ℕ
filled_tags b = (placed_cells_of (format_after to_journal).geometry (last_image filled) b).tag

rest_of_journal : (sector : ℕ) → 16 ≤ sector → sector < 96 → IsOfRest to_journal.disk.geometry (old_bitmap to_journal) fresh_journal sector (fresh_journal sector)
rest_of_journal sector above under = record { on = on_disk to_journal same-places 8 refl bitmap_start (newest_only-last bitmap_content) sector (omega arith) under; behind = omega (arith, old-eight); is = refl }

filling_of : (sector : ℕ) → 8 ≤ sector → sector < 16 → IsOfFilling to_journal.disk.geometry (old_bitmap to_journal) fresh_journal sector (fresh_journal sector)
filling_of sector above under = record { on = on_disk to_journal same-places 8 refl bitmap_start (newest_only-last bitmap_content) sector above (omega arith); inside = omega (arith, old-eight); is = refl }

writes_rest : (first : Content) → IsImage first (last_image first) → WritesRest to_journal first (after_run fresh_journal 16 80 first)
writes_rest first image = record {
  before_sync = newest_only (with_run 16 (bytes_at fresh_journal 16 80) first);
  written = has_run fresh_journal HasWholeSectors-journal 16 80 (omega arith) (IsOfRest to_journal.disk.geometry (old_bitmap to_journal) fresh_journal) first image rest_of_journal;
  reads = λ sector on behind.
      let inside = (journal_inside to_journal.disk.geometry sector on).1 in
      let wide = sectors-is in
      reads_run fresh_journal HasWholeSectors-journal 16 80 (omega arith) (IsOfRest to_journal.disk.geometry (old_bitmap to_journal) fresh_journal) first image rest_of_journal sector
      (omega (arith, old-eight)) (omega (arith, inside, wide));
  is = refl;
}

fills_sectors : (first : Content) → IsImage first (last_image first) → FillsSectors to_journal first (after_run fresh_journal 8 8 first)
fills_sectors first image = record {
  before_sync = newest_only (with_run 8 (bytes_at fresh_journal 8 8) first);
  written = has_run fresh_journal HasWholeSectors-journal 8 8 (omega arith) (IsOfFilling to_journal.disk.geometry (old_bitmap to_journal) fresh_journal) first image filling_of;
  reads = λ sector inside on. reads_run fresh_journal HasWholeSectors-journal 8 8 (omega arith) (IsOfFilling to_journal.disk.geometry (old_bitmap to_journal) fresh_journal) first image filling_of sector
      (journal_inside to_journal.disk.geometry sector on).0 (omega (arith, old-eight));
  is = refl;
}

pub NewJournal-fresh : IsNewJournal to_journal filled_tags filled × EachImage (HasCells (format_after to_journal) (cells_on bitmap_format fresh_bitmap)) filled
NewJournal-fresh =
    opens_journal_done bitmap_format fresh_bitmap bitmap_disk fresh_journal bitmap_tags filled_tags bitmap_content cleared emptied unmarked filled IsEntry-bitmap refl IsEmptyJournal-written
    IsRecalculatedOf-fresh (newest_only-last bitmap_content)
    (zeroes_sectors to_journal same-places (old_bitmap to_journal) old-eight bitmap_start (newest_only-last bitmap_content))
    (writes_rest cleared (newest_only-last (newest_only (with_run 8 (bytes_at zero_image 8 8) bitmap_start))))
    (writes_head (journal_head bitmap_format (fresh_bitmap 0)) IsHeadOf-journal.size emptied (newest_only-last (newest_only (with_run 16 (bytes_at fresh_journal 16 80) cleared))))
    (fills_sectors unmarked (newest_only-last (newest_only (with_run 0 (bytes_at (head_image (journal_head bitmap_format (fresh_bitmap 0))) 0 1) emptied))))
    (λ b low. refl)

-- At each moment, such as before the superblock is written, each image keeps blocks and cells here too.
pub KeepsEntry-emptied : EachImage (KeepsEntry bitmap_format fresh_bitmap) emptied × KeepsRest (rest_of bitmap_content) emptied
KeepsEntry-emptied =
    opens_journal_moments bitmap_format fresh_bitmap bitmap_disk fresh_journal bitmap_tags bitmap_content emptied IsEntry-bitmap refl IsEmptyJournal-written IsRecalculatedOf-fresh (newest_only-last bitmap_content)
    (Unmarking cleared emptied (zeroes_sectors to_journal same-places (old_bitmap to_journal) old-eight bitmap_start (newest_only-last bitmap_content))
    (writes_rest cleared (newest_only-last (newest_only (with_run 8 (bytes_at zero_image 8 8) bitmap_start)))) (OnlyAdds-none _ emptied))
