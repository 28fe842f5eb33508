-- A fresh disk of eight blocks, left with its bit set: its region awaits, and is recalculated before the mode changes. So no law of
-- that speaks of nothing.
use Rattle.std.proofs.Common.{◌≡◌, inl, inr, ℕ, ◌<◌, ◌≤◌, true, refl, sym, ◌∙◌, ap, arith, List, length, replicate, slice_index}
use Rattle.std.proofs.lemmas.Bool.{cases_lt, true≢false}
use Rattle.std.proofs.lemmas.List.{get_or-replicate, get_or_past, length-replicate}
use Rattle.disk_model.specs.Disk.{Content, EachImage, Image, last_image, newest_only, with_run}
use Rattle.disk_model.proofs.DiskLemmas.{newest_only-last}
use Rattle.image_model.specs.Bitmap.{is_dirty}
use Rattle.image_model.specs.Cells.{placed_cells_of}
use Rattle.image_model.specs.Geometry.{region_of, regions, entries_per_sector, entry_size, section_entries, section_sectors, sector_at, tag_at, tag_offset, tag_run_of}
use Rattle.image_model.specs.Sectors.{bytes_at}
use Rattle.image_model.proofs.Regions.{region_of-lt}
use Rattle.place_model.specs.Format.{HasCells, HasWholeSectors, cells_on}
use Rattle.place_model.specs.Tags.{IsOfTags, tag_byte_at}
use Rattle.place_model.proofs.WorkedDisk.{bitmap_format}
use Rattle.bitmap_model.specs.BitmapDisk.{BitmapDisk, IsCutOf, bit_sector}
use Rattle.bitmap_model.specs.Opening.{opened_disk}
use Rattle.bitmap_model.specs.Steps.{AreTags, after_recalculation, with_dirty}
use Rattle.bitmap_model.proofs.CutOfLemmas.{standing_law}
use Rattle.bitmap_model.proofs.WorkedDisk.{content, dirty_sector, fresh, regions-one, KeepsCells-dirty}
use Rattle.change_model.specs.FromBitmap.{IsRecalculating}
use Rattle.change_model.proofs.BeginLemmas.{recalculating_begins, recalculating_tags, recalculating_region, recalculating_sync, recalculating_cut}
use Rattle.change_model.proofs.WorkedChange.{has_run}

-- ---- the image that is left

abbrev marked : Content
marked = with_run (bit_sector 0) dirty_sector content

abbrev left : Content
left = newest_only marked

abbrev entry : Image
entry = last_image left

cut : IsCutOf (with_dirty fresh 0) entry
cut = standing_law (with_dirty fresh 0) left KeepsCells-dirty.stands entry (newest_only-last marked)

HasWholeSectors-left : HasWholeSectors bitmap_format entry
HasWholeSectors-left sector inside = (KeepsCells-dirty.stands.each sector (entry sector) (newest_only-last marked sector)).whole inside

is_dirty-left : is_dirty bitmap_format.geometry entry 0 ≡ true
is_dirty-left = cut.set 0 (omega (arith, regions-one)) refl

-- ---- its tags are made

abbrev waiting : BitmapDisk
waiting = opened_disk bitmap_format entry

abbrev start : Content
start = newest_only left

IsRecalculating-left : IsRecalculating waiting entry start
IsRecalculating-left = recalculating_begins bitmap_format left (newest_only-last marked) cut.opens refl HasWholeSectors-left

-- While its region awaits they may be any,
AreTags-any : (tags : ℕ → List ℕ) → AreTags waiting tags
AreTags-any tags = record {
  each = λ b low rests.
      let inside = region_of-lt bitmap_format.geometry b low in
      let first : region_of bitmap_format.geometry b ≡ 0 = omega (arith, inside, regions-one) in
      absurd (true≢false (sym is_dirty-left ∙ ap waiting.awaiting (sym first) ∙ rests));
}

abbrev placed_tags : ℕ → List ℕ
placed_tags b = (placed_cells_of bitmap_format.geometry entry b).tag

-- such as zeros, which are written over them all.
abbrev zero_tags : ℕ → List ℕ
zero_tags b = replicate 32 0

abbrev zero_image : Image
zero_image sector = replicate 512 0

zeros : (size k : ℕ) → slice_index (replicate size 0) k ≡ 0
zeros size k = elim (cases_lt k size) [
  | inl low ↦ get_or-replicate size k 0 0 low
  | inr past ↦ let e : length {A = ℕ} (replicate size 0) ≡ size = length-replicate size 0 in get_or_past (replicate size 0) k 0 (omega (arith, e, past))
]

tag_sector : (tag_byte_at bitmap_format.geometry 0 0).sector ≡ 96
unfolding tag_byte_at tag_at tag_offset sector_at section_sectors section_entries entries_per_sector entry_size tag_run_of
tag_sector = refl

of_tags : (sector : ℕ) → 96 ≤ sector → sector < 97 → IsOfTags bitmap_format.geometry placed_tags zero_tags sector (zero_image sector)
of_tags sector above under = record {
  whole = refl;
  block = 0;
  byte = 0;
  block_low = omega arith;
  byte_low = omega arith;
  is = omega (arith, tag_sector);
  each = λ b i low i_low there. inr (zeros 512 (tag_byte_at bitmap_format.geometry b i).byte ∙ sym (zeros 32 i));
}

pub IsRecalculating-tags : IsRecalculating waiting entry (newest_only (with_run 96 (bytes_at zero_image 96 1) start))
IsRecalculating-tags = recalculating_tags waiting entry placed_tags zero_tags start (newest_only (with_run 96 (bytes_at zero_image 96 1) start)) IsRecalculating-left (AreTags-any placed_tags) (AreTags-any zero_tags)
    (has_run zero_image (λ sector inside. refl) 96 1 (omega arith) (IsOfTags bitmap_format.geometry placed_tags zero_tags) start (newest_only-last left) of_tags).adds

-- Once it has the tags of its bytes it awaits no more.
pub IsRecalculating-region : IsRecalculating (after_recalculation waiting 0) entry start
IsRecalculating-region = recalculating_region waiting entry 0 start is_dirty-left IsRecalculating-left

-- A sync keeps it,
pub IsRecalculating-synced : IsRecalculating waiting entry (newest_only start)
IsRecalculating-synced = recalculating_sync waiting entry start IsRecalculating-left (newest_only-last left)

-- and each image has the cells at opening meanwhile, with no other bit.
pub HasCells-meanwhile : EachImage (λ image. HasCells bitmap_format (cells_on bitmap_format entry) image
    × ((region : ℕ) → region < regions bitmap_format.geometry → is_dirty bitmap_format.geometry image region ≡ true → is_dirty bitmap_format.geometry entry region ≡ true)) start
HasCells-meanwhile = recalculating_cut waiting entry start IsRecalculating-left
