-- A fresh disk of eight blocks, left with its bit set: in memory its one region awaits, and the laws of a recalculation of all
-- regions hold of it. So none of them speaks of nothing.
use Rattle.std.proofs.Common.{◌≡◌, ℕ, true, false, refl, sym, ◌∙◌, ap, arith, Some, List, ◌∷◌, replicate}
use Rattle.std.proofs.lemmas.Bool.{or_left}
use Rattle.disk_model.specs.Disk.{Content, HasNothingPending, Image, last_image, newest_only, with_run}
use Rattle.disk_model.proofs.DiskLemmas.{newest_only-last, only_candidate}
use Rattle.image_model.specs.Bitmap.{is_bit_set, is_dirty}
use Rattle.image_model.specs.Cells.{placed_cells_of}
use Rattle.place_model.specs.Format.{HasWholeSectors}
use Rattle.place_model.proofs.WorkedDisk.{bitmap_format}
use Rattle.bitmap_model.specs.BitmapDisk.{IsCutOf, bit_sector}
use Rattle.bitmap_model.specs.Opening.{opened_disk}
use Rattle.bitmap_model.specs.Steps.{with_dirty}
use Rattle.bitmap_model.proofs.CutOfLemmas.{standing_law}
use Rattle.bitmap_model.proofs.OpeningLemmas.{opened_law}
use Rattle.bitmap_model.proofs.WorkedDisk.{KeepsCells-dirty, content, dirty_sector, fresh, regions-one}
use Rattle.bitmap_laws.specs.CallLaws.{AreSameBits}
use Rattle.change_model.proofs.BeginLemmas.{recalculating_begins}
use Rattle.dirty_bitmap.specs.Bits.{RegionBits, bits_of}
use Rattle.recalculation.specs.AllWithBitmap.{OpensWithBitmap, recalculated_disk}
use Rattle.recalculation.specs.Awaiting.{AwaitingRegions, IsOpening}
use Rattle.recalculation.specs.Rule.{rule_on}
use Rattle.recalculation.proofs.AllWithBitmapLemmas.{opened_with_bitmap_law}
use Rattle.recalculation.proofs.AwaitingLemmas.{bits_opening}

-- ---- the image that is left

abbrev marked : Content
marked = with_run (bit_sector 0) dirty_sector content

abbrev left : Content
left = newest_only marked

abbrev entry : Image
entry = last_image left

abbrev start : Content
start = newest_only left

cut : IsCutOf (with_dirty fresh 0) entry
cut = standing_law (with_dirty fresh 0) left KeepsCells-dirty.stands entry (newest_only-last marked)

HasWholeSectors-left : HasWholeSectors bitmap_format entry
HasWholeSectors-left sector inside = (KeepsCells-dirty.stands.each sector (entry sector) (newest_only-last marked sector)).whole inside

HasNothingPending-start : HasNothingPending start
HasNothingPending-start = record { only = λ sector x has. only_candidate (entry sector) x has }

-- ---- in memory

-- The bit of region 0 is set: byte 0 is 01.
abbrev first_set : List ℕ
first_set = 1 ∷ replicate 4095 0

abbrev bits : RegionBits
bits = record { geometry = bitmap_format.geometry; bytes = first_set }

abbrev waiting : AwaitingRegions
waiting = record { geometry = bitmap_format.geometry; first = 0; left = Some (record { size = 1; bytes = first_set }) }

is_bit_set-first_set : is_bit_set first_set 0 ≡ true
unfolding is_bit_set
is_bit_set-first_set = refl

AreSameBits-left : AreSameBits bitmap_format.geometry (bits_of bits) (is_dirty bitmap_format.geometry entry)
AreSameBits-left region low =
    let first : region ≡ 0 = omega (arith, regions-one) in
    let dirty : is_dirty bitmap_format.geometry entry 0 ≡ true = cut.set 0 (omega (arith, regions-one)) refl in
    ap (is_bit_set first_set) first ∙ is_bit_set-first_set ∙ sym dirty ∙ ap (is_dirty bitmap_format.geometry entry) (sym first)

IsOpening-left : IsOpening bitmap_format.superblock bitmap_format.geometry (Some bits) waiting
IsOpening-left = bits_opening bitmap_format.superblock bitmap_format.geometry bits waiting refl refl (λ region low. refl)

-- The tags that are in place.
abbrev tags : Content → ℕ → List ℕ
tags c b = (placed_cells_of bitmap_format.geometry (last_image c) b).tag

-- ---- what the laws speak of

pub OpensWithBitmap-left : OpensWithBitmap bitmap_format entry (rule_on bitmap_format) waiting (tags start) start
OpensWithBitmap-left = record {
  opened = record {
    is = recalculating_begins bitmap_format left (newest_only-last marked) cut.opens refl HasWholeSectors-left;
    keeps = opened_law bitmap_format start (tags start) cut.opens refl HasNothingPending-start HasWholeSectors-left (λ b low. refl);
  };
  awaiting = opened_with_bitmap_law bitmap_format entry bits (rule_on bitmap_format) waiting AreSameBits-left IsOpening-left refl;
}

-- Once the region is recalculated it is fresh, since its bit may not be cleared before a sync.
pub recalculated_disk-fresh : (recalculated_disk (opened_disk bitmap_format entry)).fresh 0 ≡ true
recalculated_disk-fresh = or_left (is_dirty bitmap_format.geometry entry 0) false (sym (AreSameBits-left 0 (omega (arith, regions-one))) ∙ is_bit_set-first_set)
