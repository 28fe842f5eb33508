-- A fresh disk of eight blocks with a bitmap is one in bitmap mode, and so it is once its bit is set: no law speaks of nothing.
use Rattle.std.proofs.Common.{◌≡◌, inl, inr, ℕ, ◌+◌, ◌-◌, ◌/◌, ◌%◌, ◌≤◌, ◌==◌, true, false, refl, sym, ◌∙◌, ap, arith, List, [], ◌∷◌, slice_index, replicate}
use Rattle.std.specs.Int.{bit_at}
use Rattle.std.proofs.lemmas.Bool.{cases_eq, cases_lt}
use Rattle.std.proofs.lemmas.List.{get_or-drop, get_or-replicate, get_or_past}
use Rattle.std.proofs.lemmas.Nat.Bits.{bit_at-pow_other, bit_at-zero}
use Rattle.disk_model.specs.Disk.{Content, newest_only, with_run}
use Rattle.disk_model.proofs.DiskLemmas.{newest_only-last, only_candidate}
use Rattle.image_model.specs.Bitmap.{is_bit_set}
use Rattle.image_model.specs.Cells.{placed_cells_of}
use Rattle.image_model.specs.Geometry.{regions, regions_for}
use Rattle.place_model.proofs.WorkedDisk.{bitmap_format, fresh_bitmap, OpensAs-bitmap, HasWholeSectors-bitmap}
use Rattle.bitmap_model.specs.BitmapDisk.{BitmapDisk, bit_sector, bit_in}
use Rattle.bitmap_model.specs.Opening.{opened_disk}
use Rattle.bitmap_model.specs.Steps.{AreBits, KeepsCells, with_dirty}
use Rattle.bitmap_model.proofs.KeepsLemmas.{keeps_dirty}
use Rattle.bitmap_model.proofs.OpeningLemmas.{opened_law}

abbrev pub content : Content
content sector = fresh_bitmap sector ∷ []

abbrev pub fresh : BitmapDisk
fresh = opened_disk bitmap_format fresh_bitmap

-- The tags that are in place.
abbrev pub tags : ℕ → List ℕ
tags b = (placed_cells_of bitmap_format.geometry fresh_bitmap b).tag

pub KeepsCells-fresh : KeepsCells fresh tags content
KeepsCells-fresh = opened_law bitmap_format content tags OpensAs-bitmap refl
    (record { only = λ sector x has. only_candidate (fresh_bitmap sector) x has }) HasWholeSectors-bitmap (λ b low. refl)

-- ---- the bit of the one region

-- The first sector of the bitmap with it.
abbrev pub dirty_sector : List ℕ
dirty_sector = 1 ∷ replicate 511 0

pub regions-one : regions bitmap_format.geometry ≡ 1
unfolding regions_for
regions-one = refl

pub is_bit_set-first : is_bit_set dirty_sector 0 ≡ true
unfolding is_bit_set
is_bit_set-first = refl

-- All others of the sector are clear.
pub is_bit_set-others : (place : ℕ) → 1 ≤ place → is_bit_set dirty_sector place ≡ false
unfolding is_bit_set
is_bit_set-others place behind = elim (cases_eq (place / 8) 0) [
  | inl first ↦
      ap (λ (k : ℕ). bit_at (slice_index dirty_sector k) (place % 8) == 1) first
      ∙ ap (λ (bit : ℕ). bit == 1) (bit_at-pow_other 0 (place % 8) (λ same. omega arith))
  | inr later ↦
      let next : 1 + (place / 8 - 1) ≡ place / 8 = omega arith in
      let byte : slice_index dirty_sector (place / 8) ≡ 0 =
      ap (slice_index dirty_sector) (sym next) ∙ sym (get_or-drop 1 dirty_sector (place / 8 - 1) 0) ∙ zeros (place / 8 - 1) in
      ap (λ (x : ℕ). bit_at x (place % 8) == 1) byte ∙ ap (λ (bit : ℕ). bit == 1) (bit_at-zero (place % 8))
]
  where
    rest : List ℕ
    rest = replicate 511 0

    zeros : (k : ℕ) → slice_index rest k ≡ 0
    zeros k = elim (cases_lt k 511) [
      | inl low ↦ get_or-replicate 511 k 0 0 low
      | inr past ↦ get_or_past (replicate 511 0) k 0 past
    ]

pub AreBits-dirty : AreBits bitmap_format.geometry (with_dirty fresh 0).bits (bit_sector 0) dirty_sector
AreBits-dirty = record {
  whole = refl;
  each = λ region low there. let first : region ≡ 0 = omega (arith, regions-one) in rw first is_bit_set-first;
  unused = λ region above there. is_bit_set-others (bit_in region) (omega (arith, regions-one));
}

pub KeepsCells-dirty : KeepsCells (with_dirty fresh 0) tags (newest_only (with_run (bit_sector 0) dirty_sector content))
KeepsCells-dirty = keeps_dirty fresh 0 dirty_sector tags content KeepsCells-fresh (newest_only-last content) (omega (arith, regions-one)) AreBits-dirty
