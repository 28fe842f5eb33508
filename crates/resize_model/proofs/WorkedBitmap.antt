-- A disk of eight blocks with a bit for each, of which that of block 3 is set, on 128 sectors: eight blocks are added to it. The
-- bits of no region are set at the start, and clear in the sector that is written.
use Rattle.std.proofs.Common.{◌≡◌, ◌≢◌, ◌↔◌, inl, inr, ℕ, ◌+◌, ◌-◌, ◌/◌, ◌%◌, ◌<◌, ◌≤◌, ◌==◌, if◌then◌else◌, suc, true, false, Ok, None, List, [], ◌∷◌, length, slice_index, replicate, refl, ap, ◌∙◌, subst, arith}
use Rattle.std.proofs.lemmas.Bool.{cases_eq, cases_lt, eq-eqb, le-ltb, ne_eqb}
use Rattle.std.proofs.lemmas.List.{get_or-replicate}
use Rattle.std.proofs.lemmas.Nat.Bits.{bit_at-zero}
use Rattle.disk_model.specs.Disk.{Content, HasNothingPending, Image, sector_in, with_run}
use Rattle.disk_model.proofs.DiskLemmas.{AddsSome-all, only_candidate}
use Rattle.image_model.specs.Bitmap.{is_bit_set, is_dirty}
use Rattle.image_model.specs.Cells.{placed_cells_of}
use Rattle.image_model.specs.Geometry.{best_provided, best_provided_of, bitmap_sectors_for, entries_per_sector, entry_size, geometry_of, layout_of, regions, regions_for, section_entries, section_sectors, sector_at, tag_run_of}
use Rattle.image_model.specs.Superblock.{Superblock, fields_in, superblock_of}
use Rattle.bitmap_model.specs.BitmapDisk.{bit_in}
use Rattle.place_model.specs.Format.{DiskFormat, HasWholeSectors, OpensAs}
use Rattle.place_model.proofs.WorkedDisk.{bitmap_format, fresh_bitmap, HasWholeSectors-bitmap}
use Rattle.resize_model.specs.CallLaws.{AreNewBits, HasFilledNow, StandsThrough}
use Rattle.resize_model.specs.Growth.{Growth, IsNewRegion, IsOfNewBits, StandsFor, geometry_then}
use Rattle.resize_model.specs.Refusals.{BitmapFits}
use Rattle.resize_model.specs.StepLaws.{resizing}
use Rattle.resize_model.proofs.CallLemmas.{bits_done_law, bits_law, filling_law}
use Rattle.resize_model.proofs.PlacesLemmas.{same_bits_law}
use Rattle.resize_model.proofs.StepLemmas.{begins_law}
use Rattle.resize_model.proofs.WorkedGrowth.{now_is}

-- ---- the disk

abbrev dotted : DiskFormat
dotted =
    let s : Superblock = record bitmap_format.superblock { log2_region = 0 } in
    record { key = None; sectors = 128; superblock = s; geometry = layout_of s }

abbrev dotted_head : List ℕ
dotted_head =
    0x69 ∷ 0x6e ∷ 0x74 ∷ 0x65 ∷ 0x67 ∷ 0x72 ∷ 0x74 ∷ 0x00 ∷ 0x04 ∷ 0x03 ∷ 0x20 ∷ 0x00 ∷ 0x01 ∷ 0x00 ∷ 0x00 ∷ 0x00
    ∷ 0x08 ∷ 0x00 ∷ 0x00 ∷ 0x00 ∷ 0x00 ∷ 0x00 ∷ 0x00 ∷ 0x00 ∷ 0x0c ∷ 0x00 ∷ 0x00 ∷ 0x00 ∷ 0x00 ∷ 0x00 ∷ 0x00 ∷ 0x00
    ∷ replicate 480 0

-- Bit 3 is set, and those of no region.
abbrev old_bits : List ℕ
old_bits = 0x08 ∷ 0xff ∷ replicate 510 0

abbrev dotted_bitmap : Image
dotted_bitmap sector = if sector == 0 then dotted_head else if sector == 8 then old_bits else fresh_bitmap sector

superblock_of-dotted : superblock_of dotted_head ≡ Ok dotted.superblock
unfolding superblock_of fields_in
superblock_of-dotted = refl

geometry_of-dotted : geometry_of dotted.superblock 128 ≡ Ok dotted.geometry
unfolding geometry_of sector_at tag_run_of bitmap_sectors_for regions_for entry_size entries_per_sector section_entries section_sectors
geometry_of-dotted = refl

OpensAs-dotted : OpensAs dotted dotted_bitmap
OpensAs-dotted = record {
  openable = record {
    readable = record { superblock = dotted.superblock; geometry = dotted.geometry; has_superblock = superblock_of-dotted; has_geometry = geometry_of-dotted };
    walk = λ clear. absurd (let wrong : true ≡ false = clear in cc);
    entries = tt;
  };
  superblock = refl;
  geometry = refl;
}

same_elsewhere : (sector : ℕ) → sector ≢ 0 → sector ≢ 8 → dotted_bitmap sector ≡ fresh_bitmap sector
same_elsewhere sector other behind = rw (ne_eqb sector 0 other, ne_eqb sector 8 behind) refl

HasWholeSectors-dotted : HasWholeSectors dotted dotted_bitmap
HasWholeSectors-dotted sector inside = elim (cases_eq sector 0) [
  | inl zero ↦ rw (eq-eqb sector 0 zero) refl
  | inr other ↦ elim (cases_eq sector 8) [
    | inl eight ↦ rw (ne_eqb sector 0 other, eq-eqb sector 8 eight) refl
    | inr behind ↦ elim (cases_lt sector 112) [
      | inl low ↦ ap length (same_elsewhere sector other behind) ∙ HasWholeSectors-bitmap sector low
      | inr above ↦ rw (ne_eqb sector 0 other, ne_eqb sector 8 behind, le-ltb sector 16 (omega arith), le-ltb sector 96 (omega arith), ne_eqb sector 96 (λ same. omega arith)) refl
    ]
  ]
]

abbrev content : Content
content sector = dotted_bitmap sector ∷ []

settled : HasNothingPending content
settled = record { only = λ sector x has. only_candidate (dotted_bitmap sector) x has }

fits : BitmapFits dotted.superblock dotted.geometry 128
unfolding best_provided_of best_provided tag_run_of entry_size entries_per_sector section_entries section_sectors bitmap_sectors_for regions_for
fits set = omega arith

abbrev w : Growth
w = resizing dotted dotted_bitmap

StandsFor-dotted : StandsFor w content
StandsFor-dotted = begins_law dotted content OpensAs-dotted fits (λ clear. absurd (let wrong : true ≡ false = clear in cc)) settled HasWholeSectors-dotted

-- ---- the bits

-- Eight regions come, whose bits are in the sector of the old ones.
new_region : (region : ℕ) → IsNewRegion w region → (8 ≤ region) × (region < 16)
unfolding best_provided_of best_provided tag_run_of entry_size entries_per_sector section_entries section_sectors regions_for
new_region region is_new = (is_new.new, is_new.low)

IsNewRegion-eight : IsNewRegion w 8
unfolding best_provided_of best_provided tag_run_of entry_size entries_per_sector section_entries section_sectors regions_for
IsNewRegion-eight = record { new = omega arith; low = omega arith }

-- The old bit stays, and the others are clear.
abbrev new_bits : List ℕ
new_bits = 0x08 ∷ replicate 511 0

old_region : (region : ℕ) → region < 8 → is_bit_set new_bits (bit_in region) ≡ is_bit_set old_bits (bit_in region)
unfolding is_bit_set
old_region region low = let first : bit_in region / 8 ≡ 0 = omega arith in rw first refl

no_region : (region : ℕ) → 8 ≤ region → region < 4096 → is_bit_set new_bits (bit_in region) ≡ false
unfolding is_bit_set
no_region region above low =
    let n = bit_in region / 8 - 1 in
    let next : bit_in region / 8 ≡ suc n = omega arith in
    let zero : slice_index new_bits (bit_in region / 8) ≡ 0 = ap (slice_index new_bits) next ∙ get_or-replicate 511 n 0 0 (omega arith) in
    rw (zero, bit_at-zero (bit_in region % 8)) refl

old_regions : (region : ℕ) → region < 8 ↔ region < regions dotted.geometry
unfolding regions_for
old_regions region = ((λ low. low), (λ low. low))

IsOfNewBits-dotted : IsOfNewBits w 8 new_bits
IsOfNewBits-dotted = record {
  has_bitmap = refl;
  whole = refl;
  new = 8;
  is_new = IsNewRegion-eight;
  is = refl;
  stay = λ region low there. old_region region ((old_regions region).1 low);
  clear = λ region above there. no_region region (elim (cases_lt region 8) [ inl low ↦ absurd (let inside = (old_regions region).0 low in omega arith) | inr behind ↦ behind ]) (omega arith);
}

AreNewBits-dotted : AreNewBits w 0 1 new_bits
AreNewBits-dotted = record {
  size = refl;
  each = λ k low. let first : 0 ≡ k = omega arith in subst (λ (n : ℕ). IsOfNewBits w (8 + 0 + n) (sector_in new_bits n)) first IsOfNewBits-dotted;
}

-- A sector in which a bit of no region is set is none,
set-unused : IsOfNewBits w 8 old_bits → ⊥
unfolding is_bit_set
set-unused is = let wrong : true ≡ false = is.clear 8 (elim (cases_lt 8 (regions dotted.geometry)) [ inl more ↦ absurd (let low = (old_regions 8).1 more in omega arith) | inr less ↦ less ]) refl in cc

-- and neither is one that loses an old bit.
lost-bit : IsOfNewBits w 8 (replicate 512 0) → ⊥
unfolding is_bit_set
lost-bit is = let wrong : false ≡ true = is.stay 3 ((old_regions 3).0 (omega arith)) refl in cc

-- ---- the calls

abbrev tags : Content → ℕ → List ℕ
tags c b = (placed_cells_of dotted.geometry dotted_bitmap b).tag

abbrev start : List Content
start = content ∷ []

HasFilled-none : HasFilledNow w 0 0 0 tags start
HasFilled-none = filling_law w 0 tags start (now_is _ content [] StandsFor-dotted) (λ region is_new. omega arith) (now_is _ content [] (λ b low. refl))

abbrev written : List Content
written = with_run 8 new_bits content ∷ start

bits-through : StandsThrough w start written
bits-through = bits_law w 0 0 0 1 new_bits tags start written AreNewBits-dotted HasFilled-none
    (record { since = with_run 8 new_bits content ∷ []; grows = refl; each = (AddsSome-all 8 new_bits content, tt) })

bits-done : HasFilledNow w 0 0 1 tags written
bits-done = bits_done_law w 0 0 0 1 new_bits tags tags start written AreNewBits-dotted HasFilled-none refl (λ first told c told_now b low. refl)

-- The old regions have their bits where they had them.
is_dirty-then : is_dirty (geometry_then w) dotted_bitmap 3 ≡ is_dirty dotted.geometry dotted_bitmap 3
is_dirty-then = same_bits_law dotted w.provided dotted_bitmap 3 StandsFor-dotted.formed.grown refl HasWholeSectors-dotted ((old_regions 3).0 (omega arith))
