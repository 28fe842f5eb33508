-- Values of the definitions, computed: which blocks and regions await at opening, by a bitmap and by a position.
use Rattle.std.proofs.Common.{◌≡◌, ℕ, ◌^◌, ◌-◌, ◌==◌, Bool, refl, None, Some, List, [], ◌∷◌, filter, replicate}
use Rattle.std.specs.List.{range_with_len}
use Rattle.image_model.specs.Bitmap.{is_bit_set}
use Rattle.image_model.specs.Geometry.{Geometry, regions, regions_for}
use Rattle.image_model.specs.Superblock.{Superblock}
use Rattle.dirty_bitmap.specs.Bits.{RegionBits}
use Rattle.recalculation.specs.Awaiting.{left_blocks, opening_blocks, opening_first, opening_regions}

-- A device of 47 blocks of eight sectors, of which 2 ^ log2_region make a region.
abbrev pub of_47_blocks : (log2_region : ℕ) → Geometry
of_47_blocks log2_region = record {
  shape = record { spb = 8; tag_size = 32 };
  sections = 1;
  interleave = 8;
  tag_run = 8;
  blocks = 47;
  log2_region = log2_region;
}

-- Its bitmap, whose first byte is this one, and the others 0.
abbrev pub bits_with : (log2_region byte : ℕ) → RegionBits
bits_with log2_region byte = record { geometry = of_47_blocks log2_region; bytes = byte ∷ replicate 4095 0 }

-- The fields of an image with these flags, whose tags are recalculated from this sector on.
abbrev fields : (flags recalc_sector : ℕ) → Superblock
fields flags recalc_sector = record {
  version = 4;
  log2_interleave = 3;
  tag_size = 32;
  sections = 1;
  provided = 376;
  flags = flags;
  log2_spb = 3;
  log2_region = 0;
  recalc_sector = recalc_sector;
  salt = replicate 16 0;
}

-- The blocks that pass, of all 47.
abbrev those : (ℕ → Bool) → List ℕ
those passes = filter passes (range_with_len 0 47)

-- ---- by a bitmap

-- Block 3 was written and flushed, and its bit is not cleared: byte 0 is 08, and that block alone awaits,
opening_blocks-third : those (opening_blocks (fields 0xc 0) (of_47_blocks 0) (Some (bits_with 0 0x08))) ≡ 3 ∷ []
unfolding is_bit_set
opening_blocks-third = refl

-- with its region.
opening_regions-third : those (opening_regions (fields 0xc 0) (of_47_blocks 0) (Some (bits_with 0 0x08))) ≡ 3 ∷ []
unfolding is_bit_set
opening_regions-third = refl

-- In regions of four blocks the last has three: bit 11 is that of blocks 44, 45 and 46.
abbrev eleventh : RegionBits
eleventh = record { geometry = of_47_blocks 2; bytes = 0 ∷ 0x08 ∷ replicate 4094 0 }

opening_blocks-last_region : those (opening_blocks (fields 0xc 0) (of_47_blocks 2) (Some eleventh)) ≡ 44 ∷ 45 ∷ 46 ∷ []
unfolding is_bit_set
opening_blocks-last_region = refl

-- The bits alone decide, also where tags are to be recalculated from a sector on, and block 0 is the first that may.
opening_blocks-bits_alone : those (opening_blocks (fields 0xe 368) (of_47_blocks 0) (Some (bits_with 0 0x01))) ≡ 0 ∷ []
unfolding is_bit_set
opening_blocks-bits_alone = refl

opening_regions-bits_alone :
    those (opening_regions (fields 0xe 368) (of_47_blocks 0) (Some (bits_with 0 0x01))) ≡ 0 ∷ []
unfolding is_bit_set
opening_regions-bits_alone = refl

opening_first-bits_alone : opening_first (fields 0xe 368) (of_47_blocks 0) (Some (bits_with 0 0x01)) ≡ 0
opening_first-bits_alone = refl

-- Where no bit is set none does.
opening_blocks-no_bit : those (opening_blocks (fields 0xe 0) (of_47_blocks 0) (Some (bits_with 0 0))) ≡ []
unfolding is_bit_set
opening_blocks-no_bit = refl

-- ---- by a position

-- Block 44 has sectors 352 to 359. From its first one on the last three blocks await, and so from its last one on,
opening_blocks-from_352 : those (opening_blocks (fields 0xa 352) (of_47_blocks 0) None) ≡ 44 ∷ 45 ∷ 46 ∷ []
opening_blocks-from_352 = refl

opening_blocks-from_359 : those (opening_blocks (fields 0xa 359) (of_47_blocks 0) None) ≡ 44 ∷ 45 ∷ 46 ∷ []
opening_blocks-from_359 = refl

-- and from the next sector on it does not.
opening_blocks-from_360 : those (opening_blocks (fields 0xa 360) (of_47_blocks 0) None) ≡ 45 ∷ 46 ∷ []
opening_blocks-from_360 = refl

opening_first-from_359 : opening_first (fields 0xa 359) (of_47_blocks 0) None ≡ 44
opening_first-from_359 = refl

opening_first-from_360 : opening_first (fields 0xa 360) (of_47_blocks 0) None ≡ 45
opening_first-from_360 = refl

-- Where tags are not to be recalculated, none awaits.
opening_blocks-no_flag : those (opening_blocks (fields 0x8 0) (of_47_blocks 0) None) ≡ []
opening_blocks-no_flag = refl

-- Of region 11, which is left, the blocks from 45 on: block 44 is below the first.
left_blocks-last_region : those (left_blocks (of_47_blocks 2) 45 (λ region. region == 11)) ≡ 45 ∷ 46 ∷ []
left_blocks-last_region = refl

-- ---- regions by a position

-- A device of 18 blocks of two sectors.
abbrev of_18_blocks : (log2_region : ℕ) → Geometry
of_18_blocks log2_region = record {
  shape = record { spb = 2; tag_size = 4 };
  sections = 1;
  interleave = 8;
  tag_run = 8;
  blocks = 18;
  log2_region = log2_region;
}

-- Its regions that await from this sector on.
abbrev awaiting_from : (log2_region recalc_sector : ℕ) → List ℕ
awaiting_from log2_region recalc_sector =
    let g = of_18_blocks log2_region in
    filter (opening_regions (fields 0xa recalc_sector) g None) (range_with_len 0 (regions g))

-- Of five regions of four blocks, the last of which has two: sector 7 is the last one of region 0, and 35 that of all.
awaiting_from-0 : awaiting_from 2 0 ≡ 0 ∷ 1 ∷ 2 ∷ 3 ∷ 4 ∷ []
unfolding regions_for
awaiting_from-0 = refl

awaiting_from-7 : awaiting_from 2 7 ≡ 0 ∷ 1 ∷ 2 ∷ 3 ∷ 4 ∷ []
unfolding regions_for
awaiting_from-7 = refl

awaiting_from-8 : awaiting_from 2 8 ≡ 1 ∷ 2 ∷ 3 ∷ 4 ∷ []
unfolding regions_for
awaiting_from-8 = refl

awaiting_from-31 : awaiting_from 2 31 ≡ 3 ∷ 4 ∷ []
unfolding regions_for
awaiting_from-31 = refl

awaiting_from-35 : awaiting_from 2 35 ≡ 4 ∷ []
unfolding regions_for
awaiting_from-35 = refl

awaiting_from-36 : awaiting_from 2 36 ≡ []
unfolding regions_for
awaiting_from-36 = refl

-- The greatest position is behind all.
awaiting_from-greatest : awaiting_from 2 (2 ^ 64 - 1) ≡ []
unfolding regions_for
awaiting_from-greatest = refl

-- Regions of one block each, and of more blocks than there are.
awaiting_from-35_by_one : awaiting_from 0 35 ≡ 17 ∷ []
unfolding regions_for
awaiting_from-35_by_one = refl

awaiting_from-31_by_one : awaiting_from 0 31 ≡ 15 ∷ 16 ∷ 17 ∷ []
unfolding regions_for
awaiting_from-31_by_one = refl

awaiting_from-35_in_one : awaiting_from 47 35 ≡ 0 ∷ []
unfolding regions_for
awaiting_from-35_in_one = refl

awaiting_from-0_in_one : awaiting_from 255 0 ≡ 0 ∷ []
unfolding regions_for
awaiting_from-0_in_one = refl

awaiting_from-36_in_one : awaiting_from 255 36 ≡ []
unfolding regions_for
awaiting_from-36_in_one = refl
