-- Bits and awaiting blocks at values from outside, by computing.
use Rattle.std.proofs.Common.{◌≡◌, ℕ, ◌==◌, true, false, if◌then◌else◌, refl, List, [], ◌∷◌, length, filter, replicate}
use Rattle.std.specs.List.{range_with_len}
use Rattle.disk_model.specs.Disk.{Image}
use Rattle.image_model.specs.Bitmap.{is_bit_set, dirty_regions, awaits, region_awaits, some_await}
use Rattle.image_model.specs.Geometry.{layout_of, regions_for, bitmap_sectors_for}
use Rattle.image_model.specs.Superblock.{Superblock}

-- One block of 80 written, in regions of one block: byte 0 of the bitmap is 08.
is_bit_set-third : is_bit_set (0x08 ∷ replicate 9 0) 3 ≡ true
unfolding is_bit_set
is_bit_set-third = refl

is_bit_set-eleventh : is_bit_set (0 ∷ 0x08 ∷ []) 11 ≡ true
unfolding is_bit_set
is_bit_set-eleventh = refl

is_bit_set-other : is_bit_set (0x08 ∷ replicate 9 0) 2 ≡ false
unfolding is_bit_set
is_bit_set-other = refl

-- The small image with regions of so many blocks, flags and a sector from which tags are recalculated.
abbrev small : ℕ → ℕ → ℕ → Superblock
small log2_region flags recalc_sector = record {
  version = 4;
  log2_interleave = 3;
  tag_size = 32;
  sections = 1;
  provided = 80;
  flags = flags;
  log2_spb = 0;
  log2_region = log2_region;
  recalc_sector = recalc_sector;
  salt = replicate 16 0;
}

-- The first byte of sector 8 is 08, and all others are 0.
abbrev marked : Image
marked sector = if sector == 8 then 0x08 ∷ replicate 511 0 else replicate 512 0

dirty_regions-third : dirty_regions (layout_of (small 0 0xc 0)) marked ≡ 3 ∷ []
unfolding is_bit_set regions_for bitmap_sectors_for
dirty_regions-third = refl

-- The blocks that await.
abbrev awaiting : Superblock → List ℕ
awaiting s = filter (awaits s (layout_of s) marked) (range_with_len 0 80)

-- With a bitmap the bits alone decide, also where tags are to be recalculated.
awaiting-bitmap : awaiting (small 0 0xe 0) ≡ 3 ∷ []
unfolding awaits is_bit_set bitmap_sectors_for regions_for
awaiting-bitmap = refl

-- In regions of 16 blocks the bit is that of blocks 48 to 63.
awaiting-bitmap_of_16 : awaiting (small 4 0xe 0) ≡ range_with_len 48 16
unfolding awaits is_bit_set bitmap_sectors_for regions_for
awaiting-bitmap_of_16 = refl

-- With a journal all 80 blocks await, where tags are to be recalculated from sector 0 on,
awaiting-from_0 : length (awaiting (small 4 0xa 0)) ≡ 80
unfolding awaits
awaiting-from_0 = refl

-- the last 64 from sector 16 on,
awaiting-from_16 : awaiting (small 4 0xa 16) ≡ range_with_len 16 64
unfolding awaits
awaiting-from_16 = refl

-- none from the end on,
awaiting-from_80 : awaiting (small 4 0xa 80) ≡ []
unfolding awaits
awaiting-from_80 = refl

-- and none without the flag.
awaiting-no_flag : awaiting (small 4 0x8 0) ≡ []
unfolding awaits
awaiting-no_flag = refl

-- The regions that await are then the last four of five.
region_awaits-from_16 : filter (region_awaits (small 4 0xa 16) (layout_of (small 4 0xa 16)) marked) (range_with_len 0 5) ≡ 1 ∷ 2 ∷ 3 ∷ 4 ∷ []
unfolding region_awaits awaits
region_awaits-from_16 = refl

-- By the fields some block is to be recalculated from any sector of the device on, and none where the flag is clear.
some_await-start : some_await (small 15 0xa 0) ≡ true
some_await-start = refl

some_await-last : some_await (small 15 0xa 79) ≡ true
some_await-last = refl

some_await-end : some_await (small 15 0xa 80) ≡ false
some_await-end = refl

some_await-clear : some_await (small 15 0x8 0) ≡ false
some_await-clear = refl
