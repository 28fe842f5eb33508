-- Which regions are dirty in an image's bitmap, and which blocks await their tags.
-- Source: Linux, drivers/md/dm-integrity.c, block_bitmap_op and integrity_recalc.
use Rattle.std.specs.Prelude.{ℕ, ◌+◌, ◌*◌, ◌/◌, ◌%◌, ◌==◌, nat_lt, Bool, ◌&&◌, if◌then◌else◌, List, slice_index, filter}
use Rattle.std.specs.List.{range_with_len}
use Rattle.std.specs.Int.{bit_at}
use Rattle.disk_model.specs.Disk.{Image}
use Rattle.image_model.specs.declared.flags.TheConstants.{DIRTY_BITMAP, RECALCULATING}
use Rattle.image_model.specs.Below.{any_below}
use Rattle.image_model.specs.Geometry.{Geometry, region_of, regions, bitmap_sectors}
use Rattle.image_model.specs.Sectors.{bytes_at}
use Rattle.image_model.specs.Superblock.{Superblock, has_flag}

-- Bit r of some bytes: bit r mod 8 of byte r div 8.
unfoldable pub is_bit_set : List ℕ → ℕ → Bool
is_bit_set bytes r = bit_at (slice_index bytes (r / 8)) (r % 8) == 1

-- The region's bit is set in the bitmap, which stands in the journal's place.
abbrev pub is_dirty : Geometry → Image → ℕ → Bool
is_dirty g image region = is_bit_set (bytes_at image 8 (bitmap_sectors g)) region

-- The regions that are dirty.
abbrev pub dirty_regions : Geometry → Image → List ℕ
dirty_regions g image = filter (is_dirty g image) (range_with_len 0 (regions g))

-- The tags are to be recalculated from a sector on, and block b has one from there on.
abbrev pub is_to_recalculate : Superblock → Geometry → ℕ → Bool
is_to_recalculate s g b = has_flag RECALCULATING s.flags && nat_lt s.recalc_sector ((b + 1) * g.shape.spb)

-- They are to be recalculated of some block, by the fields alone: from a sector of the device on.
abbrev pub some_await : Superblock → Bool
some_await s = has_flag RECALCULATING s.flags && nat_lt s.recalc_sector s.provided

-- Block b awaits its tag at opening: with a bitmap the bits alone decide.
unfoldable pub awaits : Superblock → Geometry → Image → ℕ → Bool
awaits s g image b =
    if has_flag DIRTY_BITMAP s.flags
    then is_dirty g image (region_of g b)
    else is_to_recalculate s g b

-- A region awaits where one of its blocks does.
unfoldable pub region_awaits : Superblock → Geometry → Image → ℕ → Bool
region_awaits s g image region =
    any_below g.blocks (λ b. region_of g b == region && awaits s g image b)
