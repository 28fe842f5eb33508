-- What a contract sees of an `Awaiting`: which regions await the tags of their blocks, and which blocks of these do.
-- Source: Linux, drivers/md/dm-integrity.c, integrity_recalc. Own: with a bitmap the bits alone decide.
use Rattle.std.specs.Prelude.{◌≡◌, ℕ, ◌/◌, ◌<◌, ◌==◌, Bool, false, ◌&&◌, Option, Some, None}
use Rattle.image_model.specs.Below.{any_below}
use Rattle.image_model.specs.Bitmap.{is_to_recalculate}
use Rattle.image_model.specs.Geometry.{Geometry, region_of, regions}
use Rattle.image_model.specs.Superblock.{Superblock}
use Rattle.dirty_bitmap.specs.Bits.{RegionBits, bits_of}
use Rattle.dirty_bitmap.specs.Regions.{Regions, has_region}
use Rattle.recalculation.specs.declared.left.Left.{Left}
use Rattle.recalculation.specs.declared.places.Places.{Places}
use Rattle.recalculation.specs.Places.{IsPlaces, awaits_from}
use Rattle.recalculation.specs.Run.{HasBuffer}

-- Where the blocks lie, the first one that may await, and the regions that do, if any did at opening.
pub record AwaitingRegions : Type 0 where
  pub geometry : Geometry
  pub first : ℕ
  pub left : Option Regions

-- The region is in the set, if there is one.
abbrev pub is_left : Option Regions → ℕ → Bool
is_left None region = false
is_left (Some set) region = has_region set region

-- Which regions await.
abbrev pub awaiting_of : AwaitingRegions → ℕ → Bool
awaiting_of a = is_left a.left

-- The blocks of regions that are left, and not below the first.
abbrev pub left_blocks : Geometry → (first : ℕ) → (left : ℕ → Bool) → ℕ → Bool
left_blocks g first left b = left (region_of g b) && awaits_from first b

-- Which blocks await.
abbrev pub awaiting_blocks : AwaitingRegions → ℕ → Bool
awaiting_blocks a = left_blocks a.geometry a.first (awaiting_of a)

-- ---- at opening

-- Which blocks await then: with a bitmap those of regions whose bit is set, and without one those that are to be
-- recalculated, with a sector at or above the superblock's position.
abbrev pub opening_blocks : Superblock → Geometry → Option RegionBits → ℕ → Bool
opening_blocks s g None b = is_to_recalculate s g b
opening_blocks s g (Some bits) b = bits_of bits (region_of g b)

-- Which regions do: those with such a block.
abbrev pub opening_regions : Superblock → Geometry → Option RegionBits → ℕ → Bool
opening_regions s g bits region = any_below g.blocks (λ b. region_of g b == region && opening_blocks s g bits b)

-- The first block that may await: with a bitmap block 0, and without one that which holds the position.
abbrev pub opening_first : Superblock → Geometry → Option RegionBits → ℕ
opening_first s g None = s.recalc_sector / g.shape.spb
opening_first s g (Some bits) = 0

-- So they await.
pub record IsOpening (s : Superblock) (g : Geometry) (bits : Option RegionBits) (a : AwaitingRegions) : Type 0 where
  pub geometry : a.geometry ≡ g
  pub first : a.first ≡ opening_first s g bits
  pub regions_ : (region : ℕ) → region < regions g → awaiting_of a region ≡ opening_regions s g bits region
  pub blocks_ : (b : ℕ) → b < g.blocks → awaiting_blocks a b ≡ opening_blocks s g bits b

-- No block does.
pub record NoneAwaits (s : Superblock) (g : Geometry) (bits : Option RegionBits) : Type 0 where
  pub none : (b : ℕ) → b < g.blocks → opening_blocks s g bits b ≡ false

-- ---- in memory

-- The set is one of the geometry's regions, with a buffer for blocks.
pub record IsLeft (g : Geometry) (left : Left) : Type 0 where
  pub size : left.set.size ≡ regions g
  pub buffer : HasBuffer left.run

-- So is what is left, if there is any.
pub record IsAwaiting (places : Places) (left : Option Left) : Type 0 where
  pub numbers : IsPlaces places
  pub is_left_ : (l : Left) → left ≡ Some l → IsLeft places.geometry l
