-- What the words of the contracts say of an image, and to the laws of the modes.
use Rattle.std.specs.Prelude.{◌≡◌, ℕ, ◌<◌, Bool, true, false, List, None, Some}
use Rattle.disk_model.specs.Disk.{Content, Image}
use Rattle.image_model.specs.declared.flags.TheConstants.{DIRTY_BITMAP, RECALCULATING}
use Rattle.image_model.specs.Bitmap.{awaits, is_dirty, is_to_recalculate, region_awaits}
use Rattle.image_model.specs.Geometry.{Geometry, region_of, regions}
use Rattle.image_model.specs.Superblock.{Superblock, has_flag}
use Rattle.device_model.specs.History.{Tagger}
use Rattle.direct_laws.specs.CallLaws.{AddsTags}
use Rattle.bitmap_laws.specs.CallLaws.{AreSameBits, every_block, region_tags}
use Rattle.bitmap_laws.specs.ServeLaws.{Recalculates}
use Rattle.dirty_bitmap.specs.Bits.{RegionBits, bits_of}
use Rattle.recalculation.specs.Awaiting.{AwaitingRegions, awaiting_blocks, awaiting_of}
use Rattle.recalculation.specs.Awaiting.{opening_blocks, opening_first, opening_regions}

-- ---- at opening

-- With a bitmap whose bits are in memory those regions and blocks await that the image tells,
abbrev pub OpenedBitsLaw : Type 0
OpenedBitsLaw = (s : Superblock) (g : Geometry) (bits : RegionBits) (image : Image)
    → has_flag DIRTY_BITMAP s.flags ≡ true → AreSameBits g (bits_of bits) (is_dirty g image)
    → ((region : ℕ) → region < regions g → opening_regions s g (Some bits) region ≡ region_awaits s g image region)
    × ((b : ℕ) → b < g.blocks → opening_blocks s g (Some bits) b ≡ awaits s g image b)

-- and so without one.
abbrev pub OpenedPositionLaw : Type 0
OpenedPositionLaw = (s : Superblock) (g : Geometry) (image : Image) → has_flag DIRTY_BITMAP s.flags ≡ false
    → ((region : ℕ) → region < regions g → opening_regions s g None region ≡ region_awaits s g image region)
    × ((b : ℕ) → b < g.blocks → opening_blocks s g None b ≡ awaits s g image b)

-- ---- a recalculation

-- It is the same by any test that tells the blocks of the region alike,
abbrev pub SameBlocksLaw : Type 0
SameBlocksLaw = (tag : Tagger) (g : Geometry) (one other : ℕ → Bool) (region : ℕ) (tags now : Content → ℕ → List ℕ)
    (before after : List Content)
    → ((b : ℕ) → b < g.blocks → region_of g b ≡ region → one b ≡ other b)
    → Recalculates tag g one region tags now before after → Recalculates tag g other region tags now before after

-- also at each of its moments, whether it fails or not.
abbrev pub SameMomentsLaw : Type 0
SameMomentsLaw = (tag : Tagger) (g : Geometry) (one other : ℕ → Bool) (region : ℕ) (tags : Content → ℕ → List ℕ)
    (before after : List Content) → ((b : ℕ) → b < g.blocks → region_of g b ≡ region → one b ≡ other b)
    → AddsTags g tags (λ c. region_tags tag g one region c (tags c)) before after
    → AddsTags g tags (λ c. region_tags tag g other region c (tags c)) before after

-- With a bitmap, where no block is below the first, each block of a region that awaits does,
abbrev pub BitmapBlocksLaw : Type 0
BitmapBlocksLaw = (a : AwaitingRegions) (region b : ℕ) → a.first ≡ 0 → awaiting_of a region ≡ true
    → region_of a.geometry b ≡ region → awaiting_blocks a b ≡ every_block b

-- and without one each that is to be recalculated.
abbrev pub PositionBlocksLaw : Type 0
PositionBlocksLaw = (s : Superblock) (a : AwaitingRegions) (region b : ℕ) → 0 < a.geometry.shape.spb
    → has_flag RECALCULATING s.flags ≡ true → a.first ≡ opening_first s a.geometry None
    → awaiting_of a region ≡ true → region_of a.geometry b ≡ region
    → awaiting_blocks a b ≡ is_to_recalculate s a.geometry b
