-- New blocks that have their zeros and their tags so far, for any image that the disk stands for.
use Rattle.std.specs.Prelude.{◌≡◌, ◌⊎◌, ℕ, ◌+◌, ◌*◌, ◌/◌, ◌%◌, ◌<◌, ◌≤◌, List, length, slice_index}
use Rattle.disk_model.specs.Disk.{Content, Image, last_image}
use Rattle.disk_model.specs.Moments.{HasNow}
use Rattle.image_model.specs.Geometry.{Geometry, data_at, tag_at}
use Rattle.tag_store.specs.Store.{tags_in}
use Rattle.resize_model.specs.CallLaws.{HasFilledNow, StandsThrough}
use Rattle.image_resizing.specs.declared.planning.Plan.{Plan}
use Rattle.image_resizing.specs.Plan.{growth_of}

-- The data of these blocks lie one behind the other.
pub record IsRow (g : Geometry) (first count : ℕ) : Type 0 where
  pub inside : first + count ≤ g.blocks
  pub each : (i : ℕ) → i < count → data_at g (first + i) ≡ data_at g first + i * g.shape.spb

-- The byte of the disk where the tag of a block begins.
abbrev pub tag_byte : Geometry → ℕ → ℕ
tag_byte g block = 512 * (tag_at g block).sector + (tag_at g block).byte

-- The tags of these blocks lie one behind the other.
pub record IsTagRow (g : Geometry) (first count : ℕ) : Type 0 where
  pub some : 1 ≤ count
  pub inside : first + count ≤ g.blocks
  pub each : (i : ℕ) → i < count → tag_byte g (first + i) ≡ tag_byte g first + i * g.shape.tag_size

-- The bytes of whole sectors, from sector `at` on, are what reads give of them, but for these from a byte on up to
-- another.
abbrev pub HasReadAround : (at from end : ℕ) → (run : List ℕ) → List Content → Type 0
HasReadAround at from end run moments = HasNow (λ c. (p : ℕ) → p < length run → (p < from) ⊎ (end ≤ p)
    → slice_index run p ≡ slice_index (last_image c (at + p / 512)) (p % 512)) moments

-- What reads give of the tags of all blocks, in their new places.
abbrev pub read_tags : Plan → Content → ℕ → List ℕ
read_tags plan c = tags_in plan.grown.geometry (last_image c)

-- Of the new blocks of a plan so many have their zeros now and so many their tags, by what reads give, and no bit of a
-- new region is set in so many sectors of the bitmap.
abbrev pub HasFilledOn : (sectors : ℕ) → Plan → Image → (written tagged groups : ℕ) → List Content → Type 0
HasFilledOn sectors plan image written tagged groups moments =
    HasFilledNow (growth_of sectors plan image) written tagged groups (read_tags plan) moments

-- A call leaves so many zeros and tags where there were so many,
abbrev pub FillsBlocks : (sectors : ℕ) → Plan → (written tagged written_then tagged_then : ℕ)
    → (before after : List Content) → Type 0
FillsBlocks sectors plan written tagged written_then tagged_then before after = (image : Image) (groups : ℕ)
    → HasFilledOn sectors plan image written tagged groups before
    → HasFilledOn sectors plan image written_then tagged_then groups after

-- and the disk stands for the same at each of its moments, whether it fails or not.
abbrev pub StandsFilling : (sectors : ℕ) → Plan → (written tagged : ℕ) → (before after : List Content) → Type 0
StandsFilling sectors plan written tagged before after = (image : Image) (groups : ℕ)
    → HasFilledOn sectors plan image written tagged groups before
    → StandsThrough (growth_of sectors plan image) before after
