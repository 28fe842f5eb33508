-- Blocks of zeros with their tags.
-- Source: Linux, drivers/md/dm-integrity.c, integrity_sector_checksum and get_metadata_sector_and_offset.
use Rattle.std.specs.Prelude.{◌≡◌, ◌⊎◌, ℕ, ◌+◌, ◌*◌, ◌/◌, ◌%◌, ◌<◌, ◌≤◌, List, slice_index}
use Rattle.disk_model.specs.Disk.{Image}
use Rattle.hmac_tag.specs.TagMaker.{TagRule}
use Rattle.image_model.specs.Geometry.{Geometry, data_at}
use Rattle.image_model.specs.Sectors.{zero_bytes}
use Rattle.image_model.specs.Tag.{tag_of}
use Rattle.place_model.specs.Tags.{tag_byte_at}
use Rattle.formatting_model.specs.FirstSector.{zero_sector}

-- The tag of a block of zeros.
abbrev pub zero_tag : TagRule → (spb block : ℕ) → List ℕ
zero_tag rule spb block = tag_of rule.key rule.salt rule.size (block * spb) (zero_bytes (512 * spb))

-- Byte p of the tags of the blocks from `first` on, one behind the other.
abbrev pub byte_of_tags : TagRule → (spb first p : ℕ) → ℕ
byte_of_tags rule spb first p = slice_index (zero_tag rule spb (first + p / rule.size)) (p % rule.size)

-- The first bytes are those of the tags.
abbrev pub HoldsTags : TagRule → (spb first size : ℕ) → List ℕ → Type 0
HoldsTags rule spb first size bytes = (p : ℕ) → p < size → slice_index bytes p ≡ byte_of_tags rule spb first p

-- The image has the tags of `count` blocks of zeros in the sectors from `at` on.
pub record HasTagRun (rule : TagRule) (spb first count at : ℕ) (image : Image) : Type 0 where
  pub each : (p : ℕ) → p < count * rule.size
      → slice_index (image (at + p / 512)) (p % 512) ≡ byte_of_tags rule spb first p

-- The block is one of `count` from `first` on.
pub record IsBlockOf (first count block : ℕ) : Type 0 where
  pub begins : first ≤ block
  pub ends : block < first + count

-- The image has zeros and their tags in these blocks.
pub record HasZeroBlocks (rule : TagRule) (g : Geometry) (first count : ℕ) (image : Image) : Type 0 where
  pub zeros : (b k : ℕ) → IsBlockOf first count b → k < g.shape.spb → image (data_at g b + k) ≡ zero_sector
  pub tags : (b i : ℕ) → IsBlockOf first count b → i < g.shape.tag_size
      → slice_index (image (tag_byte_at g b i).sector) (tag_byte_at g b i).byte
      ≡ slice_index (zero_tag rule g.shape.spb b) i

-- The sector holds data of one of these blocks, or a byte of its tag.
pub record IsSectorOf (g : Geometry) (first count sector : ℕ) : Type 0 where
  pub block : ℕ
  pub is_block : IsBlockOf first count block
  pub at : ((k : ℕ) × (k < g.shape.spb) × (sector ≡ data_at g block + k))
      ⊎ ((i : ℕ) × (i < g.shape.tag_size) × (sector ≡ (tag_byte_at g block i).sector))

-- The blocks are the first ones of an area.
pub record IsAreaRun (g : Geometry) (first count : ℕ) : Type 0 where
  pub begins : first % (g.interleave / g.shape.spb) ≡ 0
  pub some : 1 ≤ count
  pub ends : count ≤ g.interleave / g.shape.spb
  pub inside : first + count ≤ g.blocks
