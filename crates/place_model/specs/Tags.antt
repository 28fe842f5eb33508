-- The tags of blocks in their places: what may be written there, and what reads of them give.
use Rattle.std.specs.Prelude.{◌≡◌, ◌≢◌, ◌⊎◌, ℕ, ◌+◌, ◌/◌, ◌%◌, ◌<◌, ◌==◌, if◌then◌else◌, List, length, slice_index}
use Rattle.disk_model.specs.Disk.{Content, last_image, IsOfRun}
use Rattle.image_model.specs.declared.byte_place.BytePlace.{BytePlace}
use Rattle.image_model.specs.Cells.{Cell}
use Rattle.image_model.specs.Geometry.{Geometry, data_at, tag_at, byte_place}

-- The byte of the disk that is byte i of the tag of block b: a tag may straddle two sectors.
-- Source: Linux, drivers/md/dm-integrity.c, get_metadata_sector_and_offset and dm_integrity_rw_tag.
unfoldable pub tag_byte_at : Geometry → ℕ → ℕ → BytePlace
tag_byte_at g b i = byte_place ((tag_at g b).sector + ((tag_at g b).byte + i) / 512) (((tag_at g b).byte + i) % 512)

-- A byte of the tag of some block stands in the sector.
pub record HoldsTag (g : Geometry) (sector : ℕ) : Type 0 where
  pub block : ℕ
  pub byte : ℕ
  pub block_low : block < g.blocks
  pub byte_low : byte < g.shape.tag_size
  pub is : sector ≡ (tag_byte_at g block byte).sector

-- The tags with a new one of a block.
abbrev pub with_block_tag : ℕ → List ℕ → (ℕ → List ℕ) → ℕ → List ℕ
with_block_tag block tag tags b = if block == b then tag else tags b

-- The bytes may be written to a sector of tags while tags change: each byte of a tag in it is an old or a new one, and
-- there is one.
-- Own: a sector of tags may be written at any time.
pub record IsOfTags (g : Geometry) (old new : ℕ → List ℕ) (sector : ℕ) (x : List ℕ) : Type 0 where
  pub whole : length x ≡ 512
  pub block : ℕ
  pub byte : ℕ
  pub block_low : block < g.blocks
  pub byte_low : byte < g.shape.tag_size
  pub is : sector ≡ (tag_byte_at g block byte).sector
  pub each : (b i : ℕ) → b < g.blocks → i < g.shape.tag_size → sector ≡ (tag_byte_at g b i).sector
      → (slice_index x (tag_byte_at g b i).byte ≡ slice_index (old b) i)
      ⊎ (slice_index x (tag_byte_at g b i).byte ≡ slice_index (new b) i)

-- The bytes may be written while a block gets a new cell: its data, and sectors of tags without and with its tag.
abbrev pub IsOfCell : Geometry → ℕ → Cell → (ℕ → List ℕ) → ℕ → List ℕ → Type 0
IsOfCell g b cell tags sector x =
    IsOfRun (data_at g b) cell.bytes sector x ⊎ IsOfTags g tags (with_block_tag b cell.tag tags) sector x

-- What reads give of the tags is these.
pub record ReadsTags (g : Geometry) (tags : ℕ → List ℕ) (c : Content) : Type 0 where
  pub each : (b i : ℕ) → b < g.blocks → i < g.shape.tag_size
      → slice_index (last_image c (tag_byte_at g b i).sector) (tag_byte_at g b i).byte ≡ slice_index (tags b) i

-- Of each sector that holds no byte of a tag reads give what they gave.
pub record KeepsOthers (g : Geometry) (old new : Content) : Type 0 where
  pub each : (sector : ℕ) → ((b i : ℕ) → b < g.blocks → i < g.shape.tag_size → sector ≢ (tag_byte_at g b i).sector)
      → last_image new sector ≡ last_image old sector
