-- The cells of whole blocks, the writes of such, and what reads give of them.
-- Own: a block that is to be recalculated is read with the tag of its bytes.
use Rattle.std.specs.Prelude.{◌≡◌, ℕ, ◌+◌, ◌*◌, ◌<◌, true, false, List, length}
use Rattle.disk_model.specs.Disk.{Content, sector_in, last_image}
use Rattle.image_model.specs.Bitmap.{is_to_recalculate}
use Rattle.image_model.specs.Cells.{Cell}
use Rattle.image_model.specs.Geometry.{Geometry, data_at}
use Rattle.device_model.specs.History.{BlockWrite}
use Rattle.place_model.specs.Format.{DiskFormat, tagger_of}

-- Cells of whole blocks with whole tags, where each block that is to be recalculated has the tag of its bytes.
pub record AreCells (d : DiskFormat) (cells : ℕ → Cell) : Type 0 where
  pub bytes : (b : ℕ) → b < d.geometry.blocks → length (cells b).bytes ≡ 512 * d.geometry.shape.spb
  pub tag : (b : ℕ) → b < d.geometry.blocks → length (cells b).tag ≡ d.geometry.shape.tag_size
  pub recalculated : (b : ℕ) → b < d.geometry.blocks → is_to_recalculate d.superblock d.geometry b ≡ true
      → (cells b).tag ≡ tagger_of d b (cells b).bytes

-- A write of a whole block of the device.
pub record IsBlockWrite (g : Geometry) (write : BlockWrite) : Type 0 where
  pub block : write.block < g.blocks
  pub bytes : length write.bytes ≡ 512 * g.shape.spb

-- What reads give of the data is the bytes of these cells.
pub record ReadsData (g : Geometry) (cells : ℕ → Cell) (c : Content) : Type 0 where
  pub each : (b k : ℕ) → b < g.blocks → k < g.shape.spb
      → last_image c (data_at g b + k) ≡ sector_in (cells b).bytes k

-- What reads give of a block's data and the tag that is told are a cell's, but for a tag that is to be recalculated.
pub record GivesCell (d : DiskFormat) (b : ℕ) (tag : List ℕ) (c : Content) (cell : Cell) : Type 0 where
  pub data_ : (k : ℕ) → k < d.geometry.shape.spb
      → last_image c (data_at d.geometry b + k) ≡ sector_in cell.bytes k
  pub tag_ : is_to_recalculate d.superblock d.geometry b ≡ false → tag ≡ cell.tag
