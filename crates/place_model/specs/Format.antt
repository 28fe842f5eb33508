-- A disk as a device opens it, the tags of its blocks, and the cells of its images.
use Rattle.std.specs.Prelude.{◌≡◌, ℕ, ◌*◌, ◌<◌, Option, Ok, List, length}
use Rattle.disk_model.specs.Disk.{Image}
use Rattle.image_model.specs.Cells.{Cell, salt_of, block_tag, recalculated_cell, cells_of}
use Rattle.image_model.specs.Geometry.{Geometry, layout_of, geometry_of}
use Rattle.image_model.specs.Openable.{IsReadable, IsOpenable, first_sector}
use Rattle.image_model.specs.Superblock.{Superblock, fields_in, superblock_of}
use Rattle.device_model.specs.History.{Tagger}

-- The key of the tags, if there is one, the sectors of the disk, and what its superblock says.
pub record DiskFormat : Type 0 where
  pub key : Option (List ℕ)
  pub sectors : ℕ
  pub superblock : Superblock
  pub geometry : Geometry

-- The tag of a block's bytes, by the block's number.
-- Source: Linux, drivers/md/dm-integrity.c, integrity_sector_checksum.
abbrev pub tagger_of : DiskFormat → Tagger
tagger_of d b bytes = block_tag d.key (salt_of d.superblock) d.geometry (b * d.geometry.shape.spb) bytes

-- The cells of an image of the disk.
abbrev pub cells_on : DiskFormat → Image → ℕ → Cell
cells_on d image = cells_of d.key d.superblock d.geometry image

-- Its placed cells: what stands in each block's place, with the tag of its bytes where the block awaits that, whatever the
-- journal says.
abbrev pub placed_on : DiskFormat → Image → ℕ → Cell
placed_on d image = recalculated_cell d.key d.superblock d.geometry image

-- What the first sector of an image says of the disk, under a key. Of an image that is not readable it says nothing.
abbrev pub format_on : Option (List ℕ) → (sectors : ℕ) → Image → DiskFormat
format_on key sectors image = record {
  key = key;
  sectors = sectors;
  superblock = fields_in (first_sector sectors image);
  geometry = layout_of (fields_in (first_sector sectors image));
}

-- Each sector of the disk has 512 bytes in the image.
abbrev pub HasWholeSectors : DiskFormat → Image → Type 0
HasWholeSectors d image = (sector : ℕ) → sector < d.sectors → length (image sector) ≡ 512

-- The image can be read, in this format: it tells the superblock and the geometry.
pub record IsReadAs (d : DiskFormat) (image : Image) : Type 0 where
  pub readable : IsReadable d.sectors image
  pub superblock : readable.superblock ≡ d.superblock
  pub geometry : readable.geometry ≡ d.geometry

-- It can, and these are its placed cells.
pub record HasPlaced (d : DiskFormat) (cells : ℕ → Cell) (image : Image) : Type 0 where
  pub reads : IsReadAs d image
  pub each : (b : ℕ) → b < d.geometry.blocks → placed_on d image b ≡ cells b

-- The image can be opened, in this format.
pub record OpensAs (d : DiskFormat) (image : Image) : Type 0 where
  pub openable : IsOpenable d.key d.sectors image
  pub superblock : openable.readable.superblock ≡ d.superblock
  pub geometry : openable.readable.geometry ≡ d.geometry

-- It can, and its blocks have these cells.
pub record HasCells (d : DiskFormat) (cells : ℕ → Cell) (image : Image) : Type 0 where
  pub opens : OpensAs d image
  pub each : (b : ℕ) → b < d.geometry.blocks → cells_on d image b ≡ cells b

-- ---- laws

-- An image whose first sector tells a superblock that is accepted, with its geometry, can be read in this format, which is
-- its own.
abbrev pub ReadFormatLaw : Type 0
ReadFormatLaw = (d : DiskFormat) (image : Image) → superblock_of (first_sector d.sectors image) ≡ Ok d.superblock
    → geometry_of d.superblock d.sectors ≡ Ok d.geometry
    → IsReadAs d image × (format_on d.key d.sectors image ≡ d)
