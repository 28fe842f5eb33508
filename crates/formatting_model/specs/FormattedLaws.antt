-- A new image can be opened, and its blocks have the cells that it was made with.
use Rattle.std.specs.Prelude.{◌≡◌, ◌≢◌, ℕ, ◌*◌, ◌<◌, nat_lt, true, false, Ok, Option, List}
use Rattle.disk_model.specs.Disk.{Image}
use Rattle.image_model.specs.Bitmap.{awaits, is_dirty, region_awaits}
use Rattle.image_model.specs.Cells.{Cell, placed_cells_of}
use Rattle.image_model.specs.Geometry.{Geometry, regions}
use Rattle.image_model.specs.Sectors.{zero_bytes}
use Rattle.image_format.specs.Format.{disk_format}
use Rattle.place_model.specs.Format.{DiskFormat, HasCells, HasPlaced, HasWholeSectors, OpensAs, tagger_of}
use Rattle.place_model.specs.Journal.{HasNothingToReplay}
use Rattle.place_model.specs.Kind.{CanOpenIn, CanOpenPlaced}
use Rattle.device_model.specs.Mode.{Bitmap as InBitmap}
use Rattle.image_model.specs.declared.new_image.ImageMode.TheVariants.{Journal, Bitmap}
use Rattle.formatting_model.specs.declared.new_image.NewImage.{NewImage}
use Rattle.image_model.specs.declared.new_image.Wipe.{Wipe}
use Rattle.image_model.specs.declared.new_image.Wipe.TheVariants.{Wiped, Kept, Recalculated}
use Rattle.formatting_model.specs.Formatted.{IsFormatted, format_with, rule_with}
use Rattle.formatting_model.specs.NewImage.{IsNewImage, provided_of}

-- The disk's format under a key, where a new image provides so many sectors.
abbrev pub new_format : Option (List ℕ) → (sectors : ℕ) → NewImage → (provided : ℕ) → DiskFormat
new_format key sectors new provided = disk_format key sectors (format_with new provided)

-- A block of zeros with its tag.
abbrev pub zero_cell : DiskFormat → ℕ → Cell
zero_cell d b = record {
  bytes = zero_bytes (512 * d.geometry.shape.spb);
  tag = tagger_of d b (zero_bytes (512 * d.geometry.shape.spb));
}

-- The bitmap has the bit of each region set where tags are to be recalculated, and else none; no other bit is set.
abbrev pub HasBitsFor : Wipe → Geometry → Image → Type 0
HasBitsFor Wiped g image = (region : ℕ) → is_dirty g image region ≡ false
HasBitsFor Kept g image = (region : ℕ) → is_dirty g image region ≡ false
HasBitsFor Recalculated g image = (region : ℕ) → is_dirty g image region ≡ nat_lt region (regions g)

-- A block as it is placed, with the tag of its bytes.
abbrev pub retagged_cell : DiskFormat → Image → ℕ → Cell
retagged_cell d image b = record {
  bytes = (placed_cells_of d.geometry image b).bytes;
  tag = tagger_of d b (placed_cells_of d.geometry image b).bytes;
}

-- The image is a new one, on a disk that has room for it, and its sectors are whole.
pub record IsNewOn (key : Option (List ℕ)) (sectors : ℕ) (new : NewImage) (provided : ℕ)
    (before image : Image) : Type 0 where
  pub ranges : IsNewImage new
  pub is_provided : provided_of new sectors ≡ Ok provided
  pub formatted : IsFormatted new.wipe (rule_with key new) (format_with new provided) before image
  pub whole : HasWholeSectors (new_format key sectors new provided) image

-- One for journal mode can be opened under its key, direct mode does, and nothing is replayed;
abbrev pub NewOpensLaw : Type 0
NewOpensLaw = (key : Option (List ℕ)) (sectors : ℕ) (new : NewImage) (provided : ℕ) (before image : Image)
    → IsNewOn key sectors new provided before image → new.mode ≡ Journal
    → OpensAs (new_format key sectors new provided) image × CanOpenPlaced key sectors image
    × HasNothingToReplay (new_format key sectors new provided).geometry image

-- one for bitmap mode can be opened in that, with no bit set, or that of each region;
abbrev pub NewBitmapLaw : Type 0
NewBitmapLaw = (key : Option (List ℕ)) (sectors : ℕ) (new : NewImage) (provided : ℕ) (before image : Image)
    → IsNewOn key sectors new provided before image → new.mode ≡ Bitmap
    → OpensAs (new_format key sectors new provided) image × CanOpenIn InBitmap key sectors image
    × HasBitsFor new.wipe (new_format key sectors new provided).geometry image

-- where it was wiped, each block has zeros with their tag;
abbrev pub NewCellsLaw : Type 0
NewCellsLaw = (key : Option (List ℕ)) (sectors : ℕ) (new : NewImage) (provided : ℕ) (before image : Image)
    → IsNewOn key sectors new provided before image → new.wipe ≡ Wiped
    → let d = new_format key sectors new provided in
    HasCells d (zero_cell d) image × HasPlaced d (zero_cell d) image

-- where it was not, data and tags stand in their places as before;
abbrev pub NewKeptLaw : Type 0
NewKeptLaw = (key : Option (List ℕ)) (sectors : ℕ) (new : NewImage) (provided : ℕ) (before image : Image)
    → IsNewOn key sectors new provided before image → new.wipe ≢ Wiped
    → let g = (new_format key sectors new provided).geometry in
    (b : ℕ) → b < g.blocks → placed_cells_of g image b ≡ placed_cells_of g before b

-- and where tags are to be recalculated, each block awaits, and each region, and a block has the bytes that stood in
-- its place before, with their tag.
abbrev pub NewAwaitsLaw : Type 0
NewAwaitsLaw = (key : Option (List ℕ)) (sectors : ℕ) (new : NewImage) (provided : ℕ) (before image : Image)
    → IsNewOn key sectors new provided before image → new.wipe ≡ Recalculated
    → let d = new_format key sectors new provided in
    ((b : ℕ) → b < d.geometry.blocks → awaits d.superblock d.geometry image b ≡ true)
    × ((region : ℕ) → region < regions d.geometry → region_awaits d.superblock d.geometry image region ≡ true)
    × HasCells d (retagged_cell d before) image
