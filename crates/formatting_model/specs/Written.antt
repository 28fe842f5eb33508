-- What a formatting writes, sector by sector, at each moment.
-- Own: no sector is written that the new image does not have, and in one of tags each byte that no tag takes stays.
use Rattle.std.specs.Prelude.{◌≡◌, ◌⊎◌, ℕ, ◌+◌, ◌<◌, Ok, List, slice_index}
use Rattle.disk_model.specs.Disk.{Content, OnlyAdds, last_image}
use Rattle.disk_model.specs.Moments.{EachSince}
use Rattle.image_model.specs.Geometry.{Geometry, data_at, journal_sectors, quotient_up}
use Rattle.image_format.specs.declared.reading.ImageFormat.{ImageFormat}
use Rattle.image_model.specs.Entries.{IsWithin}
use Rattle.place_model.specs.Tags.{tag_byte_at}
use Rattle.formatting_model.specs.declared.new_image.NewImage.{NewImage}
use Rattle.image_model.specs.declared.new_image.Wipe.{Wipe}
use Rattle.image_model.specs.declared.new_image.Wipe.TheVariants.{Wiped, Kept, Recalculated}
use Rattle.formatting_model.specs.Blocks.{IsBlockOf}
use Rattle.formatting_model.specs.FirstSector.{head_of, zero_sector}
use Rattle.formatting_model.specs.Formatted.{format_with}
use Rattle.formatting_model.specs.NewImage.{provided_of}
use Rattle.formatting_model.specs.Stays.{IsBlockByte, IsRunByte}

-- Each candidate that came since the start is one that W allows at its sector, by the content at the start.
abbrev pub OnlyWrites : (W : Content → ℕ → List ℕ → Type 0) → (before after : List Content) → Type 0
OnlyWrites W = EachSince (λ start. OnlyAdds (W start) start)

-- ---- a sector with its bytes

-- Zeros, in one of so many sectors from sector `at` on.
abbrev pub IsZeroWithin : (at count sector : ℕ) → (x : List ℕ) → Type 0
IsZeroWithin at count sector x = IsWithin at count sector × (x ≡ zero_sector)

-- Each byte but these is what reads gave at the start.
abbrev pub KeepsRest : (ℕ → ℕ → Type 0) → (start : Content) → (sector : ℕ) → (x : List ℕ) → Type 0
KeepsRest B start sector x = (byte : ℕ) → byte < 512 → (B sector byte → ⊥)
    → slice_index x byte ≡ slice_index (last_image start sector) byte

-- One of the sectors of so many bytes of tags from sector `at` on. What stands behind them in the last one stays.
pub record IsOfTagRun (at size : ℕ) (start : Content) (sector : ℕ) (x : List ℕ) : Type 0 where
  pub within : IsWithin at (quotient_up size 512) sector
  pub rest : KeepsRest (IsRunByte at size) start sector x

-- Zeros, in a sector of the data of one of these blocks.
pub record IsOfData (g : Geometry) (first count sector : ℕ) (x : List ℕ) : Type 0 where
  pub block : ℕ
  pub is_block : IsBlockOf first count block
  pub k : ℕ
  pub low : k < g.shape.spb
  pub at : sector ≡ data_at g block + k
  pub zeros : x ≡ zero_sector

-- A sector of the tags of these blocks. Each byte that none of them takes stays.
pub record IsOfTags (g : Geometry) (first count : ℕ) (start : Content) (sector : ℕ) (x : List ℕ) : Type 0 where
  pub block : ℕ
  pub is_block : IsBlockOf first count block
  pub i : ℕ
  pub low : i < g.shape.tag_size
  pub at : sector ≡ (tag_byte_at g block i).sector
  pub rest : KeepsRest (IsBlockByte g first count) start sector x

-- What is written for these blocks.
abbrev pub IsOfBlocks : Geometry → (first count : ℕ) → (start : Content) → (sector : ℕ) → (x : List ℕ) → Type 0
IsOfBlocks g first count start sector x = IsOfData g first count sector x ⊎ IsOfTags g first count start sector x

-- What is written for all blocks: nothing, where data and tags are to stay as they stand.
abbrev pub IsOfWipe : Wipe → Geometry → (start : Content) → (sector : ℕ) → (x : List ℕ) → Type 0
IsOfWipe Wiped g start sector x = IsOfBlocks g 0 g.blocks start sector x
IsOfWipe Kept g start sector x = ⊥
IsOfWipe Recalculated g start sector x = ⊥

-- ---- the image

-- What is written for an image in this format: zeros or the fields to the first sector, zeros to the others of the
-- superblock, and what comes to the journal and to the blocks.
pub data IsOfFormat (wipe : Wipe) (format : ImageFormat) (start : Content) (sector : ℕ) (x : List ℕ) : Type 0 where
  Zeros : IsZeroWithin 0 8 sector x → IsOfFormat wipe format start sector x
  Fields : sector ≡ 0 → x ≡ head_of format.fields → IsOfFormat wipe format start sector x
  Journal : IsWithin 8 (journal_sectors format.geometry) sector → IsOfFormat wipe format start sector x
  Blocks : IsOfWipe wipe format.geometry start sector x → IsOfFormat wipe format start sector x

-- The new image has the sector, and this is what is written for it, on a disk of so many sectors.
pub record IsOfNewImage (sectors : ℕ) (new : NewImage) (start : Content) (sector : ℕ) (x : List ℕ) : Type 0 where
  pub provided : ℕ
  pub is_provided : provided_of new sectors ≡ Ok provided
  pub written : IsOfFormat new.wipe (format_with new provided) start sector x

-- Nothing else is ever written, nor after a call that failed.
abbrev pub OnlyWritesNew : (sectors : ℕ) → NewImage → (before after : List Content) → Type 0
OnlyWritesNew sectors new = OnlyWrites (IsOfNewImage sectors new)
