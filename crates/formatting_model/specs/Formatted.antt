-- A new image, and what a formatting leaves at each moment.
-- Own: the order of the writes.
use Rattle.std.specs.Prelude.{◌≡◌, ◌⊎◌, ℕ, ◌≤◌, ◌<◌, Ok, Err, Option, List}
use Rattle.disk_model.specs.Disk.{Content, Image, IsImage, EachImage, HasNothingPending, last_image}
use Rattle.disk_model.specs.Moments.{HasNow}
use Rattle.hmac_tag.specs.TagMaker.{TagRule}
use Rattle.image_model.specs.declared.super_fields.SuperFault.TheVariants.{Magic}
use Rattle.image_model.specs.Geometry.{Geometry, initial, layout_of}
use Rattle.image_model.specs.Openable.{first_sector}
use Rattle.image_model.specs.Superblock.{superblock_of}
use Rattle.image_format.specs.declared.reading.ImageFormat.{ImageFormat}
use Rattle.formatting_model.specs.declared.new_image.NewImage.{NewImage}
use Rattle.image_model.specs.declared.new_image.Wipe.{Wipe}
use Rattle.image_model.specs.declared.new_image.Wipe.TheVariants.{Wiped, Kept, Recalculated}
use Rattle.formatting_model.specs.Blocks.{HasZeroBlocks, IsSectorOf}
use Rattle.formatting_model.specs.FirstSector.{HasZeroHead, head_of}
use Rattle.formatting_model.specs.Journal.{HasJournalPlace}
use Rattle.formatting_model.specs.NewImage.{fields_of, provided_of}
use Rattle.formatting_model.specs.Order.{HasFirstSync, IsInOrder, IsUnsettled}
use Rattle.formatting_model.specs.Runs.{HasZeros}
use Rattle.formatting_model.specs.Stays.{IsBlockByte, KeepsBytes}

-- ---- the image

-- What the blocks have: zeros with their tags, or anything.
abbrev pub HasBlocks : Wipe → TagRule → Geometry → Image → Type 0
HasBlocks Wiped rule g image = HasZeroBlocks rule g 0 g.blocks image
HasBlocks Kept rule g image = Unit {0}
HasBlocks Recalculated rule g image = Unit {0}

-- The sector is written for the blocks.
abbrev pub IsBlocksSector : Wipe → Geometry → ℕ → Type 0
IsBlocksSector Wiped g sector = IsSectorOf g 0 g.blocks sector
IsBlocksSector Kept g sector = ⊥
IsBlocksSector Recalculated g sector = ⊥

-- It is one of the superblock's or the journal's, or is written for the blocks.
abbrev pub IsOfImage : Wipe → Geometry → ℕ → Type 0
IsOfImage wipe g sector = (sector < initial g) ⊎ IsBlocksSector wipe g sector

-- The byte of the sector is written for the blocks.
abbrev pub IsBlocksByte : Wipe → Geometry → (sector byte : ℕ) → Type 0
IsBlocksByte Wiped g sector byte = IsBlockByte g 0 g.blocks sector byte
IsBlocksByte Kept g sector byte = ⊥
IsBlocksByte Recalculated g sector byte = ⊥

-- Its sector is one of the superblock's or the journal's, or it is written for the blocks.
abbrev pub IsImageByte : Wipe → Geometry → (sector byte : ℕ) → Type 0
IsImageByte wipe g sector byte = (sector < initial g) ⊎ IsBlocksByte wipe g sector byte

-- The sector is one of the image's, and not the first.
abbrev pub IsFillSector : Wipe → Geometry → ℕ → Type 0
IsFillSector wipe g sector = (1 ≤ sector) × IsOfImage wipe g sector

-- The image has all but the fields: zeros behind their sector, an empty journal or a bitmap, and its blocks.
pub record HasFilled (wipe : Wipe) (rule : TagRule) (format : ImageFormat) (image : Image) : Type 0 where
  pub zeros : HasZeros 1 7 image
  pub journal : HasJournalPlace format image
  pub blocks : HasBlocks wipe rule format.geometry image

-- A new image in this format: its fields, which are what it tells, and all else. Each
-- sector that is not of it is as it was, and so is each byte that no tag takes in a sector of tags.
pub record IsFormatted (wipe : Wipe) (rule : TagRule) (format : ImageFormat)
    (before image : Image) : Type 0 where
  pub head : image 0 ≡ head_of format.fields
  pub told : superblock_of (image 0) ≡ Ok format.fields
  pub filled : HasFilled wipe rule format image
  pub others : (sector : ℕ) → (IsOfImage wipe format.geometry sector → ⊥) → image sector ≡ before sector
  pub bytes : KeepsBytes (IsImageByte wipe format.geometry) before image

-- ---- while it is written

-- Once the first sector is settled, a cut leaves an image whose first sector is zero, or the new one.
abbrev pub IsAmidWriting : Wipe → TagRule → ImageFormat → (start later : Content) → Type 0
IsAmidWriting wipe rule format start = EachImage
    (λ image. HasZeroHead image ⊎ IsFormatted wipe rule format (last_image start) image)

-- Zeros are settled in the first sector before all else is written.
abbrev pub IsWrittenInOrder : Wipe → TagRule → ImageFormat → (before after : List Content) → Type 0
IsWrittenInOrder wipe rule format = IsInOrder (IsUnsettled HasZeroHead) (IsAmidWriting wipe rule format)

abbrev pub IsWrittenBehindSync : Wipe → TagRule → ImageFormat → (before after : List Content) → Type 0
IsWrittenBehindSync wipe rule format = HasFirstSync (IsUnsettled HasZeroHead) (IsAmidWriting wipe rule format)

-- All is written, and nothing is pending.
pub record IsNewContent (wipe : Wipe) (rule : TagRule) (format : ImageFormat)
    (start content : Content) : Type 0 where
  pub settled : HasNothingPending content
  pub image_ : IsFormatted wipe rule format (last_image start) (last_image content)

abbrev pub IsWritten : Wipe → TagRule → ImageFormat → (before after : List Content) → Type 0
IsWritten wipe rule format before after =
    HasNow (λ start. HasNow (IsNewContent wipe rule format start) after) before

-- ---- the whole call

-- The format of the new image, where it provides so many sectors.
abbrev pub format_with : NewImage → (provided : ℕ) → ImageFormat
format_with new provided = record {
  fields = fields_of new provided;
  geometry = layout_of (fields_of new provided);
}

-- What decides its tags.
abbrev pub rule_with : Option (List ℕ) → NewImage → TagRule
rule_with key new = record { key = key; salt = new.salt; size = new.tag_size }

-- So many sectors are what the image is to provide, and the disk has it, with nothing pending.
pub record HasMade (key : Option (List ℕ)) (sectors : ℕ) (new : NewImage) (provided : ℕ)
    (before after : List Content) : Type 0 where
  pub is_provided : provided_of new sectors ≡ Ok provided
  pub is_written : IsWritten new.wipe (rule_with key new) (format_with new provided) before after

-- The first sector of an image has no magic.
abbrev pub HasNoMagic : ℕ → Image → Type 0
HasNoMagic sectors image = superblock_of (first_sector sectors image) ≡ Err Magic

-- The image is the whole new one.
pub record IsNewOf (key : Option (List ℕ)) (sectors : ℕ) (new : NewImage)
    (before image : Image) : Type 0 where
  pub provided : ℕ
  pub is_provided : provided_of new sectors ≡ Ok provided
  pub formatted : IsFormatted new.wipe (rule_with key new) (format_with new provided) before image

-- Until the first sync has succeeded, a cut leaves an image that was there at the start, or one without a magic.
abbrev pub IsLeftUnsynced : (sectors : ℕ) → (start later : Content) → Type 0
IsLeftUnsynced sectors = IsUnsettled (HasNoMagic sectors)

-- From then on, it leaves one without a magic, or the whole new one.
abbrev pub IsLeftSynced : Option (List ℕ) → (sectors : ℕ) → NewImage → (start later : Content) → Type 0
IsLeftSynced key sectors new start = EachImage
    (λ image. HasNoMagic sectors image ⊎ IsNewOf key sectors new (last_image start) image)

-- The first sync of the formatting has succeeded, behind zeros in the first sector and before all else.
abbrev pub HasSynced : Option (List ℕ) → (sectors : ℕ) → NewImage → (before after : List Content) → Type 0
HasSynced key sectors new = HasFirstSync (IsLeftUnsynced sectors) (IsLeftSynced key sectors new)

-- It has, where the disk tells its content.
abbrev pub SyncsNew : Option (List ℕ) → (sectors : ℕ) → NewImage → (before after : List Content) → Type 0
SyncsNew key sectors new before after = HasNow (λ start. HasSynced key sectors new before after) before

-- It has, or the formatting has not come beyond those zeros.
abbrev pub IsLeftInOrder : Option (List ℕ) → (sectors : ℕ) → NewImage → (before after : List Content) → Type 0
IsLeftInOrder key sectors new = IsInOrder (IsLeftUnsynced sectors) (IsLeftSynced key sectors new)

-- What one or the other leaves: an image that was there at the start, or one without a magic, or the whole new one.
abbrev pub IsLeftByFormat : Option (List ℕ) → (sectors : ℕ) → NewImage → (start later : Content) → Type 0
IsLeftByFormat key sectors new start = EachImage (λ image. IsImage start image
    ⊎ (HasNoMagic sectors image ⊎ IsNewOf key sectors new (last_image start) image))
