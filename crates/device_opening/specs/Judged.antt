-- What is known of an image that was judged, before anything is done to it.
use Rattle.std.specs.Prelude.{◌≡◌, ℕ, Ok, Option, List}
use Rattle.disk_model.specs.Disk.{Content, last_image}
use Rattle.disk_model.specs.Moments.{HasNow}
use Rattle.image_model.specs.Cells.{salt_of}
use Rattle.place_model.specs.Format.{DiskFormat, OpensAs}
use Rattle.hmac_tag.specs.TagMaker.{TagRule}
use Rattle.image_format.specs.declared.reading.ImageFormat.{ImageFormat}
use Rattle.image_format.specs.Format.{IsBitmapFormat, IsDirectFormat, IsReadNow, disk_format, format_of}
use Rattle.journal_reading.specs.Journal.{FitsJournal, IsJournalOn}
use Rattle.device_opening.specs.declared.judging.JudgedImage.{JudgedImage}

-- The image that reads give, on a disk of so many sectors, has this format, with a journal,
pub record HasJournalFormat (sectors : ℕ) (format : ImageFormat) (moments : List Content) : Type 0 where
  pub format_ : IsDirectFormat sectors format
  pub reads : (key : Option (List ℕ)) → HasNow (IsReadNow key sectors format) moments
  pub told : HasNow (λ c. Ok format ≡ format_of sectors (last_image c)) moments

-- or with a bitmap.
pub record HasBitmapFormat (sectors : ℕ) (format : ImageFormat) (moments : List Content) : Type 0 where
  pub format_ : IsBitmapFormat sectors format
  pub reads : (key : Option (List ℕ)) → HasNow (IsReadNow key sectors format) moments
  pub told : HasNow (λ c. Ok format ≡ format_of sectors (last_image c)) moments

-- The rule of the tags by what was read of an image, under a key.
abbrev pub rule_of : Option (List ℕ) → ImageFormat → TagRule
rule_of key format = record {
  key = key;
  salt = salt_of format.fields;
  size = format.geometry.shape.tag_size;
}

-- The format of a disk of so many sectors whose image was judged.
abbrev pub judged_format : (sectors : ℕ) → JudgedImage → DiskFormat
judged_format sectors image = disk_format image.maker.key sectors image.format

-- The image that reads give has the format that was read, it can be opened, and this is kept of its journal.
pub record IsJudgedNow (sectors : ℕ) (image : JudgedImage) (c : Content) : Type 0 where
  pub read : IsReadNow image.maker.key sectors image.format c
  pub opens : OpensAs (judged_format sectors image) (last_image c)
  pub journal : IsJournalOn image.format.geometry (last_image c) image.journal

-- It is so of a disk of so many sectors. Tags are made by the rule of the image, and what is kept of the journal is of
-- its layout, whatever the disk tells.
pub record HasJudged (sectors : ℕ) (image : JudgedImage) (moments : List Content) : Type 0 where
  pub format : IsDirectFormat sectors image.format
  pub maker : image.maker ≡ rule_of image.maker.key image.format
  pub fits : FitsJournal image.format.geometry image.journal
  pub now : HasNow (IsJudgedNow sectors image) moments
