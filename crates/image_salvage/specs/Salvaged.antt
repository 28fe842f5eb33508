-- What is kept of an image that is salvaged, and when it is right of a disk.
use Rattle.std.specs.Prelude.{◌≡◌, ℕ, ◌*◌, ◌≤◌, List}
use Rattle.disk_model.specs.Disk.{Content, Image, last_image}
use Rattle.disk_model.specs.Identity.{DiskIdentity, IsBound}
use Rattle.disk_model.specs.Moments.{HasNow}
use Rattle.image_model.specs.Cells.{salt_of}
use Rattle.image_format.specs.declared.reading.ImageFormat.{ImageFormat}
use Rattle.image_format.specs.Format.{IsFormat, disk_format}
use Rattle.hmac_tag.specs.TagMaker.{TagRule}
use Rattle.place_model.specs.Format.{DiskFormat, format_on}
use Rattle.sector_window.specs.Window.{HasRoom, Window}

-- Its format, the rule of its tags, how many of its blocks were told, and what was read last of tags and blocks.
pub record Salvaged : Type 0 where
  pub format : ImageFormat
  pub rule : TagRule
  pub told : ℕ
  pub tags : Window
  pub blocks : Window

-- How many blocks it has,
abbrev pub blocks_of : Salvaged → ℕ
blocks_of image = image.format.geometry.blocks

-- and how many bytes each of them has.
abbrev pub block_size : Salvaged → ℕ
block_size image = 512 * image.format.geometry.shape.spb

-- The format that an image has on a disk of so many sectors, under the key of the salvage.
abbrev pub salvaged_format : Salvaged → (sectors : ℕ) → Image → DiskFormat
salvaged_format image sectors found = format_on image.rule.key sectors found

-- All that is kept is of this disk, which is bound.
pub record IsSalvageOf (image : Salvaged) (disk : DiskIdentity) (moments : List Content) : Type 0 where
  pub bound : IsBound disk.name
  pub format : IsFormat disk.sectors image.format
  pub salt : image.rule.salt ≡ salt_of image.format.fields
  pub size : image.rule.size ≡ image.format.geometry.shape.tag_size
  pub own : HasNow (λ c. salvaged_format image disk.sectors (last_image c)
      ≡ disk_format image.rule.key disk.sectors image.format) moments
  pub few : image.told ≤ blocks_of image
  pub tags : HasRoom 2 image.tags moments
  pub blocks : HasRoom 8 image.blocks moments

-- The format is one of the disk, which is bound, and the rule is that of its tags.
pub record FitsFormat (rule : TagRule) (format : ImageFormat) (disk : DiskIdentity) : Type 0 where
  pub bound : IsBound disk.name
  pub is : IsFormat disk.sectors format
  pub salt : rule.salt ≡ salt_of format.fields
  pub size : rule.size ≡ format.geometry.shape.tag_size

-- There is room for a tag and for a block, and what was read last of tags and of blocks is what reads give.
pub record HaveRoom (tags blocks : Window) (moments : List Content) : Type 0 where
  pub tags_ : HasRoom 2 tags moments
  pub blocks_ : HasRoom 8 blocks moments

-- It is the same image, whatever was read and told of it.
pub record IsSameSalvage (old new : Salvaged) : Type 0 where
  pub format : new.format ≡ old.format
  pub rule : new.rule ≡ old.rule

-- The disk is the one that it was, and its moments are as they were: no sector was written, and nothing synced.
pub record LeavesDisk (disk now : DiskIdentity) (before after : List Content) : Type 0 where
  pub identity : now ≡ disk
  pub kept : after ≡ before
