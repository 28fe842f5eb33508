-- What an image is resized to: the format that its first sector tells, and the one that it is to tell.
use Rattle.std.specs.Prelude.{◌≡◌, ℕ, ◌-◌, List, Option}
use Rattle.disk_model.specs.Disk.{Image}
use Rattle.hmac_tag.specs.TagMaker.{TagRule}
use Rattle.image_format.specs.declared.reading.ImageFormat.{ImageFormat}
use Rattle.image_format.specs.Format.{IsFormat, disk_format}
use Rattle.image_model.specs.Cells.{salt_of}
use Rattle.place_model.specs.Format.{DiskFormat}
use Rattle.resize_model.specs.Growth.{Growth}
use Rattle.resize_model.specs.Resized.{resized_fields}
use Rattle.resize_model.specs.StepLaws.{resizing}
use Rattle.image_resizing.specs.declared.planning.Plan.{Plan}

-- The rule of the tags by what was read of an image, under a key.
abbrev pub rule_of : Option (List ℕ) → ImageFormat → TagRule
rule_of key format = record { key = key; salt = salt_of format.fields; size = format.geometry.shape.tag_size }

-- Both formats are accepted on a disk of so many sectors, and the one differs from the other by what the disk can
-- provide. Tags are made by the rule of the image.
pub record IsPlan (sectors : ℕ) (plan : Plan) : Type 0 where
  pub present : IsFormat sectors plan.present
  pub grown : IsFormat sectors plan.grown
  pub fields : plan.grown.fields ≡ resized_fields plan.present.fields sectors
  pub maker : plan.maker ≡ rule_of plan.maker.key plan.present

-- How many blocks are added.
abbrev pub added : Plan → ℕ
added plan = plan.grown.geometry.blocks - plan.present.geometry.blocks

-- The format of the disk.
abbrev pub present_format : (sectors : ℕ) → Plan → DiskFormat
present_format sectors plan = disk_format plan.maker.key sectors plan.present

-- The growth of an image on it.
abbrev pub growth_of : (sectors : ℕ) → Plan → Image → Growth
growth_of sectors plan image = resizing (present_format sectors plan) image
