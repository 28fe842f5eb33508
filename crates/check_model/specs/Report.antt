-- What a check tells of an image.
use Rattle.std.specs.Prelude.{◌≡◌, ℕ, List, [], ◌∷◌, ◌++◌, length, filter, Option, Some, None}
use Rattle.std.specs.List.{range_with_len}
use Rattle.disk_model.specs.Disk.{Image}
use Rattle.image_model.specs.Bitmap.{awaits}
use Rattle.image_model.specs.Geometry.{Geometry}
use Rattle.image_model.specs.Superblock.{Superblock}
use Rattle.place_model.specs.Format.{DiskFormat, format_on}
use Rattle.check_model.specs.Bad.{bad_blocks}
use Rattle.check_model.specs.declared.bad.Bad.{Bad}
use Rattle.image_model.specs.declared.judged.What.{What}
use Rattle.check_model.specs.declared.report.Report.{Report}

-- How many of the first blocks of an image await their tags, of so many,
abbrev pub awaiting_below : Superblock → Geometry → Image → (count : ℕ) → ℕ
awaiting_below s g image count = length (filter (awaits s g image) (range_with_len 0 count))

-- and of all its blocks.
abbrev pub awaiting_in : DiskFormat → Image → ℕ
awaiting_in d image = awaiting_below d.superblock d.geometry image d.geometry.blocks

-- How many blocks there are, how many of them await their tags, and the bad ones in order.
pub record IsReportOf (what : What) (d : DiskFormat) (image : Image) (report : Report) : Type 0 where
  pub blocks : report.blocks ≡ d.geometry.blocks
  pub awaiting : report.awaiting ≡ awaiting_in d image
  pub bad : report.bad.items ≡ bad_blocks what d image

-- The same, of an image on a disk of so many sectors, under a key.
abbrev pub IsReportOn : What → (key : Option (List ℕ)) → (sectors : ℕ) → Image → Report → Type 0
IsReportOn what key sectors image report = IsReportOf what (format_on key sectors image) image report

-- Bad blocks, and one that was found, if it was.
abbrev pub with_found : Option Bad → List Bad → List Bad
with_found None bad = bad
with_found (Some found) bad = bad ++ found ∷ []
