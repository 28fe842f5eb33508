-- Which images tell a format.
use Rattle.std.specs.Prelude.{◌↔◌, ℕ, IsOk}
use Rattle.disk_model.specs.Disk.{Image}
use Rattle.image_model.specs.Openable.{IsReadable}
use Rattle.image_format.specs.Format.{format_of}

-- An image tells a format exactly where it can be read.
abbrev pub ReadLaw : Type 0
ReadLaw = (sectors : ℕ) (image : Image) → IsOk (format_of sectors image) ↔ IsReadable sectors image
