-- Which images are shown.
use Rattle.std.specs.Prelude.{◌≡◌, ◌↔◌, ℕ, false, IsOk}
use Rattle.disk_model.specs.Disk.{Image}
use Rattle.image_model.specs.declared.flags.TheConstants.{DIRTY_BITMAP}
use Rattle.image_model.specs.Grid.{walk_of}
use Rattle.image_model.specs.Openable.{IsReadable}
use Rattle.image_model.specs.Superblock.{has_flag}
use Rattle.dump_model.specs.Dump.{dump_of}

-- An image that can be shown: it can be read, and where it has no bitmap its journal has a plan.
pub record IsShowable (sectors : ℕ) (image : Image) : Type 0 where
  pub readable : IsReadable sectors image
  pub plan : has_flag DIRTY_BITMAP readable.superblock.flags ≡ false → IsOk (walk_of readable.geometry image)

-- It is shown exactly then.
abbrev pub ShownLaw : Type 0
ShownLaw = (sectors : ℕ) (image : Image) → IsOk (dump_of sectors image) ↔ IsShowable sectors image
