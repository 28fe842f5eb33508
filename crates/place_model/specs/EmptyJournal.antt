-- An image whose journal is empty, so that an opening in direct mode leaves it as it is.
-- Own: a journal is empty where it has one commit number and no used entry.
use Rattle.std.specs.Prelude.{◌≡◌, ℕ, ◌<◌, []}
use Rattle.disk_model.specs.Disk.{Content, Image, OnlyAdds, last_image, newest_only}
use Rattle.image_model.specs.Cells.{replayed_entries}
use Rattle.image_model.specs.Geometry.{Geometry, section_sectors}
use Rattle.image_model.specs.Tables.{IsWholly}
use Rattle.place_model.specs.Format.{DiskFormat, IsReadAs}
use Rattle.place_model.specs.Journal.{numbers_on}
use Rattle.place_model.specs.Tags.{HoldsTag}

-- Every sector of the journal bears one commit number, so that all its sections count, and no entry of them is used.
pub record IsEmptyJournal (g : Geometry) (image : Image) : Type 0 where
  pub number : ℕ
  pub low : number < 4
  pub one : (section : ℕ) → section < g.sections → IsWholly (section_sectors g.shape) (numbers_on g image) number section
  pub unused : replayed_entries g image ≡ []

-- The image can be read, in this format, and its journal is empty.
pub record HasEmptyJournal (d : DiskFormat) (image : Image) : Type 0 where
  pub reads : IsReadAs d image
  pub empty : IsEmptyJournal d.geometry image

-- Where the journal of the image at the start is empty, nothing is written from there on but sectors of tags.
abbrev pub KeepsEmpty : Geometry → (start c : Content) → Type 0
KeepsEmpty g start c = IsEmptyJournal g (last_image start)
    → OnlyAdds (λ sector x. HoldsTag g sector) (newest_only start) c
