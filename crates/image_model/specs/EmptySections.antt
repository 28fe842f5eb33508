-- The sections of an empty journal, by their bytes.
-- Source: Linux, drivers/md/dm-integrity.c, init_journal.
use Rattle.std.specs.Prelude.{◌≡◌, ℕ, ◌*◌, ◌-◌, ◌<◌, List, length, replicate, None}
use Rattle.disk_model.specs.Disk.{Image, sector_in}
use Rattle.image_model.specs.Geometry.{Geometry, Shape, journal_sectors, section_at, section_entries}
use Rattle.image_model.specs.Entries.{BearsNumber, HoldsEntries}
use Rattle.image_model.specs.Section.{section_bytes}

-- The section has no used entry, each byte that nothing names is zero, and each sector bears the commit number.
pub record IsEmptySection (shape : Shape) (section number : ℕ) (bytes : List ℕ) : Type 0 where
  pub numbers : BearsNumber shape section number bytes
  pub entries : HoldsEntries shape (replicate (section_entries shape) None) bytes

-- The bytes are those of all sections of a journal, each of them empty.
pub record AreEmptySections (g : Geometry) (number : ℕ) (bytes : List ℕ) : Type 0 where
  pub size : length bytes ≡ 512 * journal_sectors g
  pub each : (section : ℕ) → section < g.sections
      → IsEmptySection g.shape section number (section_bytes g.shape bytes section)

-- The image that has them where the journal lies.
abbrev pub empty_image : Geometry → List ℕ → Image
empty_image g bytes sector = sector_in bytes (sector - section_at g 0)
