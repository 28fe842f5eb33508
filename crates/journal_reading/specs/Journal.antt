-- The journal of an image: its bytes in memory, and what is kept of it once it is judged.
use Rattle.std.specs.Prelude.{◌≡◌, ℕ, ◌+◌, ◌-◌, ◌<◌, None, Some, Ok, List, length}
use Rattle.disk_model.specs.Disk.{Image, sector_in}
use Rattle.image_model.specs.Cells.{replayed_entries}
use Rattle.image_model.specs.Geometry.{Geometry, section_at, section_sectors}
use Rattle.image_model.specs.Grid.{IsGridOf, walk_of}
use Rattle.image_model.specs.Openable.{journal_fault_of}
use Rattle.image_model.specs.Scan.{walk_of_grid}
use Rattle.commit_id.specs.Grid.{as_grid}
use Rattle.hmac_tag.specs.TagMaker.{TagRule}
use Rattle.journal_reading.specs.declared.reading.JudgedJournal.{JudgedJournal}
use Rattle.journal_reading.specs.Grids.{IsGridFor}
use Rattle.journal_reading.specs.Index.{IsIndexOf}
use Rattle.journal_reading.specs.Newest.{newest_in}

-- The image whose journal has these bytes. The journal begins at sector 8 of the disk.
abbrev pub journal_image : List ℕ → Image
journal_image bytes sector = sector_in bytes (sector - 8)

-- The journal of an image has these bytes.
pub record HasJournal (g : Geometry) (bytes : List ℕ) (image : Image) : Type 0 where
  pub each : (section sector : ℕ) → section < g.sections → sector < section_sectors g.shape
      → image (section_at g section + sector) ≡ journal_image bytes (section_at g section + sector)

-- What is kept is of a journal of this layout, whatever the disk tells: the plan is that of the grid, and each newest entry
-- is of a block of the device.
pub record FitsJournal (g : Geometry) (journal : JudgedJournal) : Type 0 where
  pub grid_ : IsGridFor g (as_grid journal.grid)
  pub plan_ : walk_of_grid (as_grid journal.grid) ≡ Ok journal.plan
  pub inside : (b number : ℕ) → newest_in journal.newest b ≡ Some number → b < g.blocks

-- It is what the journal of this image tells: its grid, its plan, the newest entry of each block, and how many there are.
pub record IsJournalOn (g : Geometry) (image : Image) (journal : JudgedJournal) : Type 0 where
  pub grid_ : IsGridOf g image (as_grid journal.grid)
  pub plan_ : walk_of g image ≡ Ok journal.plan
  pub newest_ : IsIndexOf g image (newest_in journal.newest)
  pub count_ : journal.count ≡ length (replayed_entries g image)

-- And by the rule of the tags nothing in that is refused.
pub record IsJudgedOn (rule : TagRule) (g : Geometry) (image : Image) (journal : JudgedJournal) : Type 0 where
  pub on : IsJournalOn g image journal
  pub right : journal_fault_of rule.key rule.salt g image ≡ None
