-- Which erasure is one of a disk's journal.
-- Own: as the erasure.
use Rattle.std.specs.Prelude.{◌≡◌, ◌<◌, length}
use Rattle.image_model.specs.Geometry.{section_sectors}
use Rattle.image_model.specs.Grid.{IsGridOf}
use Rattle.image_model.specs.Scan.{Grid}
use Rattle.place_model.specs.Journal.{numbers_on}
use Rattle.journal_model.specs.JournaledDisk.{JournaledDisk, IsSound, Rests}
use Rattle.journal_model.specs.Opening.{HasNewest}
use Rattle.journal_erasure.specs.declared.erasure.Erasure.{Erasure}
use Rattle.journal_erasure.specs.Newest.{IsScanned}
use Rattle.journal_erasure.specs.Erasing.{IsErasureFor, IsErasureOf, erasure_at_rest}

-- The erasure of a journal at rest is one of it, where all its entries are settled.
abbrev pub RestErasureLaw : Type 0
RestErasureLaw = (d : JournaledDisk) → IsSound d → Rests d → d.settled ≡ length d.entries
    → IsErasureFor d.geometry (erasure_at_rest d.geometry d.next d.number)
    × IsErasureOf d.geometry (erasure_at_rest d.geometry d.next d.number) d

-- So is one that is told by the cells of the journal's grid, under its newest number.
abbrev pub ScannedErasureLaw : Type 0
ScannedErasureLaw = (d : JournaledDisk) (grid : Grid) (erasure : Erasure) → IsGridOf d.geometry d.journal grid
    → d.settled ≡ length d.entries → erasure.first < d.geometry.sections
    → HasNewest d.geometry.sections (section_sectors d.geometry.shape) erasure.number (numbers_on d.geometry d.journal)
    → IsScanned erasure.newest grid.cells erasure.number
    → IsErasureFor d.geometry erasure × IsErasureOf d.geometry erasure d
