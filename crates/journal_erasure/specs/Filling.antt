-- What filling a blank journal writes: the sectors that do not bear its number, by the cells of a scan.
-- Own: as the scan. In a blank journal these are the blank ones.
use Rattle.std.specs.Prelude.{ℕ, Bool, not, List, slice_index_or}
use Rattle.disk_model.specs.Disk.{Content}
use Rattle.image_model.specs.declared.sector_cell.Cell.TheVariants.{Zero}
use Rattle.image_model.specs.Geometry.{Geometry, journal_sectors, section_at}
use Rattle.image_model.specs.Scan.{SectorCell, cell_number}
use Rattle.image_model.specs.Walk.{bears}
use Rattle.journal_erasure.specs.Parts.{with_chosen, IsOfChosen}

-- Sector k of the journal does not bear the number.
abbrev pub lacks_number : List SectorCell → (number : ℕ) → ℕ → Bool
lacks_number cells number k = not (bears (cell_number (slice_index_or cells k Zero)) number)

-- The sectors of the journal that do not bear it have got their bytes as candidates.
abbrev pub with_lacking : Geometry → List SectorCell → (number : ℕ) → List ℕ → Content → Content
with_lacking g cells number empty =
    with_chosen (lacks_number cells number) (section_at g 0) 0 (journal_sectors g) empty

-- The candidate that this brings to a sector.
abbrev pub IsOfLacking : Geometry → List SectorCell → (number : ℕ) → List ℕ → ℕ → List ℕ → Type 0
IsOfLacking g cells number empty =
    IsOfChosen (lacks_number cells number) (section_at g 0) 0 (journal_sectors g) empty
