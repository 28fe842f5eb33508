-- Which sectors of a journal bear its newest number.
use Rattle.std.specs.Prelude.{◌≡◌, ℕ, ◌<◌, ◌≤◌, ltb, Bool, List, length, slice_index_or}
use Rattle.image_model.specs.declared.sector_cell.Cell.TheVariants.{Zero}
use Rattle.image_model.specs.Scan.{SectorCell, cell_number}
use Rattle.image_model.specs.Walk.{bears}
use Rattle.journal_erasure.specs.declared.newest.NewestSectors.{NewestSectors}
use Rattle.journal_erasure.specs.declared.newest.NewestSectors.TheVariants.{Scanned, First}

-- Sector k of the journal does: its cell has the number, or it is one of the first.
abbrev pub is_newest : NewestSectors → ℕ → Bool
is_newest (Scanned cells number) k = bears (cell_number (slice_index_or cells.now k Zero)) number
is_newest (First count) k = ltb k count

-- It is told of sector k.
abbrev pub HasSector : NewestSectors → ℕ → Type 0
HasSector (Scanned cells number) k = k < length cells.now
HasSector (First count) k = Unit {0}

-- It is told of the first sectors, so many.
abbrev pub HasSectors : NewestSectors → ℕ → Type 0
HasSectors (Scanned cells number) count = count ≤ length cells.now
HasSectors (First count) sectors = Unit {0}

-- It is told by these cells and this number.
abbrev pub IsScanned : NewestSectors → List SectorCell → ℕ → Type 0
IsScanned (Scanned cells number) all newest = (cells.now ≡ all) × (number ≡ newest)
IsScanned (First count) all newest = ⊥
