-- The scan of a journal: its plan, the rule for blanks included, or why it is refused.
-- Own: as the plan by the numbers.
use Rattle.std.specs.Prelude.{◌≡◌, ℕ, ◌+◌, ◌*◌, ◌/◌, ◌%◌, ◌<◌, ◌≤◌, nat_lt, Bool, true, false, not, ◌&&◌, ◌||◌, if◌then◌else◌, Option, Some, None, is_none, ok_or, option_map, find, Result, List, [], ◌∷◌, length, map, slice_index_or}
use Rattle.std.specs.List.{position_or_len}
use Rattle.std.specs.Option.{option_or}
use Rattle.image_model.specs.declared.sector_place.SectorPlace.{SectorPlace}
use Rattle.image_model.specs.declared.scan_fault.ScanFault.{ScanFault}
use Rattle.image_model.specs.declared.scan_fault.ScanFault.TheVariants.{NoNumber, FourNumbers}
use Rattle.image_model.specs.declared.sector_cell.Cell.{Cell}
use Rattle.image_model.specs.declared.sector_cell.Cell.TheVariants.{Number, Zero, Other}
use Rattle.image_model.specs.CommitId.{commit_numbers}
use Rattle.image_model.specs.Below.{any_below, all_below}
use Rattle.image_model.specs.Walk.{Numbers, bears, plan_of}
use Rattle.image_model.specs.declared.journal_plan.State.TheVariants.{Blank}
use Rattle.image_model.specs.declared.journal_plan.Plan.{Plan}

-- What stands in the place of a journal sector's commit id.
abbrev pub SectorCell : Type 0
SectorCell = Cell

-- A journal as the scan sees it: so many sections of so many sectors, the cell of each sector, how
-- many of them, from the first on, a bitmap would have, and whether a used entry stands elsewhere than
-- in the zero ones among these.
pub record Grid : Type 0 where
  pub sections : ℕ
  pub sectors : ℕ
  pub cells : List SectorCell
  pub bitmap : ℕ
  pub used_outside : Bool

-- The cell of sector k of the journal.
abbrev pub cell_at : Grid → ℕ → SectorCell
cell_at grid k = slice_index_or grid.cells k Zero

-- The commit number of a cell, if it has one.
abbrev pub cell_number : SectorCell → Option ℕ
cell_number (Number number) = Some number
cell_number other = None

-- The number of sector k of the journal, if it bears one.
abbrev pub number_at : Grid → ℕ → Option ℕ
number_at grid k = cell_number (cell_at grid k)

-- The cell is that of a zero sector.
abbrev pub is_zero : SectorCell → Bool
is_zero Zero = true
is_zero other = false

-- The id found in a cell that bears no number: 0 in a zero sector.
abbrev pub found_in : SectorCell → ℕ
found_in (Other found) = found
found_in other = 0

-- A grid has at least one sector, a cell for each, a bitmap that is no longer, and commit numbers.
pub record IsGrid (grid : Grid) : Type 0 where
  pub has_sections : 0 < grid.sections
  pub has_sectors : 0 < grid.sectors
  pub cells : length grid.cells ≡ grid.sections * grid.sectors
  pub bitmap : grid.bitmap ≤ length grid.cells
  pub numbers : (k number : ℕ) → number_at grid k ≡ Some number → number < 4

-- The number that each sector of each section bears.
abbrev pub numbers_of : Grid → Numbers
numbers_of grid section sector = number_at grid (section * grid.sectors + sector)

-- Sector k of the journal is a zero one among the bitmap's.
abbrev pub is_blank_sector : Grid → ℕ → Bool
is_blank_sector grid k = nat_lt k grid.bitmap && is_zero (cell_at grid k)

-- Each sector but the blank ones bears the number.
abbrev pub is_blank_with : Grid → ℕ → Bool
is_blank_with grid number =
    all_below (length grid.cells) (λ k. is_blank_sector grid k || bears (number_at grid k) number)

-- The number of a blank journal: some sectors are blank, all others bear it, and no entry in these is
-- used. It is 0 where all are blank.
abbrev pub blank_number : Grid → Option ℕ
blank_number grid =
    if any_below (length grid.cells) (is_blank_sector grid) && not grid.used_outside
    then find (is_blank_with grid) commit_numbers
    else None

-- The plan of a blank journal: nothing counts.
abbrev pub blank_plan : ℕ → Plan
blank_plan number = record { state = Blank number; walk = (0, 0) ∷ (0, 0) ∷ [] }

-- A sector of the journal, by its section and its number in that.
abbrev pub sector_place : (section sector : ℕ) → SectorPlace
sector_place section sector = record { section = section; sector = sector }

-- The place of the first sector that passes.
abbrev pub first_place : (SectorCell → Bool) → Grid → SectorPlace
first_place test grid =
    let k = position_or_len test grid.cells in
    sector_place (k / grid.sectors) (k % grid.sectors)

-- Why a journal that is not blank has no plan.
abbrev pub scan_fault_of : Grid → ScanFault
scan_fault_of grid =
    let k = position_or_len (λ cell. is_none (cell_number cell)) grid.cells in
    if nat_lt k (length grid.cells)
    then NoNumber (k / grid.sectors) (k % grid.sectors) (found_in (cell_at grid k))
    else FourNumbers (map (λ number. first_place (λ cell. bears (cell_number cell) number) grid) commit_numbers)

-- The plan of a journal: that of a blank one, else that by its numbers, else the fault.
unfoldable pub walk_of_grid : Grid → Result Plan ScanFault
walk_of_grid grid =
    let blank = option_map blank_plan (blank_number grid) in
    ok_or (option_or blank (plan_of grid.sections grid.sectors (numbers_of grid))) (scan_fault_of grid)
