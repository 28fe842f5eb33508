-- The rules of the scan in words, as laws that hold of its definitions: the newest number, the states,
-- the walks, the blanks and the refusals.
-- Own: as the walk.
use Rattle.std.specs.Prelude.{◌≡◌, ◌≢◌, ℕ, ◌+◌, ◌*◌, ◌-◌, ◌<◌, ◌≤◌, min, Bool, true, false, Option, Some, None, Ok, IfOk, IfErr, List, [], ◌∷◌, ◌++◌, map, length, slice_index_or}
use Rattle.std.specs.List.{range_with_len}
use Rattle.image_model.specs.declared.sector_place.SectorPlace.{SectorPlace}
use Rattle.image_model.specs.Walk.{Numbers, occurs, later, newest, sections_of, ring}
use Rattle.image_model.specs.declared.journal_plan.State.{State}
use Rattle.image_model.specs.declared.journal_plan.State.TheVariants.{Rest, Mixed, Erasing, Blank}
use Rattle.image_model.specs.Scan.{Grid, IsGrid, cell_at, number_at, found_in, numbers_of, blank_plan, walk_of_grid, sector_place}
use Rattle.image_model.specs.declared.sector_cell.Cell.TheVariants.{Zero}
use Rattle.image_model.specs.declared.scan_fault.ScanFault.{ScanFault}
use Rattle.image_model.specs.declared.scan_fault.ScanFault.TheVariants.{NoNumber, FourNumbers}

-- Whether a number occurs, and those one, two and three laps on.
abbrev pub laps_of : (ℕ → Bool) → ℕ → List Bool
laps_of has number = map has (number ∷ later 1 number ∷ later 2 number ∷ later 3 number ∷ [])

-- The newest of one number, of two neighbours, of two that are two apart, of three, and of four.
pub record NewestTable (has : ℕ → Bool) (number : ℕ) : Type 0 where
  pub one : laps_of has number ≡ true ∷ false ∷ false ∷ false ∷ [] → newest has ≡ Some number
  pub neighbours : laps_of has number ≡ true ∷ true ∷ false ∷ false ∷ [] → newest has ≡ Some (later 1 number)
  pub apart : laps_of has number ≡ true ∷ false ∷ true ∷ false ∷ [] → newest has ≡ Some (min number (later 2 number))
  pub three : laps_of has number ≡ false ∷ true ∷ true ∷ true ∷ [] → newest has ≡ Some (later 3 number)
  pub four : laps_of has number ≡ true ∷ true ∷ true ∷ true ∷ [] → newest has ≡ None

-- Each sector of the section bears the number.
abbrev pub IsWholly : ℕ → Numbers → ℕ → ℕ → Type 0
IsWholly sectors numbers number section = (sector : ℕ) → sector < sectors → numbers section sector ≡ Some number

-- A journal at rest: the sections below `next` are wholly of the number, and the others of the one
-- before it.
pub record IsAtRest (sections sectors next number : ℕ) (numbers : Numbers) : Type 0 where
  pub inside : next < sections
  pub low : number < 4
  pub new : (section : ℕ) → section < next → IsWholly sectors numbers number section
  pub old : (section : ℕ) → next ≤ section → section < sections → IsWholly sectors numbers (later 3 number) section

-- The walk where the newest number and the one before it occur: the sections behind the last that
-- holds the newest, and then those from 0 on, up to that one and ending before the first that is not
-- wholly of it.
pub record IsWalkOfTwo (sections sectors number : ℕ) (numbers : Numbers) (walk : List ℕ) : Type 0 where
  pub last : ℕ
  pub inside : last < sections
  pub holds : (sector : ℕ) × (sector < sectors) × (numbers last sector ≡ Some number)
  pub behind : (section : ℕ) → last < section → section < sections → IsWholly sectors numbers (later 3 number) section
  pub count : ℕ
  pub up_to_last : count ≤ last + 1
  pub whole : (section : ℕ) → section < count → IsWholly sectors numbers number section
  pub ends : count ≤ last → IsWholly sectors numbers number count → ⊥
  pub walk_is : walk ≡ range_with_len (last + 1) (sections - (last + 1)) ++ range_with_len 0 count

-- Sector k of the journal is a zero one among the bitmap's.
abbrev pub IsBlankSector : Grid → ℕ → Type 0
IsBlankSector grid k = (k < grid.bitmap) × (cell_at grid k ≡ Zero)

-- The blank rule: some sectors are blank, all others bear the number, no entry in these is used, and
-- the number is 0 where there are no others.
pub record IsBlank (grid : Grid) (number : ℕ) : Type 0 where
  pub some : (k : ℕ) × (k < length grid.cells) × IsBlankSector grid k
  pub others : (k : ℕ) → k < length grid.cells → (IsBlankSector grid k → ⊥) → number_at grid k ≡ Some number
  pub unused : grid.used_outside ≡ false
  pub no_others : ((k : ℕ) → k < length grid.cells → IsBlankSector grid k) → number ≡ 0

-- The numbers that occur on the journal.
abbrev pub has_number : Grid → ℕ → Bool
has_number grid = occurs grid.sections grid.sectors (numbers_of grid)

-- Each sector of the journal bears a number.
abbrev pub IsNumbered : Grid → Type 0
IsNumbered grid = (k : ℕ) → k < length grid.cells → number_at grid k ≢ None

-- What the state and the walk of a plan say of the journal.
abbrev pub IsPlanOf : Grid → List ℕ → State → Type 0
IsPlanOf grid walk (Rest next number) =
    IsAtRest grid.sections grid.sectors next number (numbers_of grid) × (walk ≡ ring grid.sections next)
IsPlanOf grid walk (Mixed number) =
    IsNumbered grid × (newest (has_number grid) ≡ Some number) × (has_number grid (later 2 number) ≡ false)
    × ((next other : ℕ) → IsAtRest grid.sections grid.sectors next other (numbers_of grid) → ⊥)
    × IsWalkOfTwo grid.sections grid.sectors number (numbers_of grid) walk
IsPlanOf grid walk (Erasing number) =
    IsNumbered grid × (newest (has_number grid) ≡ Some number) × (has_number grid (later 2 number) ≡ true)
    × (walk ≡ [])
IsPlanOf grid walk (Blank number) = IsBlank grid number × (walk ≡ [])

-- The place is the first with this number, or without any.
abbrev pub IsFirstPlace : Grid → Option ℕ → SectorPlace → Type 0
IsFirstPlace grid number place =
    let k = place.section * grid.sectors + place.sector in
    (place.section < grid.sections) × (place.sector < grid.sectors) × (number_at grid k ≡ number)
    × ((before : ℕ) → before < k → number_at grid before ≢ number)

-- The first place without a number, and what is found there, or the first places of all four numbers.
abbrev pub IsFaultOf : Grid → ScanFault → Type 0
IsFaultOf grid (NoNumber section sector found) =
    IsFirstPlace grid None (sector_place section sector)
    × (found ≡ found_in (cell_at grid (section * grid.sectors + sector)))
IsFaultOf grid (FourNumbers places) =
    IsNumbered grid × (length places ≡ 4)
    × ((number : ℕ) → number < 4 → IsFirstPlace grid (Some number) (slice_index_or places number (sector_place 0 0)))

-- The scan follows the rules: each plan and each fault says what holds of the journal, and a blank
-- journal is seen as one.
pub record FollowsRules (grid : Grid) : Type 0 where
  pub plan : IfOk (walk_of_grid grid) (λ plan. IsPlanOf grid (sections_of plan.walk) plan.state)
  pub fault : IfErr (walk_of_grid grid) (IsFaultOf grid)
  pub blank : (number : ℕ) → IsBlank grid number → walk_of_grid grid ≡ Ok (blank_plan number)

-- The newest number is that of the table.
abbrev pub NewestLaw : Type 0
NewestLaw = (has : ℕ → Bool) (number : ℕ) → number < 4 → NewestTable has number

-- The scan of each grid follows the rules.
abbrev pub ScanLaw : Type 0
ScanLaw = (grid : Grid) → IsGrid grid → FollowsRules grid
