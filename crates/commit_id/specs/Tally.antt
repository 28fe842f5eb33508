-- What the first sectors of a journal show to the scan.
use Rattle.std.specs.Prelude.{◌≡◌, ℕ, zero, suc, ◌+◌, ◌/◌, ◌%◌, ◌<◌, Bool, true, false, if◌then◌else◌, Option, Some, None, is_some, length, slice_index, slice_index_or}
use Rattle.image_model.specs.Below.{all_below}
use Rattle.image_model.specs.Scan.{Grid, cell_at, cell_number, first_place, is_blank_sector, scan_fault_of, sector_place}
use Rattle.image_model.specs.Walk.{bears}
use Rattle.image_model.specs.declared.scan_fault.ScanFault.{ScanFault}
use Rattle.commit_id.specs.declared.tally.Tally.{Tally}

-- How many numbers below n pass.
abbrev pub count_below : ℕ → (ℕ → Bool) → ℕ
count_below zero p = 0
count_below (suc n) p = if p n then suc (count_below n p) else count_below n p

-- Sector k of the journal is this one of this section.
pub record IsPlace (grid : Grid) (k section sector : ℕ) : Type 0 where
  pub inside : k < length grid.cells
  pub section_is : section ≡ k / grid.sectors
  pub sector_is : sector ≡ k % grid.sectors

-- Sector k of the journal bears the number.
abbrev pub bears_at : Grid → ℕ → ℕ → Bool
bears_at grid number k = bears (cell_number (cell_at grid k)) number

-- Sector k of the journal bears a number.
abbrev pub is_numbered_at : Grid → ℕ → Bool
is_numbered_at grid k = is_some (cell_number (cell_at grid k))

-- None where the first k sectors bear numbers, and else why a journal that is not blank has no plan.
abbrev pub TellsUnnumbered : Grid → ℕ → Option ScanFault → Type 0
TellsUnnumbered grid k None = all_below k (is_numbered_at grid) ≡ true
TellsUnnumbered grid k (Some fault) = (all_below k (is_numbered_at grid) ≡ false) × (fault ≡ scan_fault_of grid)

-- The tally of the first k sectors.
pub record IsTally (grid : Grid) (k : ℕ) (tally : Tally) : Type 0 where
  pub four : (length tally.counts ≡ 4) × (length tally.firsts ≡ 4)
  pub counts : (number : ℕ) → number < 4 → slice_index tally.counts number ≡ count_below k (bears_at grid number)
  pub firsts : (number : ℕ) → number < 4 → 0 < count_below k (bears_at grid number)
      → slice_index_or tally.firsts number (sector_place 0 0) ≡ first_place (λ cell. bears (cell_number cell) number) grid
  pub blanks : tally.blanks ≡ count_below k (is_blank_sector grid)
  pub unnumbered : TellsUnnumbered grid k tally.unnumbered

-- With one more sector, which bears this number and is this one of this section, a tally is still one.
abbrev pub AddsNumber : ℕ → ℕ → ℕ → Tally → Tally → Type 0
AddsNumber section sector number old new =
    (grid : Grid) (k : ℕ) → IsPlace grid k section sector → cell_number (cell_at grid k) ≡ Some number
    → IsTally grid k old → IsTally grid (k + 1) new
