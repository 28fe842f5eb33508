-- The journal of a grid: its cells by their places.
use Rattle.std.proofs.Common.{◌≡◌, ℕ, zero, suc, List, [], ◌∷◌, refl, ◌+◌, ◌*◌, ◌^◌, ◌<◌, sym, ◌∙◌, ap, subst, arith, length, get_or}
use Rattle.std.proofs.lemmas.Nat.{div-mul-add, mod-mul-add}
use Rattle.image_model.specs.Scan.{Grid as Journal, IsGrid, cell_at}
use Rattle.image_model.specs.declared.sector_cell.Cell.TheVariants.{Zero as ZeroCell}
use Rattle.image_model.proofs.ScanLemmas.{place_low}
use Rattle.image_model.specs.declared.sector_cell.Cell.{Cell}
use Rattle.commit_id.specs.declared.grid.Grid.{Grid}
use Rattle.commit_id.specs.Grid.{as_grid}
use Rattle.commit_id.specs.Tally.{IsPlace}

-- The sectors of the sections are those of the journal, in order.
pub place_is : (grid : Journal) (section sector : ℕ) → IsGrid grid → section < grid.sections → sector < grid.sectors
    → IsPlace grid (section * grid.sectors + sector) section sector
place_is grid section sector is_grid low narrow = record {
  inside = subst (λ n. section * grid.sectors + sector < n) (sym is_grid.cells) (place_low grid.sections grid.sectors section sector low narrow);
  section_is = sym (div-mul-add section grid.sectors sector narrow);
  sector_is = sym (mod-mul-add section grid.sectors sector narrow);
}

-- The journal has as many sectors as the grid has cells: less than 2^63.
pub sectors_are : (grid : Grid) → (length (as_grid grid).cells ≡ length grid.cells.items) × (length grid.cells.items < 2 ^ 63)
sectors_are grid = (refl, omega arith)

-- A place of a grid is one of its cells.
pub place_inside : (grid : Grid) (section sector : ℕ) → IsGrid (as_grid grid) → section < grid.sections → sector < grid.sectors
    → (section * grid.sectors + sector < length grid.cells.items) × (length grid.cells.items < 2 ^ 63)
place_inside grid section sector is_grid low narrow =
    let place = place_is (as_grid grid) section sector is_grid low narrow in
    let all = sectors_are grid in
    (omega (arith, place.inside), all.1)

-- What is read at a place does not depend on what would be read at none.
pub same_place : (cells : List Cell) (k : ℕ) (d e : Cell) → k < length cells → get_or cells k d ≡ get_or cells k e
same_place [] k d e low = absurd (omega arith)
same_place (cell ∷ cells) zero d e low = refl
same_place (cell ∷ cells) (suc k) d e low = same_place cells k d e (omega arith)

-- What is read there is the journal's cell.
pub cell_at-read : (grid : Grid) (section sector : ℕ) (cell : Cell) → IsGrid (as_grid grid) → section < grid.sections → sector < grid.sectors
    → cell ≡ get_or grid.cells.items (section * grid.sectors + sector) cell
    → cell_at (as_grid grid) (section * grid.sectors + sector) ≡ cell
cell_at-read grid section sector cell is_grid low narrow read =
    same_place grid.cells.items (section * grid.sectors + sector) ZeroCell cell (place_inside grid section sector is_grid low narrow).0 ∙ sym read
