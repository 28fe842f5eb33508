-- The cells of a journal's first sectors, and the grid that they give.
use Rattle.std.proofs.Common.{◌≡◌, inl, inr, ℕ, ◌+◌, ◌<◌, ◌≤◌, sym, ◌∙◌, ap, subst, refl, arith, Some, List, [], ◌∷◌, ◌++◌, length, get_or, append-nil, length-append}
use Rattle.std.proofs.lemmas.Bool.{cases_lt, cases_eq}
use Rattle.std.proofs.lemmas.List.{get_or_append_left, get_or-append-add, get_or_past, take_all}
use Rattle.std.proofs.lemmas.List.FromFn.{map-range_with_len_more}
use Rattle.std.proofs.lemmas.Option.{none-some}
use Rattle.disk_model.specs.Disk.{Content, Image, last_image, sector_in}
use Rattle.image_model.specs.Below.{any_below}
use Rattle.image_model.specs.Geometry.{Geometry, journal_sectors, section_at, section_sectors, IsGeometry}
use Rattle.image_model.specs.Grid.{IsGridOf, blank_bound, grid_of, grid_with, sector_cell}
use Rattle.image_model.specs.Scan.{Grid, SectorCell, cell_number}
use Rattle.image_model.specs.Sectors.{bytes_at}
use Rattle.image_model.specs.declared.sector_cell.Cell.TheVariants.{Zero}
use Rattle.image_model.proofs.Bounds.{has_entries}
use Rattle.image_model.proofs.GeometryLemmas.{data_at-inside, section_at-lt}
use Rattle.image_model.proofs.GridLemmas.{grid_law}
use Rattle.image_model.proofs.Regions.{fitting_log2_region_is}
use Rattle.journal_reading.specs.Cells.{AreFirstCells, HasCommitNumbers, HasWholeSectors, cell_of_sector, first_cells}
use Rattle.journal_reading.specs.Grids.{IsGridFor, IsGridOn}
use Rattle.journal_reading.specs.Used.{is_used_outside_at}
use Rattle.journal_reading.proofs.UsedLemmas.{used_by_sectors}

-- ---- the cells

-- One more cell, whose number is a commit number.
pub HasCommitNumbers-more : (cells : List SectorCell) (cell : SectorCell) → HasCommitNumbers cells
    → ((number : ℕ) → cell_number cell ≡ Some number → number < 4) → HasCommitNumbers (cells ++ cell ∷ [])
HasCommitNumbers-more cells cell before low = record {
  each = λ k number is.
      let all : List SectorCell = cells ++ cell ∷ [] in
      elim (cases_lt k (length cells)) [
        | inl inside ↦
            let same = get_or_append_left cells (cell ∷ []) Zero k inside in
            before.each k number (ap cell_number (sym same) ∙ is)
        | inr past ↦ elim (cases_eq k (length cells)) [
          | inl last ↦
              let at : k ≡ length cells + 0 = omega arith in
              let here : get_or all k Zero ≡ cell =
              ap (λ (x : ℕ). get_or all x Zero) at ∙ get_or-append-add cells (cell ∷ []) 0 Zero in
              low number (ap cell_number (sym here) ∙ is)
          | inr behind ↦
              let long = length-append cells (cell ∷ []) in
              let none : get_or all k Zero ≡ Zero = get_or_past all k Zero (omega (arith, long)) in
              let is_none = ap cell_number (sym none) ∙ is in
              absurd (cc)
        ]
      ];
}

-- None are read at first.
pub first_cells-none : (g : Geometry) (moments : List Content) (cells : List SectorCell) → cells ≡ [] → AreFirstCells g moments cells
first_cells-none g moments cells is = subst (AreFirstCells g moments) (sym is) (record {
  numbers = record { each = λ k number e. absurd (none-some number (ap cell_number (sym (get_or_past [] k Zero (omega arith))) ∙ e)) };
  read = λ c told. refl;
  whole = λ c told k low. absurd (omega arith);
})

-- What was read of the sector that comes next is that sector.
pub sector_read : (c : Content) (k : ℕ) (bytes : List ℕ) → bytes ≡ bytes_at (last_image c) (8 + k) 1 → bytes ≡ last_image c (8 + k)
sector_read c k bytes read = read ∙ append-nil (last_image c (8 + k))

-- With it one more is whole.
pub whole-next : (c : Content) (k : ℕ) (bytes : List ℕ) (old : List SectorCell) (cell : SectorCell) → k ≡ length old
    → bytes ≡ bytes_at (last_image c) (8 + k) 1 → length bytes ≡ 512 → HasWholeSectors (last_image c) (length old)
    → HasWholeSectors (last_image c) (length (old ++ cell ∷ []))
whole-next c k bytes old cell k_is read size before at low =
    let long = length-append old (cell ∷ []) in
    elim (cases_lt at k) [
      | inl inside ↦ before at (omega arith)
      | inr past ↦
          let here : k ≡ at = omega (arith, long, low) in
          ap (λ (n : ℕ). length (last_image c (8 + n))) (sym here) ∙ ap length (sym (sector_read c k bytes read)) ∙ size
    ]

-- Its bytes give its cell.
pub first_cells-next : (g : Geometry) (c : Content) (sectors k : ℕ) (bytes : List ℕ) (old : List SectorCell) (cell : SectorCell)
    → k ≡ length old → sectors ≡ section_sectors g.shape → bytes ≡ bytes_at (last_image c) (8 + k) 1 → length bytes ≡ 512
    → cell ≡ cell_of_sector sectors k (sector_in bytes 0) → old ≡ first_cells g (last_image c) (length old)
    → old ++ cell ∷ [] ≡ first_cells g (last_image c) (length (old ++ cell ∷ []))
first_cells-next g c sectors k bytes old cell k_is sectors_is read size is before =
    let image = last_image c in
    let one : sector_in bytes 0 ≡ image (8 + k) = take_all 512 bytes (omega (arith, size)) ∙ read ∙ append-nil (image (8 + k)) in
    let here : cell ≡ sector_cell g image k =
    is ∙ ap (cell_of_sector sectors k) one ∙ ap (λ (s : ℕ). cell_of_sector s k (image (8 + k))) sectors_is in
    let long : length (old ++ cell ∷ []) ≡ k + 1 = omega (arith, length-append old (cell ∷ []), k_is) in
    ap (λ xs. xs ++ cell ∷ []) (before ∙ ap (first_cells g image) (sym k_is))
    ∙ ap (λ (x : SectorCell). first_cells g image k ++ x ∷ []) here
    ∙ sym (map-range_with_len_more (sector_cell g image) 0 k k (omega arith))
    ∙ ap (first_cells g image) (sym long)

-- ---- the grid

-- The bitmap that fits is no longer than the journal.
blank_bound-le : (g : Geometry) (disk : ℕ) → IsGeometry g disk → blank_bound g ≤ journal_sectors g
unfolding blank_bound
blank_bound-le g disk is = (fitting_log2_region_is g disk is).fits

-- A grid with a cell for each sector of the journal, and as many bitmap sectors as a bitmap that fits,
pub grid_for : (g : Geometry) (disk : ℕ) (grid : Grid) → IsGeometry g disk → grid.sections ≡ g.sections
    → grid.sectors ≡ section_sectors g.shape → length grid.cells ≡ journal_sectors g → grid.bitmap ≡ blank_bound g
    → HasCommitNumbers grid.cells → IsGridFor g grid
grid_for g disk grid is sections sectors all bound numbers =
    let entries = has_entries g.shape is.spb.0 is.spb.1 is.tag_size.0 is.tag_size.1 in
    let some = is.sections in
    let many = entries.sectors_low in
    let fits = blank_bound-le g disk is in
    record {
      is_grid = record {
        has_sections = omega arith;
        has_sectors = omega arith;
        cells = rw (sections, sectors) all;
        bitmap = omega (arith, fits, all, bound);
        numbers = numbers.each;
      };
      sections = sections;
      sectors = sectors;
      bitmap = bound;
    }

-- Grids with the same parts are the same.
same_grid : (one other : Grid) → one.sections ≡ other.sections → one.sectors ≡ other.sectors → one.cells ≡ other.cells
    → one.bitmap ≡ other.bitmap → one.used_outside ≡ other.used_outside → one ≡ other
same_grid one other sections sectors cells bitmap used i = record {
  sections = sections i;
  sectors = sectors i;
  cells = cells i;
  bitmap = bitmap i;
  used_outside = used i;
}

-- and with the cells of an image's journal, and what its sectors tell of used entries.
pub grid_on : (g : Geometry) (disk : ℕ) (image : Image) (grid : Grid) → IsGeometry g disk → IsGridFor g grid
    → HasWholeSectors image (journal_sectors g) → grid.cells ≡ first_cells g image (journal_sectors g)
    → grid.used_outside ≡ any_below (journal_sectors g) (is_used_outside_at grid.bitmap g image) → IsGridOn g image grid
unfolding grid_with
grid_on g disk image grid geometry fits whole cells used =
    same_grid grid (grid_of g image) fits.sections fits.sectors cells fits.bitmap
    (used ∙ ap (λ (bitmap : ℕ). any_below (journal_sectors g) (is_used_outside_at bitmap g image)) fits.bitmap
    ∙ used_by_sectors (blank_bound g) g disk image geometry whole)

-- So it has its commit numbers.
pub numbers_on : (g : Geometry) (disk : ℕ) (image : Image) (grid : Grid) → IsGeometry g disk → IsGridOn g image grid → IsGridOf g image grid
numbers_on g disk image grid geometry is = subst (IsGridOf g image) (sym is) (grid_law g disk image geometry)

-- ---- places and sizes

-- The journal lies on the disk.
pub journal_inside : (g : Geometry) (sectors : ℕ) → IsGeometry g sectors → 8 + journal_sectors g ≤ sectors
journal_inside g sectors is =
    let data_ = data_at-inside g sectors 0 is is.blocks in
    omega (arith, data_.0, data_.1)

-- A section has some sectors, and no more than a few hundred.
pub section_bounds : (g : Geometry) (sectors : ℕ) → IsGeometry g sectors
    → (40 ≤ section_sectors g.shape) × (section_sectors g.shape ≤ 504)
section_bounds g sectors is =
    let entries = has_entries g.shape is.spb.0 is.spb.1 is.tag_size.0 is.tag_size.1 in
    (entries.sectors_low, entries.sectors_high)

-- Each section does.
pub section_inside : (g : Geometry) (sectors i : ℕ) → IsGeometry g sectors → i < g.sections → section_at g i + section_sectors g.shape ≤ sectors
section_inside g sectors i is low =
    let all = journal_inside g sectors is in
    let before = section_at-lt g i g.sections low in
    omega arith
