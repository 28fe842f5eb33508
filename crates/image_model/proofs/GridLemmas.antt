-- What the cells of an image's grid are.
use Rattle.std.proofs.Common.{◌≡◌, inl, inr, ℕ, zero, suc, ◌+◌, ◌*◌, ◌/◌, ◌%◌, ◌^◌, ◌<◌, ◌≤◌, true, ◌==◌, refl, sym, ◌∙◌, ap, arith, Option, Some, None, List, [], ◌∷◌, length, map, get_or}
use Rattle.std.specs.List.{range_with_len, list_all}
use Rattle.std.proofs.lemmas.Bool.{cases_Bool, cases_lt, and_parts, eqb-true}
use Rattle.std.proofs.lemmas.List.{get_or_past}
use Rattle.std.proofs.lemmas.List.FromFn.{length-map-range_with_len, get_or-map-range_with_len}
use Rattle.std.proofs.lemmas.Nat.{div-mul-add, mod-mul-add}
use Rattle.std.proofs.lemmas.Option.{none-some}
use Rattle.disk_model.specs.Disk.{Image}
use Rattle.image_model.specs.CommitId.{id_in, number_of, commit_number}
use Rattle.image_model.specs.Geometry.{Geometry, section_at, section_sectors, journal_sectors, IsGeometry}
use Rattle.image_model.specs.Grid.{is_zero_sector, cell_by, sector_cell, grid_with, blank_bound, GridLaw}
use Rattle.image_model.specs.Scan.{cell_at, cell_number, numbers_of}
use Rattle.image_model.specs.declared.sector_cell.Cell.TheVariants.{Zero}
use Rattle.image_model.proofs.Bounds.{has_entries}
use Rattle.image_model.proofs.CommitIdLemmas.{number_of_tells, number_of-zero}
use Rattle.image_model.proofs.Regions.{fitting_log2_region_is}
use Rattle.image_model.proofs.ScanLemmas.{place_low}

-- ---- cells

-- The number of a cell is the one that the sector bears.
pub cell_number-cell_by : (number : Option ℕ) (bytes : List ℕ) → cell_number (cell_by number bytes) ≡ number
cell_number-cell_by (Some number) bytes = refl
cell_number-cell_by None bytes = elim (cases_Bool (is_zero_sector bytes)) [
  | inl zeros ↦ rw zeros refl
  | inr other ↦ rw other refl
]

-- Each byte of a zero sector is 0.
pub zero_sector-at : (bytes : List ℕ) (k : ℕ) → is_zero_sector bytes ≡ true → get_or bytes k 0 ≡ 0
zero_sector-at [] k e = refl
zero_sector-at (b ∷ bytes) zero e = eqb-true b 0 (and_parts (b == 0) (list_all (λ byte. byte == 0) bytes) e).0
zero_sector-at (b ∷ bytes) (suc k) e = zero_sector-at bytes k (and_parts (b == 0) (list_all (λ byte. byte == 0) bytes) e).1

zero_id : (bytes : List ℕ) → is_zero_sector bytes ≡ true → id_in bytes ≡ 0
unfolding id_in
zero_id bytes e = rw (zero_sector-at bytes 504 e, zero_sector-at bytes 505 e, zero_sector-at bytes 506 e, zero_sector-at bytes 507 e, zero_sector-at bytes 508 e, zero_sector-at bytes 509 e, zero_sector-at bytes 510 e, zero_sector-at bytes 511 e) refl

-- A zero sector bears no number, so its cell is Zero.
pub commit_number-zero : (section sector : ℕ) (bytes : List ℕ) → section < 2 ^ 20 → sector < 2 ^ 20 → is_zero_sector bytes ≡ true → commit_number section sector bytes ≡ None
commit_number-zero i j bytes low_i low_j zeros = ap (number_of i j) (zero_id bytes zeros) ∙ number_of-zero i j low_i low_j

-- ---- the grid

module _ (bitmap : ℕ) (g : Geometry) (image : Image) where
  length-cells : length (map (sector_cell g image) (range_with_len 0 (journal_sectors g))) ≡ journal_sectors g
  length-cells = length-map-range_with_len (sector_cell g image) 0 (journal_sectors g)

  -- Cell k is that of the journal's sector k,
  pub cell_at-grid_with : (k : ℕ) → k < journal_sectors g → cell_at (grid_with bitmap g image) k ≡ sector_cell g image k
  unfolding grid_with
  cell_at-grid_with k low = get_or-map-range_with_len (sector_cell g image) 0 (journal_sectors g) k k Zero low (omega arith)

  -- and behind the journal there is none.
  cell_at-past : (k : ℕ) → journal_sectors g ≤ k → cell_at (grid_with bitmap g image) k ≡ Zero
  unfolding grid_with
  cell_at-past k past = get_or_past _ k Zero (rw length-cells past)

  cell_low : (k number : ℕ) → cell_number (cell_at (grid_with bitmap g image) k) ≡ Some number → number < 4
  cell_low k number e = elim (cases_lt k (journal_sectors g)) [
    | inl low ↦
        let sectors = section_sectors g.shape in
        let is : commit_number (k / sectors) (k % sectors) (image (8 + k)) ≡ Some number = sym (cell_number-cell_by _ (image (8 + k))) ∙ ap cell_number (sym (cell_at-grid_with k low)) ∙ e in
        (number_of_tells (k / sectors) (k % sectors) (id_in (image (8 + k))) number is).0
    | inr past ↦ absurd (none-some number (ap cell_number (sym (cell_at-past k past)) ∙ e))
  ]

  -- The number of each sector of each section is the one that it bears.
  pub numbers_of-grid_with : (i j : ℕ) → i < g.sections → j < section_sectors g.shape → numbers_of (grid_with bitmap g image) i j ≡ commit_number i j (image (section_at g i + j))
  unfolding grid_with
  numbers_of-grid_with i j low narrow =
      let sectors = section_sectors g.shape in
      let k = i * sectors + j in
      let at : 8 + k ≡ section_at g i + j = omega arith in
      ap cell_number (cell_at-grid_with k (place_low g.sections sectors i j low narrow))
      ∙ cell_number-cell_by (commit_number (k / sectors) (k % sectors) (image (8 + k))) (image (8 + k))
      ∙ ap (λ (x : ℕ). commit_number x (k % sectors) (image (8 + k))) (div-mul-add i sectors j narrow)
      ∙ ap (λ (x : ℕ). commit_number i x (image (8 + k))) (mod-mul-add i sectors j narrow)
      ∙ ap (λ (x : ℕ). commit_number i j (image x)) at

-- The bitmap that fits is no longer than the journal.
blank_bound-le : (g : Geometry) (sectors : ℕ) → IsGeometry g sectors → blank_bound g ≤ journal_sectors g
unfolding blank_bound
blank_bound-le g sectors is = (fitting_log2_region_is g sectors is).fits

-- The grid of an image is a grid, by the numbers of its sectors.
pub grid_law : GridLaw
unfolding grid_with
grid_law g sectors image is = record {
  is_grid = record {
    has_sections = omega (arith, is.sections);
    has_sectors = let entries = has_entries g.shape is.spb.0 is.spb.1 is.tag_size.0 is.tag_size.1 in omega (arith, entries.sectors_low);
    cells = length-cells (blank_bound g) g image;
    bitmap = rw (length-cells (blank_bound g) g image) (blank_bound-le g sectors is);
    numbers = cell_low (blank_bound g) g image;
  };
  sections = refl;
  sectors = refl;
  numbers = numbers_of-grid_with (blank_bound g) g image;
}
