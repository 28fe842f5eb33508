-- The cells of a journal's sectors, as far as they are read.
use Rattle.std.specs.Prelude.{◌≡◌, ℕ, ◌+◌, ◌/◌, ◌%◌, ◌<◌, List, length, map, slice_index_or, Some}
use Rattle.std.specs.List.{range_with_len}
use Rattle.disk_model.specs.Disk.{Content, Image, last_image}
use Rattle.disk_model.specs.Moments.{HasNow}
use Rattle.image_model.specs.CommitId.{commit_number}
use Rattle.image_model.specs.Geometry.{Geometry}
use Rattle.image_model.specs.Grid.{cell_by, sector_cell}
use Rattle.image_model.specs.Scan.{SectorCell, cell_number}
use Rattle.image_model.specs.declared.sector_cell.Cell.TheVariants.{Zero}

-- The cell of a journal's sector k with these bytes, where a section has so many sectors.
abbrev pub cell_of_sector : (sectors k : ℕ) → List ℕ → SectorCell
cell_of_sector sectors k bytes = cell_by (commit_number (k / sectors) (k % sectors) bytes) bytes

-- The cells of the journal's first sectors, so many of them.
abbrev pub first_cells : Geometry → Image → ℕ → List SectorCell
first_cells g image count = map (sector_cell g image) (range_with_len 0 count)

-- Each number of the cells is a commit number.
pub record HasCommitNumbers (cells : List SectorCell) : Type 0 where
  pub each : (k number : ℕ) → cell_number (slice_index_or cells k Zero) ≡ Some number → number < 4

-- The journal's first sectors have 512 bytes each.
abbrev pub HasWholeSectors : Image → (count : ℕ) → Type 0
HasWholeSectors image count = (k : ℕ) → k < count → length (image (8 + k)) ≡ 512

-- The cells are those of the journal's first sectors, where the disk tells them.
pub record AreFirstCells (g : Geometry) (moments : List Content) (cells : List SectorCell) : Type 0 where
  pub numbers : HasCommitNumbers cells
  pub read : HasNow (λ c. cells ≡ first_cells g (last_image c) (length cells)) moments
  pub whole : HasNow (λ c. HasWholeSectors (last_image c) (length cells)) moments
