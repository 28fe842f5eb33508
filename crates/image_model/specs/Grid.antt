-- The grid of an image's journal, and its replay walk.
-- Own: as the scan.
use Rattle.std.specs.Prelude.{◌≡◌, ℕ, ◌<◌, ◌+◌, ◌*◌, ◌/◌, ◌%◌, ◌==◌, nat_lt, Bool, not, ◌&&◌, if◌then◌else◌, Option, Some, None, Result, List, map}
use Rattle.std.specs.List.{range_with_len, list_all}
use Rattle.disk_model.specs.Disk.{Image}
use Rattle.image_model.specs.Below.{any_below}
use Rattle.image_model.specs.CommitId.{id_in, commit_number}
use Rattle.image_model.specs.Geometry.{Geometry, section_at, section_sectors, section_entries, journal_sectors, bitmap_sectors_for, fitting_log2_region, IsGeometry}
use Rattle.image_model.specs.Sectors.{bytes_at}
use Rattle.image_model.specs.Section.{is_used}
use Rattle.image_model.specs.Scan.{SectorCell, Grid, IsGrid, numbers_of, walk_of_grid}
use Rattle.image_model.specs.declared.sector_cell.Cell.TheVariants.{Number, Zero, Other}
use Rattle.image_model.specs.declared.scan_fault.ScanFault.{ScanFault}
use Rattle.image_model.specs.declared.journal_plan.Plan.{Plan}

-- All bytes of a sector are zero.
abbrev pub is_zero_sector : List ℕ → Bool
is_zero_sector bytes = list_all (λ byte. byte == 0) bytes

-- What the bytes of a sector have in the place of its commit id.
abbrev pub cell_by : Option ℕ → List ℕ → SectorCell
cell_by (Some number) bytes = Number number
cell_by None bytes = if is_zero_sector bytes then Zero else Other (id_in bytes)

-- Sector k of the journal is sector 8 + k of the disk.
abbrev pub sector_cell : Geometry → Image → ℕ → SectorCell
sector_cell g image k =
    let sectors = section_sectors g.shape in
    cell_by (commit_number (k / sectors) (k % sectors) (image (8 + k))) (image (8 + k))

-- Entry n of a section is used, and its sector is no zero one among the journal's first `bitmap`.
abbrev pub is_used_outside : ℕ → Geometry → Image → ℕ → ℕ → Bool
is_used_outside bitmap g image section n =
    let k = section * section_sectors g.shape + n % 8 in
    is_used g.shape (bytes_at image (section_at g section) 8) n
    && not (nat_lt k bitmap && is_zero_sector (image (8 + k)))

-- The grid of an image's journal, where a bitmap would have so many of its sectors.
unfoldable pub grid_with : ℕ → Geometry → Image → Grid
grid_with bitmap g image = record {
  sections = g.sections;
  sectors = section_sectors g.shape;
  cells = map (sector_cell g image) (range_with_len 0 (journal_sectors g));
  bitmap = bitmap;
  used_outside = any_below g.sections (λ section.
      any_below (section_entries g.shape) (is_used_outside bitmap g image section));
}

-- How many sectors a bitmap that fits would have: among so many first ones of the journal a zero sector may be blank.
unfoldable pub blank_bound : Geometry → ℕ
blank_bound g = bitmap_sectors_for g.blocks (fitting_log2_region g)

-- The grid of an image's journal.
abbrev pub grid_of : Geometry → Image → Grid
grid_of g image = grid_with (blank_bound g) g image

-- The plan of an image's journal, or why it is refused.
abbrev pub walk_of : Geometry → Image → Result Plan ScanFault
walk_of g image = walk_of_grid (grid_of g image)

-- The grid is one for the journal's sections, by the number that each sector bears at its place.
pub record IsGridOf (g : Geometry) (image : Image) (grid : Grid) : Type 0 where
  pub is_grid : IsGrid grid
  pub sections : grid.sections ≡ g.sections
  pub sectors : grid.sectors ≡ section_sectors g.shape
  pub numbers : (section sector : ℕ) → section < g.sections → sector < section_sectors g.shape →
      numbers_of grid section sector ≡ commit_number section sector (image (section_at g section + sector))

-- The grid of each image is one for its sections.
abbrev pub GridLaw : Type 0
GridLaw = (g : Geometry) (sectors : ℕ) (image : Image) → IsGeometry g sectors → IsGridOf g image (grid_of g image)
