-- The journal that a `Grid` shows.
use Rattle.image_model.specs.Scan.{Grid as Journal}
use Rattle.commit_id.specs.declared.grid.Grid.{Grid}

abbrev pub as_grid : Grid → Journal
as_grid grid = record {
  sections = grid.sections;
  sectors = grid.sectors;
  cells = grid.cells.items;
  bitmap = grid.bitmap;
  used_outside = grid.used_outside;
}
