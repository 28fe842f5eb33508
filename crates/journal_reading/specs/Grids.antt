-- The grid of a journal, as it is read.
use Rattle.std.specs.Prelude.{◌≡◌, ℕ, ◌<◌, ◌≤◌, [], vec_capacity}
use Rattle.disk_model.specs.Disk.{Image}
use Rattle.image_model.specs.Geometry.{Geometry, journal_sectors, section_sectors}
use Rattle.image_model.specs.Grid.{blank_bound, grid_of}
use Rattle.image_model.specs.Scan.{Grid, IsGrid}
use Rattle.sector_window.specs.Window.{Window}
use Rattle.journal_reading.specs.declared.grid.GridRoom.{GridRoom}

-- There is room for a cell of each sector of the journal, of which none is there, and for a sector that is read.
pub record HasGridRoom (g : Geometry) (room : GridRoom) : Type 0 where
  pub none : room.cells.items ≡ []
  pub cells : journal_sectors g ≤ vec_capacity room.cells
  pub window : 1 ≤ room.window.room
  pub shows_none : (let empty : Window = record { room = room.window.room; first = 0; bytes = [] } in room.window ≡ empty)

-- Where so many cells are there, a sector of the journal is left, and the room for its cell.
pub record HasRoomForNext (g : Geometry) (cells capacity : ℕ) : Type 0 where
  pub left : cells < journal_sectors g
  pub room : cells < capacity

-- The grid is one for a journal of these sections, where a bitmap would have as many sectors as one that fits.
pub record IsGridFor (g : Geometry) (grid : Grid) : Type 0 where
  pub is_grid : IsGrid grid
  pub sections : grid.sections ≡ g.sections
  pub sectors : grid.sectors ≡ section_sectors g.shape
  pub bitmap : grid.bitmap ≡ blank_bound g

-- It is that of an image.
abbrev pub IsGridOn : Geometry → Image → Grid → Type 0
IsGridOn g image grid = grid ≡ grid_of g image
