use Rattle.std.proofs.Common.{◌≡◌, vec_capacity, vec_len}
use Rattle.disk_model.specs.Disk.{last_image}
use Rattle.disk_model.specs.Moments.{HasNow}
use Rattle.image_model.specs.Below.{any_below}
use Rattle.sector_window.specs.Window.{HasRoom}
use Rattle.journal_reading.specs.Cells.{AreFirstCells}
use Rattle.journal_reading.specs.Used.{is_used_outside_at}
use Rattle.journal_reading.proofs.grid.read_grid.Given as goal

-- The first sectors have their cells, and it is told whether one of them has a used entry that counts.
abbrev pub invariant-loop : goal.invariant-loop
invariant-loop g l = record {
  cells : AreFirstCells l.geometry (g.D.Disk.moments l.fn.disk) l.cells.items;
  used : HasNow (λ c. l.used_outside ≡ any_below l.counter (is_used_outside_at l.bitmap l.geometry (last_image c))) (g.D.Disk.moments l.fn.disk);
  done : vec_len l.cells ≡ l.counter;
  capacity : vec_capacity l.cells ≡ vec_capacity l.fn.room.cells;
  window : HasRoom 1 l.window (g.D.Disk.moments l.disk);
  faults : g.D.Counted.faults l.disk ≡ g.D.Counted.faults l.fn.disk;
  identity : g.D.Disk.identity l.disk ≡ g.D.Disk.identity l.fn.disk;
  kept : g.D.Disk.moments l.disk ≡ g.D.Disk.moments l.fn.disk;
}
