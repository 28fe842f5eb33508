use Rattle.std.proofs.Common.{◌≡◌, ◌*◌, ◌≤◌, min}
use Rattle.std.specs.List.{count_by, range_with_len}
use Rattle.disk_model.specs.Disk.{last_image}
use Rattle.disk_model.specs.Moments.{HasNow}
use Rattle.image_model.specs.Bitmap.{is_dirty}
use Rattle.sector_window.specs.Window.{HasRoom}
use Rattle.bitmap_reading.proofs.counting.count_dirty.Given as goal

-- The dirty ones of the regions before this word's are counted, and the disk is as it was.
abbrev pub invariant-loop-at : goal.invariant-loop-at
invariant-loop-at g l = record {
  window : HasRoom 1 l.window (g.D.Disk.moments l.disk);
  identity : g.D.Disk.identity l.disk ≡ g.D.Disk.identity l.fn.disk;
  moments : g.D.Disk.moments l.disk ≡ g.D.Disk.moments l.fn.disk;
  faults : g.D.Counted.faults l.disk ≡ g.D.Counted.faults l.fn.disk;
  few : l.count ≤ 64 * l.at;
  counted : HasNow (λ c. l.count ≡ count_by (is_dirty l.fn.geometry (last_image c)) (range_with_len 0 (min (64 * l.at) l.regions))) (g.D.Disk.moments l.fn.disk);
}
