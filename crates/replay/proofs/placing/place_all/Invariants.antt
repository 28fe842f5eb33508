use Rattle.std.proofs.Common.{◌≡◌}
use Rattle.journal_model.specs.JournaledDisk.{JournaledDisk}
use Rattle.journal_reading.specs.Newest.{newest_in}
use Rattle.place_writer.specs.Cells.{HasCells}
use Rattle.replay.specs.Placing.{IsStillRead, StandsReading}
use Rattle.replay.specs.ReadPlaces.{ShowsPlaces}
use Rattle.replay.specs.Replaying.{HasTurned, IsReadOn, IsToReplay, KeepsStoreOn}
use Rattle.replay.specs.Writes.{AddsRead}
use Rattle.replay.proofs.placing.place_all.Given as goal

-- The newest entries among the first ones are in their places.
abbrev pub invariant-loop-k : goal.invariant-loop-k
invariant-loop-k g l = record {
  placed : (d : JournaledDisk) → IsToReplay d l.geometry d.journal → IsReadOn l.geometry l.bytes l.journal d.journal → HasCells d l.fn.tags (g.D.Disk.moments l.fn.disk)
      → HasTurned d (newest_in l.journal.newest) l.k l.tags (g.D.Disk.moments l.disk);
  stands : StandsReading l.geometry l.bytes l.journal l.fn.tags (g.D.Disk.moments l.fn.disk) (g.D.Disk.moments l.disk);
  moments : AddsRead l.geometry l.bytes l.journal (g.D.Disk.moments l.fn.disk) (g.D.Disk.moments l.disk);
  still : IsStillRead l.geometry l.bytes l.journal l.fn.tags l.tags (g.D.Disk.moments l.fn.disk) (g.D.Disk.moments l.disk);
  faults : g.D.Counted.faults l.disk ≡ g.D.Counted.faults l.fn.disk;
  run : ShowsPlaces l.tags.geometry l.run (g.D.Disk.moments l.disk);
  keeps : KeepsStoreOn l.fn.tags l.tags (g.D.Disk.identity l.fn.disk) (g.D.Disk.identity l.disk) (g.D.Disk.moments l.disk);
}
