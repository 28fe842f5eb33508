use Rattle.std.proofs.Common.{◌≡◌, ◌-◌, ◌≤◌, length}
use Rattle.journal_model.specs.Ring.{entries_of}
use Rattle.replay.specs.Placement.{placed_in}
use Rattle.tag_store.specs.Store.{IsStore}
use Rattle.journal_mode.specs.Closing.{HasPlacedMore, WritesEntries, committed_to_place}
use Rattle.journal_mode.specs.Standing.{IsLeftThrough, JournalStanding, StandsAs}
use Rattle.journal_mode.proofs.journal.Journal.place_all.Given as goal

abbrev pub invariant-entries : goal.invariant-entries
invariant-entries g l = record {
  ring : l.self.ring ≡ l.fn.self.ring;
  placed : (w : JournalStanding) → StandsAs w l.fn.self l.fn.tags (g.D.Disk.moments l.fn.disk) → HasPlacedMore w l.self l.fn.tags l.tags (g.D.Disk.moments l.fn.disk) (g.D.Disk.moments l.disk);
  faults : g.D.Counted.faults l.disk ≡ g.D.Counted.faults l.fn.disk;
  store : IsStore l.tags (g.D.Disk.identity l.disk) (g.D.Disk.moments l.disk);
  geometry : l.tags.geometry ≡ l.fn.tags.geometry;
  identity : g.D.Disk.identity l.disk ≡ g.D.Disk.identity l.fn.disk;
  left : (w : JournalStanding) → StandsAs w l.fn.self l.fn.tags (g.D.Disk.moments l.fn.disk) → IsLeftThrough w (g.D.Disk.moments l.fn.disk) (g.D.Disk.moments l.disk);
  more : placed_in l.fn.self.placement l.fn.self.ring ≤ placed_in l.self.placement l.self.ring;
  moments : WritesEntries l.fn.self.ring.geometry (committed_to_place l.fn.self) (g.D.Disk.moments l.fn.disk) (g.D.Disk.moments l.disk);
}

abbrev pub decreases-entries : goal.decreases-entries
decreases-entries g l = length (entries_of l.self.ring.committed) - placed_in l.self.placement l.self.ring
