use Rattle.std.proofs.Common.{◌≡◌, ◌-◌, ◌≤◌, ℕ, Bool}
use Rattle.disk_model.specs.Disk.{OnlyAdds}
use Rattle.disk_model.specs.Moments.{EachSince}
use Rattle.image_model.specs.Geometry.{regions}
use Rattle.bitmap_model.specs.BitmapDisk.{BitmapDisk}
use Rattle.bitmap_laws.specs.CallLaws.{AreSameBits, KeepsNow, StandsThrough}
use Rattle.bitmap_laws.specs.CloseLaws.{IsRested, cleared_below}
use Rattle.bitmap_laws.specs.EventLaws.{with_cleared}
use Rattle.dirty_bitmap.specs.Bits.{bits_of}
use Rattle.tag_store.specs.Store.{IsStore, given_tags}
use Rattle.bitmap_mode.specs.Closing.{IsOfCleared, bits_cleared}
use Rattle.bitmap_mode.specs.States.{counts_of}
use Rattle.bitmap_mode.specs.Standing.{StandsAs}
use Rattle.bitmap_mode.proofs.states.RegionStates.clean_all.Given as goal

abbrev pub invariant-regions : goal.invariant-regions
invariant-regions g l = record {
  low : l.from ≤ regions l.fn.self.geometry;
  geometry : l.self.geometry ≡ l.fn.self.geometry;
  awaiting : l.self.awaiting ≡ l.fn.self.awaiting;
  fresh : l.self.fresh ≡ l.fn.self.fresh;
  bits : AreSameBits l.fn.self.geometry (bits_of l.self.bits) (bits_cleared (counts_of l.fn.self) l.from);
  faults : g.D.Counted.faults l.disk ≡ g.D.Counted.faults l.fn.disk;
  store : IsStore l.fn.tags (g.D.Disk.identity l.disk) (g.D.Disk.moments l.disk);
  identity : g.D.Disk.identity l.disk ≡ g.D.Disk.identity l.fn.disk;
  keeps : (d : BitmapDisk) (marked : ℕ → Bool) → IsRested d → StandsAs d marked l.fn.self l.fn.tags (g.D.Disk.moments l.fn.disk) → KeepsNow (cleared_below d l.from) marked (given_tags l.fn.tags) (g.D.Disk.moments l.disk);
  through : (d : BitmapDisk) (marked : ℕ → Bool) → IsRested d → StandsAs d marked l.fn.self l.fn.tags (g.D.Disk.moments l.fn.disk)
      → StandsThrough (with_cleared d) marked (g.D.Disk.moments l.fn.disk) (g.D.Disk.moments l.disk);
  moments : EachSince (OnlyAdds (IsOfCleared l.fn.self.geometry (counts_of l.fn.self))) (g.D.Disk.moments l.fn.disk) (g.D.Disk.moments l.disk);
}

abbrev pub decreases-regions : goal.decreases-regions
decreases-regions g l = regions l.self.geometry - l.from
