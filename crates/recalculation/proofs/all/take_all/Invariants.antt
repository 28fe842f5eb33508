use Rattle.std.proofs.Common.{◌≡◌, ℕ, Bool}
use Rattle.std.specs.List.{count_by, range_with_len}
use Rattle.disk_model.specs.Disk.{Image, OnlyAdds}
use Rattle.disk_model.specs.Moments.{EachSince}
use Rattle.image_model.specs.Geometry.{regions}
use Rattle.journal_model.specs.JournaledDisk.{JournaledDisk}
use Rattle.bitmap_model.specs.BitmapDisk.{BitmapDisk}
use Rattle.bitmap_laws.specs.CallLaws.{AreSameBits}
use Rattle.change_model.specs.PhaseLaws.{no_region}
use Rattle.recalculate_laws.specs.Taking.{KeepsAwaitingNow}
use Rattle.tag_store.specs.Store.{given_tags}
use Rattle.recalculation.specs.All.{AwaitFewer, AwaitOn, IsOfTagsOnly}
use Rattle.recalculation.specs.AllWithBitmap.{AwaitWithBitmap, KeepsOpenedNow}
use Rattle.recalculation.specs.Awaiting.{awaiting_of}
use Rattle.recalculation.specs.Rest.{StaysInPlace}
use Rattle.recalculation.proofs.AllLemmas.{TurnsKeep}
use Rattle.recalculation.proofs.AllWithBitmapLemmas.{TurnsKeepBits}
use Rattle.recalculation.proofs.all.take_all.Given as goal

-- The regions that were the least ones so far are recalculated.
abbrev pub invariant-regions : goal.invariant-regions
invariant-regions g l = record {
  fewer : AwaitFewer l.fn.awaiting.geometry (awaiting_of l.fn.awaiting) (awaiting_of l.awaiting);
  keeps : (d : JournaledDisk) (awaiting : ℕ → Bool) → AwaitOn d awaiting l.maker l.fn.awaiting → KeepsAwaitingNow d awaiting (given_tags l.fn.tags) (g.D.Disk.moments l.fn.disk)
      → TurnsKeep d l.maker l.awaiting (given_tags l.tags) (g.D.Disk.moments l.fn.disk) (g.D.Disk.moments l.disk);
  bits : (d : BitmapDisk) (entry : Image) → AwaitWithBitmap d l.maker l.fn.awaiting → KeepsOpenedNow d entry (given_tags l.fn.tags) (g.D.Disk.moments l.fn.disk)
      → TurnsKeepBits d entry l.maker l.awaiting (given_tags l.tags) (g.D.Disk.moments l.fn.disk) (g.D.Disk.moments l.disk);
  idle : AreSameBits l.fn.awaiting.geometry (awaiting_of l.fn.awaiting) no_region → (g.D.Disk.moments l.disk ≡ g.D.Disk.moments l.fn.disk) × (l.tags ≡ l.fn.tags);
  stays : StaysInPlace l.fn.awaiting l.awaiting l.fn.tags l.tags (g.D.Disk.identity l.fn.disk) (g.D.Disk.identity l.disk) (g.D.Disk.moments l.fn.disk) (g.D.Disk.moments l.disk);
  faults : g.D.Counted.faults l.disk ≡ g.D.Counted.faults l.fn.disk;
  moments : EachSince (OnlyAdds (IsOfTagsOnly l.fn.awaiting.geometry)) (g.D.Disk.moments l.fn.disk) (g.D.Disk.moments l.disk);
}

abbrev pub decreases-regions : goal.decreases-regions
decreases-regions g l = count_by (awaiting_of l.awaiting) (range_with_len 0 (regions l.awaiting.geometry))
