use Rattle.std.proofs.Common.{◌≡◌, ◌<◌, ◌≤◌, ℕ, true, false, get_or}
use Rattle.disk_model.specs.Moments.{EachMoment, FromStart, HasNow}
use Rattle.buffer_cache.specs.Cached.{HasNoMark, IsAmidWriteBack, is_marked}
use Rattle.buffer_cache.specs.HeldSectors.{HoldsNoMore}
use Rattle.buffer_cache.specs.Steps.{GivesSame}
use Rattle.buffer_cache.proofs.WriteBackLemmas.{HasWritten}
use Rattle.buffer_cache.proofs.written_back.write_each.Given as goal

abbrev pub invariant-loop-at : goal.invariant-loop-at
invariant-loop-at g l =
    let moments_of = g.D.Disk.moments in
    record {
      faults : g.D.Counted.faults l.disk ≡ g.D.Counted.faults l.fn.disk;
      unread : g.D.Disk.reads l.disk ≡ g.D.Disk.reads l.fn.disk;
      same : GivesSame l.fn.held l.held (g.D.Disk.identity l.fn.disk) (g.D.Disk.identity l.disk) (moments_of l.fn.disk) (moments_of l.disk);
      unmarked : (k : ℕ) → k < l.at-index → is_marked l.held (get_or l.sectors k 0) ≡ false;
      gone : (s : ℕ) → is_marked l.fn.held s ≡ true → is_marked l.held s ≡ false → (k : ℕ) × (k < l.at-index) × (get_or l.sectors k 0 ≡ s);
      written : HasNow (λ c. HasNow (HasWritten l.fn.held l.held c) (moments_of l.disk)) (moments_of l.fn.disk);
      held : HoldsNoMore l.fn.held l.held;
      unwritten : HasNoMark l.fn.held → moments_of l.disk ≡ moments_of l.fn.disk;
      moments : EachMoment (moments_of l.fn.disk) (moments_of l.disk) (FromStart (moments_of l.fn.disk) (IsAmidWriteBack l.fn.held));
    }
