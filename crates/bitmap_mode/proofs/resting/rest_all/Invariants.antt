use Rattle.std.proofs.Common.{◌≡◌, ◌-◌, ℕ, ◌<◌, false}
use Rattle.dirty_bitmap.specs.Regions.{has_region}
use Rattle.bitmap_mode.specs.States.{AreToClean}
use Rattle.bitmap_mode.proofs.resting.rest_all.Given as goal

abbrev pub invariant-fresh : goal.invariant-fresh
invariant-fresh l = record {
  size : l.fresh.size ≡ l.fn.fresh.size;
  below : (r : ℕ) → r < l.from → has_region l.fresh r ≡ false;
  clean : AreToClean l.awaiting.geometry l.bits l.awaiting l.fresh l.to_clean;
}

abbrev pub decreases-fresh : goal.decreases-fresh
decreases-fresh l = l.fresh.size - l.from
