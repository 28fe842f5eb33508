use Rattle.std.proofs.Common.{◌≡◌, ℕ, ◌-◌, ◌≤◌, false, length, take, drop}
use Rattle.bitmap_mode.specs.Cleaning.{is_held}
use Rattle.bitmap_device.proofs.HeldLemmas.{is_held_in}
use Rattle.bitmap_device.proofs.held.held_spans.Given as goal

abbrev pub invariant-loop-range : goal.invariant-loop-range
invariant-loop-range l = record {
  size : length l.spans ≡ 16;
  low : l.place ≤ length l.slots.slots;
  done : (region : ℕ) → is_held (take l.place l.spans) region ≡ is_held_in l.regions.geometry (take l.place l.slots.slots) region;
  none : (region : ℕ) → is_held (drop l.place l.spans) region ≡ false;
}

abbrev pub decreases-loop-range : goal.decreases-loop-range
decreases-loop-range l = length l.slots.slots - l.place
