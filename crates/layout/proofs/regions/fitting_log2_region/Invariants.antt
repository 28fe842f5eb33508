use Rattle.std.proofs.Common.{ℕ, ◌-◌, ◌≤◌}
use Rattle.image_model.specs.Geometry.{bitmap_sectors_for}
use Rattle.layout.proofs.regions.fitting_log2_region.Given as goal

abbrev pub invariant-loop-fitting : goal.invariant-loop-fitting
invariant-loop-fitting l = record {
  not_below : l.log2_region ≤ l.fitting;
  least : (k : ℕ) → l.log2_region ≤ k → bitmap_sectors_for l.blocks k ≤ l.sectors → l.fitting ≤ k;
}

abbrev pub decreases-loop-fitting : goal.decreases-loop-fitting
decreases-loop-fitting l = 256 - l.fitting
