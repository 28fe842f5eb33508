use Rattle.std.proofs.Common.{◌≡◌, ◌-◌, ℕ, ◌<◌, false}
use Rattle.image_model.specs.Geometry.{regions}
use Rattle.bitmap_mode.specs.Cleaning.{is_held, may_be_cleaned}
use Rattle.bitmap_mode.specs.States.{counts_of}
use Rattle.bitmap_mode.proofs.states.RegionStates.least_to_clean.Given as goal

abbrev pub invariant-spans : goal.invariant-spans
invariant-spans l = (r : ℕ) → r < l.from → r < regions l.self.geometry → may_be_cleaned (counts_of l.self) (is_held l.held) r ≡ false

abbrev pub decreases-spans : goal.decreases-spans
decreases-spans l = regions l.self.geometry - l.from
