use Rattle.std.proofs.Common.{◌-◌, ◌≡◌, ◌≤◌, ◌<◌, ◌+◌, ◌*◌, ℕ}
use Rattle.image_model.specs.Geometry.{data_at}
use Rattle.image_resizing.proofs.filling.row_from.Given as goal

abbrev pub invariant-loop-count : goal.invariant-loop-count
invariant-loop-count l = record {
  some : 1 ≤ l.count;
  low : l.count ≤ l.room;
  each : (i : ℕ) → i < l.count → data_at l.geometry (l.first + i) ≡ data_at l.geometry l.first + i * l.geometry.shape.spb;
}

abbrev pub decreases-loop-count : goal.decreases-loop-count
decreases-loop-count l = l.room - l.count
