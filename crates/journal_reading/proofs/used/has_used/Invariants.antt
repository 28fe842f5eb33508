use Rattle.std.proofs.Common.{◌≡◌, false}
use Rattle.image_model.specs.Below.{any_below}
use Rattle.commit_id.specs.Shape.{as_shape}
use Rattle.journal_reading.specs.Used.{is_used_in}
use Rattle.journal_reading.proofs.used.has_used.Given as goal

-- No entry before this one is used.
abbrev pub invariant-loop-m : goal.invariant-loop-m
invariant-loop-m l = record {
  none : any_below l.m (is_used_in (as_shape l.shape) l.bytes) ≡ false;
}
