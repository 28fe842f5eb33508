use Rattle.std.proofs.Common.{◌-◌, ℕ, ap, ◌∙◌, find}
use Rattle.std.specs.List.{range_with_len}
use Rattle.image_model.specs.Geometry.{regions}
use Rattle.dirty_bitmap.specs.Regions.{has_region}
use Rattle.bitmap_mode.specs.States.{States, counts_by, counts_of, may_be_clean}
use Rattle.recalculation.proofs.FindLemmas.{find_same}
use Rattle.bitmap_mode.proofs.states.RegionStates.next_to_clean.Goals as goal

pub returns : goal.returns
returns c =
    let inside = c.self.inside in
    c.next.ensures
    ∙ ap (λ (n : ℕ). find (has_region inside.to_clean) (range_with_len c.args.from (n - c.args.from))) c.self.invariant.clean.0
    ∙ find_same (has_region inside.to_clean) (may_be_clean (counts_by inside.bits inside.awaiting inside.fresh)) (regions inside.geometry) c.args.from c.self.invariant.clean.1
    ∙ ap (λ (s : States). find (may_be_clean (counts_of s)) (range_with_len c.args.from (regions s.geometry - c.args.from))) c.self.view_is
