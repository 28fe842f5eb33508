use Rattle.std.proofs.Common.{◌≡◌, ℕ, sym, ◌∙◌, ap, arith}
use Rattle.image_model.specs.Geometry.{region_of}
use Rattle.bitmap_mode.specs.Cleaning.{has_block_in}
use Rattle.bitmap_mode.specs.States.{States}
use Rattle.bitmap_mode.proofs.SpanLemmas.{is_between, span_regions}
use Rattle.bitmap_mode.proofs.states.RegionStates.span_of.Goals as goal

pub overflow_add-last : goal.overflow_add-last
overflow_add-last c =
    let blocks : c.self.inside.geometry.blocks ≡ c.args.self.now.geometry.blocks = ap (λ (s : States). s.geometry.blocks) c.self.view_is in
    let is = c.blocks-last.ensures.blocks in
    let low = c.blocks-last.type_inv in
    let inside = c.requires in
    record { fits = omega (arith, blocks, is, low, inside) }

pub returns : goal.returns
returns c region =
    ap (λ (first : ℕ). is_between first c.region_of-2.result region) c.region_of.ensures
    ∙ ap (λ (last : ℕ). is_between (region_of c.self.inside.geometry c.args.first) last region) c.region_of-2.ensures
    ∙ sym (span_regions c.self.inside.geometry c.args.first c.args.count region c.if-count-eq0.false)
    ∙ ap (λ (s : States). has_block_in s.geometry c.args.first c.args.count region) c.self.view_is
