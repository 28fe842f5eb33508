use Rattle.std.proofs.Common.{sym, ◌∙◌, ◌&&◌, nat_lt}
use Rattle.bitmap_laws.proofs.LeastLemmas.{least_found}
use Rattle.image_model.specs.Geometry.{regions}
use Rattle.recalculate_laws.specs.Position.{region_end}
use Rattle.recalculation.specs.Awaiting.{awaiting_of}
use Rattle.recalculation.proofs.position.moved_to.Goals as goal

pub start_of-requires : goal.start_of-requires
start_of-requires c =
    let a = c.args.awaiting.now in
    (least_found (regions a.geometry) (λ region. awaiting_of a region && nat_lt c.args.fields.now.recalc_sector (region_end a.geometry region)) c.in-Some.region (sym c.next_above.ensures ∙ c.in-Some.is)).0
