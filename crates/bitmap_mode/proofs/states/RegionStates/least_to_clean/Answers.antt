use Rattle.std.proofs.Common.{arith}
use Rattle.image_model.specs.Geometry.{regions}
use Rattle.bitmap_mode.specs.Cleaning.{is_held}
use Rattle.bitmap_mode.specs.States.{counts_of, may_be_clean}
use Rattle.recalculation.proofs.FindLemmas.{next_found}
use Rattle.bitmap_mode.proofs.FindLemmas.{least_free, least_none, pass_held}
use Rattle.bitmap_mode.proofs.states.RegionStates.least_to_clean.Goals as goal

pub returns-in-None : goal.returns-in-None
returns-in-None c =
    let counts = counts_of c.args.self.now in
    let size = regions c.args.self.now.geometry in
    let next = next_found (may_be_clean counts) size c.spans.from c.in-Some.region c.next_to_clean.result c.next_to_clean.ensures c.in-Some.is in
    least_free counts (is_held c.args.held.now) size c.spans.from c.in-Some.region next (c.end_of_held.ensures.free c.in-None.is) c.spans.invariant

pub spans-smaller : goal.spans-smaller
spans-smaller c =
    let size = regions c.args.self.now.geometry in
    let next = next_found (may_be_clean (counts_of c.args.self.now)) size c.spans.from c.in-Some.region c.next_to_clean.result c.next_to_clean.ensures c.in-Some.is in
    let inside = next.inside in
    let above = next.above in
    let behind = c.in-Some-end_of_held.ensures.behind in
    omega (arith, inside, above, behind)

pub spans-preserved : goal.spans-preserved
spans-preserved c =
    let counts = counts_of c.args.self.now in
    let size = regions c.args.self.now.geometry in
    let next = next_found (may_be_clean counts) size c.spans.from c.in-Some.region c.next_to_clean.result c.next_to_clean.ensures c.in-Some.is in
    pass_held counts (is_held c.args.held.now) size c.spans.from c.in-Some.region c.in-Some-end_of_held.end next c.in-Some-end_of_held.ensures.held c.spans.invariant

pub returns : goal.returns
returns c =
    least_none (counts_of c.args.self.now) (is_held c.args.held.now) (regions c.args.self.now.geometry) c.spans.from c.next_to_clean.result c.next_to_clean.ensures c.in_default.is c.spans.invariant
