use Rattle.std.proofs.Common.{arith}
use Rattle.image_model.proofs.Regions.{blocks-low}
use Rattle.recalculation.proofs.PlacesLemmas.{begins_low, region_small, span_is}
use Rattle.recalculation.proofs.places.Places.span.Goals as goal

pub overflow_mul-begin : goal.overflow_mul-begin
overflow_mul-begin c =
    let geometry = c.args.self.now.geometry in
    let few = blocks-low geometry _ c.requires.places.on_disk in
    let low = begins_low geometry few c.args.region c.requires.region in
    rw c.requires.places.of_region (omega (arith, few, low))

pub overflow_add-begin : goal.overflow_add-begin
overflow_add-begin c =
    let geometry = c.args.self.now.geometry in
    let few = blocks-low geometry _ c.requires.places.on_disk in
    let low = begins_low geometry few c.args.region c.requires.region in
    let most = region_small geometry in
    rw c.requires.places.of_region (omega (arith, few, low, most))

pub returns : goal.returns
returns c =
    let geometry = c.args.self.now.geometry in
    let few = blocks-low geometry _ c.requires.places.on_disk in
    rw (c.max.ensures, c.min-end.ensures, c.requires.places.of_region, c.requires.places.blocks) (span_is geometry few c.args.self.now.first c.args.region)
