use Rattle.std.proofs.Common.{ℕ, ◌*◌, ◌^◌, ◌≤◌, min, ap, arith}
use Rattle.std.proofs.Math.Nat.{mul-le-mul_right}
use Rattle.image_model.specs.Geometry.{Shape}
use Rattle.image_model.proofs.Regions.{blocks-low}
use Rattle.recalculation.proofs.PlacesLemmas.{begins_low, start_is}
use Rattle.recalculation.proofs.places.Places.start_of.Goals as goal

pub overflow_mul-result : goal.overflow_mul-result
overflow_mul-result c =
    let geometry = c.args.self.now.geometry in
    let few = blocks-low geometry _ c.requires.places.on_disk in
    let low = begins_low geometry few c.args.region c.requires.region in
    rw c.requires.places.of_region (omega (arith, few, low))

pub overflow_mul-result-2 : goal.overflow_mul-result-2
overflow_mul-result-2 c =
    let geometry = c.args.self.now.geometry in
    let few = blocks-low geometry _ c.requires.places.on_disk in
    let low = begins_low geometry few c.args.region c.requires.region in
    let spb = c.requires.places.on_disk.spb.1 in
    let row : c.args.region * 2 ^ min geometry.log2_region 48 * geometry.shape.spb ≤ 2 ^ 48 * geometry.shape.spb = mul-le-mul_right geometry.shape.spb (omega (arith, few, low)) in
    rw (c.requires.places.of_region, ap (λ (s : Shape). s.spb) c.shape.ensures.shape) (omega (arith, row, spb))

pub returns : goal.returns
returns c =
    let geometry = c.args.self.now.geometry in
    let few = blocks-low geometry _ c.requires.places.on_disk in
    rw (c.requires.places.of_region, ap (λ (s : Shape). s.spb) c.shape.ensures.shape) (ap (λ (n : ℕ). n * geometry.shape.spb) (start_is geometry few c.args.region c.requires.region))
