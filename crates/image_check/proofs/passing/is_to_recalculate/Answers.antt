use Rattle.std.proofs.Common.{◌≡◌, ◌+◌, ◌≤◌, ◌^◌, ap, arith}
use Rattle.std.proofs.Math.Nat.{mul-le-mul_left}
use Rattle.image_model.specs.Geometry.{Shape}
use Rattle.image_model.proofs.Regions.{blocks-low}
use Rattle.image_check.proofs.passing.is_to_recalculate.Goals as goal

pub overflow_add-end : goal.overflow_add-end
overflow_add-end c = omega (arith, blocks-low c.args.format.now.geometry (2 ^ 48) c.requires.geometry, c.requires.block)

pub overflow_mul-end : goal.overflow_mul-end
overflow_mul-end c =
    let g = c.args.format.now.geometry in
    let spb : c.shape-spb.result.spb ≡ g.shape.spb = ap (λ (s : Shape). s.spb) c.shape-spb.ensures.shape in
    let small : c.shape-spb.result.spb ≤ 8 = omega (arith, spb, c.requires.geometry.spb.1) in
    let low : c.args.block + 1 ≤ 2 ^ 48 = omega (arith, c.requires.block, blocks-low g (2 ^ 48) c.requires.geometry) in
    omega (arith, mul-le-mul_left (c.args.block + 1) small, low)
