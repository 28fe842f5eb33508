use Rattle.std.proofs.Common.{◌^◌, ◌≤◌, ◌≡◌, ap, arith}
use Rattle.std.proofs.Math.Nat.{mul-le-mul_left}
use Rattle.image_model.specs.Geometry.{Shape}
use Rattle.image_model.proofs.Regions.{blocks-low}
use Rattle.journal_reading.proofs.judging.is_block_start.Goals as goal

pub overflow_mul-end : goal.overflow_mul-end
overflow_mul-end c =
    let g = c.args.geometry.now in
    let geometry = c.blocks-2.ensures.geometry in
    let spb : c.shape-spb.result.spb ≡ g.shape.spb = ap (λ (s : Shape). s.spb) c.shape-spb.ensures.shape in
    let small : c.shape-spb.result.spb ≤ 8 = omega (arith, spb, geometry.spb.1) in
    let low : c.blocks-2.result ≤ 2 ^ 48 = omega (arith, c.blocks-2.ensures.blocks, blocks-low g (2 ^ 48) geometry) in
    omega (arith, mul-le-mul_left c.blocks-2.result small, low)
