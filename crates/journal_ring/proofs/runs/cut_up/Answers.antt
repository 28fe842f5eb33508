use Rattle.std.proofs.Common.{◌≡◌, suc, ◌+◌, ◌*◌, ◌≤◌, arith, length, length-append, ◌∙◌, [], ◌∷◌, ◌++◌}
use native.Mathlib.Nat.{mul-le-mul_right, suc-mul}
use Rattle.sector_pool.specs.Run.{front_of, back_of, sectors_of}
use Rattle.sector_pool.proofs.RunLemmas.{sectors_of-back}
use Rattle.journal_ring.proofs.RunsLemmas.{CutsUp-more}
use Rattle.journal_ring.proofs.runs.cut_up.Goals as goal

pub split-front-requires : goal.split-front-requires
split-front-requires c =
    let step : suc c.loop.counter * c.args.each ≤ c.args.count * c.args.each = mul-le-mul_right c.args.each c.loop-test.true in
    record { k = omega (arith, step, suc-mul c.loop.counter c.args.each, c.loop.invariant.3) }

pub loop-preserved : goal.loop-preserved
loop-preserved c =
    let before = c.loop.invariant in
    let each = c.args.each in
    let rest = c.loop.rest in
    let step : suc c.loop.counter * each ≤ c.args.count * each = mul-le-mul_right each c.loop-test.true in
    let low : each ≤ sectors_of rest = omega (arith, step, suc-mul c.loop.counter each, before.3) in
    let cuts = CutsUp-more each c.loop.counter c.args.runs.now.items c.loop.runs.items c.args.run rest before.0 low in
    let left : c.args.count * each ≤ (c.loop.counter + 1) * each + sectors_of (back_of each rest) = omega (arith, suc-mul c.loop.counter each, sectors_of-back each rest low, before.3) in
    let long : length (c.loop.runs.items ++ front_of each rest ∷ []) ≡ length c.args.runs.now.items + (c.loop.counter + 1) = omega (arith, length-append c.loop.runs.items (front_of each rest ∷ []), before.2) in
    rw (c.push_reserved.ensures.items, c.split-front.ensures.front, c.split-front.ensures.back)
    (cuts, c.push_reserved.ensures.capacity ∙ before.1, long, left)
