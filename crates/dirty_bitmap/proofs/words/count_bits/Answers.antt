use Rattle.std.proofs.Common.{arith}
use lib.Count.{ones-le}
use Rattle.dirty_bitmap.proofs.WordLemmas.{word_counted}
use Rattle.dirty_bitmap.proofs.words.count_bits.Goals as goal

pub loop-at-preserved : goal.loop-at-preserved
loop-at-preserved c =
    let ones = c.from-count.ensures in
    let more = word_counted c.args.bytes.now c.loop-at.at c.word_at.result c.word_at.ensures c.word_at.type_inv in
    let most = ones-le 64 c.word_at.result c.word_at.type_inv in
    record { counted = omega (arith, more, ones, c.loop-at.invariant.counted); few = omega (arith, most, ones, c.loop-at.invariant.few) }

pub overflow_add-count : goal.overflow_add-count
overflow_add-count c =
    let most = ones-le 64 c.word_at.result c.word_at.type_inv in
    omega (arith, most, c.from-count.ensures, c.loop-at.invariant.few, c.requires.few)
