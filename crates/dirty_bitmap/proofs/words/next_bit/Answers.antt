use Rattle.std.proofs.Common.{◌/◌, ◌*◌, ◌-◌, length, arith, refl, sym}
use Rattle.dirty_bitmap.proofs.RangeLemmas.{find_none_is}
use Rattle.image_model.specs.Bitmap.{is_bit_set}
use Rattle.dirty_bitmap.proofs.WordLemmas.{first_found, first_none, later_found, later_none}
use Rattle.dirty_bitmap.proofs.words.next_bit.Goals as goal

pub returns-in-Some : goal.returns-in-Some
returns-in-Some c =
    first_found c.args.bytes.now (c.args.from / 64) c.word_at.result c.word_at.ensures c.args.from c.in-Some.bit refl (omega arith) c.in-Some.ensures

pub loop-at-init : goal.loop-at-init
loop-at-init c =
    first_none c.args.bytes.now (c.args.from / 64) c.word_at.result c.word_at.ensures c.args.from refl c.in_default.ensures

pub returns-in-Some-lowest_bit : goal.returns-in-Some-lowest_bit
returns-in-Some-lowest_bit c =
    later_found c.args.bytes.now c.loop-at.at c.word_at-in-loop-at.result c.word_at-in-loop-at.ensures c.args.from c.in-Some-lowest_bit.bit (omega arith) (omega arith)
    c.loop-at.invariant c.in-Some-lowest_bit.ensures

pub loop-at-preserved : goal.loop-at-preserved
loop-at-preserved c =
    later_none c.args.bytes.now c.loop-at.at c.word_at-in-loop-at.result c.word_at-in-loop-at.ensures c.args.from c.loop-at.invariant c.in_default-lowest_bit.ensures

pub returns : goal.returns
returns c =
    sym (find_none_is (is_bit_set c.args.bytes.now) c.args.from (8 * length c.args.bytes.now - c.args.from) (λ i above under. c.loop-at.invariant i above (omega arith)))
