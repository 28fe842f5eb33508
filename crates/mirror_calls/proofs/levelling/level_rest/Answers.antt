-- One block more is levelled; a fault ends it, and so does the last block.
use Rattle.std.proofs.Common.{rules, ◌≡◌, ℕ, suc, ◌+◌, ◌-◌, ◌≤◌, arith, refl, sym, ◌∙◌, subst}
use Rattle.mirror_calls.proofs.LoopLemmas.{LegsNow, AreLevelling, AreLevelling-begin, AreLevelling-more, AreLeft-level_block, AreLeft-blocks, HasDone-blocks}
use Rattle.mirror_calls.proofs.levelling.level_rest.Goals as goal

pub loop-k-init : goal.loop-k-init
loop-k-init g c =
    let P = g.A.Leg.may_be_left in
    let Q = g.B.Leg.may_be_left in
    let old : LegsNow = record { a_stands = g.A.Leg.stands_for c.args.mirror.now.a; b_stands = g.B.Leg.stands_for c.args.mirror.now.b; a_moments = g.A.Leg.moments c.args.mirror.now.a; b_moments = g.B.Leg.moments c.args.mirror.now.b } in
    let first = c.args.first in
    let count = c.args.count in
    let at : first ≡ first + 0 = omega arith in
    let left : count ≡ count - 0 = omega arith in record {
      whole = search rules;
      ready = search rules;
      there = search rules;
      buffer_ = search rules;
      other_ = search rules;
      few = omega arith;
      low = omega arith;
      levelling = subst (λ (n : ℕ). AreLevelling P Q old old first count n (count - 0) 0) at
          (subst (λ (n : ℕ). AreLevelling P Q old old first count first n 0) left (AreLevelling-begin P Q old first count));
      first_asked = omega arith;
      second_asked = omega arith;
      first_faults = refl;
      second_faults = refl;
      same_blocks = refl;
      same_size = refl;
      same_name = refl;
      second_blocks = refl;
      second_size = refl;
      second_name = refl;
    }

pub loop-k-preserved : goal.loop-k-preserved
loop-k-preserved g c =
    let i = c.loop-k.invariant in
    let first = c.args.first in
    let count = c.args.count in
    let k = c.loop-k.k in
    let written = c.loop-k.written in
    let P = g.A.Leg.may_be_left in
    let Q = g.B.Leg.may_be_left in
    let old : LegsNow = record { a_stands = g.A.Leg.stands_for c.args.mirror.now.a; b_stands = g.B.Leg.stands_for c.args.mirror.now.b; a_moments = g.A.Leg.moments c.args.mirror.now.a; b_moments = g.B.Leg.moments c.args.mirror.now.b } in
    let now : LegsNow = record { a_stands = g.A.Leg.stands_for c.loop-k.mirror.a; b_stands = g.B.Leg.stands_for c.loop-k.mirror.b; a_moments = g.A.Leg.moments c.loop-k.mirror.a; b_moments = g.B.Leg.moments c.loop-k.mirror.b } in
    let next : LegsNow = record { a_stands = g.A.Leg.stands_for c.level_block.new.mirror.a; b_stands = g.B.Leg.stands_for c.level_block.new.mirror.b; a_moments = g.A.Leg.moments c.level_block.new.mirror.a; b_moments = g.B.Leg.moments c.level_block.new.mirror.b } in
    let left = count - (k + 1) in
    let fits : count - k ≡ suc left = omega (arith, c.loop-k-test.true) in
    let start = subst (λ (n : ℕ). AreLevelling P Q old now first count (first + k) n written) fits i.levelling in
    let e = c.in-Ok.ensures in
    let more = c.in-Ok.levelled.written in
    let at : suc (first + k) ≡ first + (k + 1) = omega arith in
    let turned = AreLevelling-more P Q old now next first count (first + k) left written more start e.levelled
    (λ a b m legs. record { first = e.first_moments a b m legs; second = e.second_moments a b m legs }) in record {
      whole = e.turns.whole;
      ready = e.stays.ready;
      there = subst (λ (n : ℕ). first + count ≤ n) (sym e.stays.same.blocks_) i.there;
      buffer_ = e.back.buffer_ ∙ sym e.stays.same.size_;
      other_ = e.back.other_ ∙ sym e.stays.same.size_;
      few = omega (arith, i.few, e.back.few);
      low = omega (arith, c.loop-k-test.true);
      levelling = subst (λ (n : ℕ). AreLevelling P Q old next first count n left (written + more)) at turned;
      first_asked = omega (arith, i.first_asked, e.asked.first);
      second_asked = omega (arith, i.second_asked, e.asked.second);
      first_faults = e.cause.first_passed (λ same. cc) ∙ i.first_faults;
      second_faults = e.cause.second_passed (λ same. cc) ∙ i.second_faults;
      same_blocks = e.stays.same.blocks_ ∙ i.same_blocks;
      same_size = e.stays.same.size_ ∙ i.same_size;
      same_name = e.stays.same.name_ ∙ i.same_name;
      second_blocks = e.stays.same_second.blocks_ ∙ i.second_blocks;
      second_size = e.stays.same_second.size_ ∙ i.second_size;
      second_name = e.stays.same_second.name_ ∙ i.second_name;
    }

pub returns-clause-levelled : goal.returns-clause-levelled
returns-clause-levelled g c a b m legs =
    let i = c.loop-k.invariant in
    let first = c.args.first in
    let count = c.args.count in
    let k = c.loop-k.k in
    let written = c.loop-k.written in
    let P = g.A.Leg.may_be_left in
    let Q = g.B.Leg.may_be_left in
    let old : LegsNow = record { a_stands = g.A.Leg.stands_for c.args.mirror.now.a; b_stands = g.B.Leg.stands_for c.args.mirror.now.b; a_moments = g.A.Leg.moments c.args.mirror.now.a; b_moments = g.B.Leg.moments c.args.mirror.now.b } in
    let now : LegsNow = record { a_stands = g.A.Leg.stands_for c.loop-k.mirror.a; b_stands = g.B.Leg.stands_for c.loop-k.mirror.b; a_moments = g.A.Leg.moments c.loop-k.mirror.a; b_moments = g.B.Leg.moments c.loop-k.mirror.b } in
    let last : k ≡ count = omega (arith, i.low, c.loop-k-test.false) in
    let none : count - k ≡ 0 = omega (arith, last) in
    let all = subst (λ (n : ℕ). AreLevelling P Q old now first count (first + k) n written) none i.levelling in
    HasDone-blocks P Q old now first count (first + k) written all a b m legs

pub returns-in-Err-clause-first_moments : goal.returns-in-Err-clause-first_moments
returns-in-Err-clause-first_moments g c a b m legs =
    let i = c.loop-k.invariant in
    let first = c.args.first in
    let count = c.args.count in
    let k = c.loop-k.k in
    let written = c.loop-k.written in
    let P = g.A.Leg.may_be_left in
    let Q = g.B.Leg.may_be_left in
    let old : LegsNow = record { a_stands = g.A.Leg.stands_for c.args.mirror.now.a; b_stands = g.B.Leg.stands_for c.args.mirror.now.b; a_moments = g.A.Leg.moments c.args.mirror.now.a; b_moments = g.B.Leg.moments c.args.mirror.now.b } in
    let now : LegsNow = record { a_stands = g.A.Leg.stands_for c.loop-k.mirror.a; b_stands = g.B.Leg.stands_for c.loop-k.mirror.b; a_moments = g.A.Leg.moments c.loop-k.mirror.a; b_moments = g.B.Leg.moments c.loop-k.mirror.b } in
    let next : LegsNow = record { a_stands = g.A.Leg.stands_for c.level_block.new.mirror.a; b_stands = g.B.Leg.stands_for c.level_block.new.mirror.b; a_moments = g.A.Leg.moments c.level_block.new.mirror.a; b_moments = g.B.Leg.moments c.level_block.new.mirror.b } in
    let left = count - (k + 1) in
    let fits : count - k ≡ suc left = omega (arith, c.loop-k-test.true) in
    let start = subst (λ (n : ℕ). AreLevelling P Q old now first count (first + k) n written) fits i.levelling in
    let e = c.in-Err.ensures in
    (AreLeft-level_block P Q old now next first count (first + k) left written start
    (λ a b m legs. record { first = e.first_moments a b m legs; second = e.second_moments a b m legs }) a b m legs).first

pub returns-clause-first_moments : goal.returns-clause-first_moments
returns-clause-first_moments g c a b m legs =
    let i = c.loop-k.invariant in
    let first = c.args.first in
    let count = c.args.count in
    let k = c.loop-k.k in
    let written = c.loop-k.written in
    let P = g.A.Leg.may_be_left in
    let Q = g.B.Leg.may_be_left in
    let old : LegsNow = record { a_stands = g.A.Leg.stands_for c.args.mirror.now.a; b_stands = g.B.Leg.stands_for c.args.mirror.now.b; a_moments = g.A.Leg.moments c.args.mirror.now.a; b_moments = g.B.Leg.moments c.args.mirror.now.b } in
    let now : LegsNow = record { a_stands = g.A.Leg.stands_for c.loop-k.mirror.a; b_stands = g.B.Leg.stands_for c.loop-k.mirror.b; a_moments = g.A.Leg.moments c.loop-k.mirror.a; b_moments = g.B.Leg.moments c.loop-k.mirror.b } in
    let last : k ≡ count = omega (arith, i.low, c.loop-k-test.false) in
    let none : count - k ≡ 0 = omega (arith, last) in
    let all = subst (λ (n : ℕ). AreLevelling P Q old now first count (first + k) n written) none i.levelling in
    (AreLeft-blocks P Q old now first count (first + k) written all a b m legs).first

pub returns-in-Err-clause-second_moments : goal.returns-in-Err-clause-second_moments
returns-in-Err-clause-second_moments g c a b m legs =
    let i = c.loop-k.invariant in
    let first = c.args.first in
    let count = c.args.count in
    let k = c.loop-k.k in
    let written = c.loop-k.written in
    let P = g.A.Leg.may_be_left in
    let Q = g.B.Leg.may_be_left in
    let old : LegsNow = record { a_stands = g.A.Leg.stands_for c.args.mirror.now.a; b_stands = g.B.Leg.stands_for c.args.mirror.now.b; a_moments = g.A.Leg.moments c.args.mirror.now.a; b_moments = g.B.Leg.moments c.args.mirror.now.b } in
    let now : LegsNow = record { a_stands = g.A.Leg.stands_for c.loop-k.mirror.a; b_stands = g.B.Leg.stands_for c.loop-k.mirror.b; a_moments = g.A.Leg.moments c.loop-k.mirror.a; b_moments = g.B.Leg.moments c.loop-k.mirror.b } in
    let next : LegsNow = record { a_stands = g.A.Leg.stands_for c.level_block.new.mirror.a; b_stands = g.B.Leg.stands_for c.level_block.new.mirror.b; a_moments = g.A.Leg.moments c.level_block.new.mirror.a; b_moments = g.B.Leg.moments c.level_block.new.mirror.b } in
    let left = count - (k + 1) in
    let fits : count - k ≡ suc left = omega (arith, c.loop-k-test.true) in
    let start = subst (λ (n : ℕ). AreLevelling P Q old now first count (first + k) n written) fits i.levelling in
    let e = c.in-Err.ensures in
    (AreLeft-level_block P Q old now next first count (first + k) left written start
    (λ a b m legs. record { first = e.first_moments a b m legs; second = e.second_moments a b m legs }) a b m legs).second

pub returns-clause-second_moments : goal.returns-clause-second_moments
returns-clause-second_moments g c a b m legs =
    let i = c.loop-k.invariant in
    let first = c.args.first in
    let count = c.args.count in
    let k = c.loop-k.k in
    let written = c.loop-k.written in
    let P = g.A.Leg.may_be_left in
    let Q = g.B.Leg.may_be_left in
    let old : LegsNow = record { a_stands = g.A.Leg.stands_for c.args.mirror.now.a; b_stands = g.B.Leg.stands_for c.args.mirror.now.b; a_moments = g.A.Leg.moments c.args.mirror.now.a; b_moments = g.B.Leg.moments c.args.mirror.now.b } in
    let now : LegsNow = record { a_stands = g.A.Leg.stands_for c.loop-k.mirror.a; b_stands = g.B.Leg.stands_for c.loop-k.mirror.b; a_moments = g.A.Leg.moments c.loop-k.mirror.a; b_moments = g.B.Leg.moments c.loop-k.mirror.b } in
    let last : k ≡ count = omega (arith, i.low, c.loop-k-test.false) in
    let none : count - k ≡ 0 = omega (arith, last) in
    let all = subst (λ (n : ℕ). AreLevelling P Q old now first count (first + k) n written) none i.levelling in
    (AreLeft-blocks P Q old now first count (first + k) written all a b m legs).second
