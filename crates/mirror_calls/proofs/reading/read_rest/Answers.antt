-- One block more is read; a fault ends the read, and so does the last block.
use Rattle.std.proofs.Common.{rules, ◌≡◌, ℕ, suc, ◌+◌, ◌-◌, ◌*◌, ◌≤◌, List, length, take, drop, arith, ap, refl, sym, ◌∙◌, subst}
use Rattle.std.specs.List.{replace_range}
use Rattle.std.proofs.lemmas.List.{length-take-le}
use Rattle.mirror_model.specs.Calls as Model
use Rattle.mirror_model.specs.Mirror.{MirrorState}
use Rattle.mirror_calls.specs.declared.block.BlockGiven.{BlockGiven}
use Rattle.mirror_calls.specs.declared.block.BlockGiven.TheVariants.{Given}
use Rattle.mirror_calls.specs.Given.{as_pair, given_as, given_buffer}
use Rattle.mirror_calls.specs.Leg.{LegOn}
use Rattle.mirror_calls.specs.State.{AreLegs, HasDone, format_of}
use Rattle.mirror_calls.proofs.LoopLemmas.{LegsNow, AreReading, AreReading-begin, AreReading-given, AreLeft-read_block, AreLeft-read, HasDone-fault, HasDone-read, front-stays}
use Rattle.mirror_calls.proofs.reading.read_rest.Goals as goal

pub loop-k-init : goal.loop-k-init
loop-k-init g c =
    let P = g.A.Leg.may_be_left in
    let Q = g.B.Leg.may_be_left in
    let old : LegsNow = record { a_stands = g.A.Leg.stands_for c.args.mirror.now.a; b_stands = g.B.Leg.stands_for c.args.mirror.now.b; a_moments = g.A.Leg.moments c.args.mirror.now.a; b_moments = g.B.Leg.moments c.args.mirror.now.b } in
    let first = c.args.first in
    let count = c.args.count in
    let from = c.args.from in
    let out = c.into_vec-out.result.items in
    let long : length out ≡ from + count * c.block_size-size.result = search rules in
    let le : from ≤ length out = omega (arith, long) in
    let at : first ≡ first + 0 = omega arith in
    let left : count ≡ count - 0 = omega arith in
    let begun = AreReading-begin P Q old first count from out le in record {
      whole = search rules;
      ready = search rules;
      there = search rules;
      size = search rules;
      spare = search rules;
      given = long;
      out = long;
      at = omega arith;
      low = search rules;
      reading = subst (λ (n : ℕ). AreReading P Q old old first count n (count - 0) from (take from out) out out) at
          (subst (λ (n : ℕ). AreReading P Q old old first count first n from (take from out) out out) left begun);
      first_asked = omega arith;
      second_asked = omega arith;
      first_faults = refl;
      second_faults = refl;
      same_blocks = refl;
      same_size = refl;
      same_name = refl;
      second_blocks = refl;
      second_size = refl;
      second_name = refl;
    }

pub loop-k-preserved : goal.loop-k-preserved
loop-k-preserved g c =
    let i = c.loop-k.invariant in
    let first = c.args.first in
    let count = c.args.count in
    let size = c.block_size-size.result in
    let k = c.loop-k.k in
    let P = g.A.Leg.may_be_left in
    let Q = g.B.Leg.may_be_left in
    let old : LegsNow = record { a_stands = g.A.Leg.stands_for c.args.mirror.now.a; b_stands = g.B.Leg.stands_for c.args.mirror.now.b; a_moments = g.A.Leg.moments c.args.mirror.now.a; b_moments = g.B.Leg.moments c.args.mirror.now.b } in
    let now : LegsNow = record { a_stands = g.A.Leg.stands_for c.loop-k.mirror.a; b_stands = g.B.Leg.stands_for c.loop-k.mirror.b; a_moments = g.A.Leg.moments c.loop-k.mirror.a; b_moments = g.B.Leg.moments c.loop-k.mirror.b } in
    let end : LegsNow = record { a_stands = g.A.Leg.stands_for c.read_block.new.mirror.a; b_stands = g.B.Leg.stands_for c.read_block.new.mirror.b; a_moments = g.A.Leg.moments c.read_block.new.mirror.a; b_moments = g.B.Leg.moments c.read_block.new.mirror.b } in
    let given = c.into_vec-out.result.items in
    let out = c.loop-k.out.items in
    let front = take c.args.from given in
    let left = count - (k + 1) in
    let fits : count - k ≡ suc left = omega (arith, c.loop-k-test.true) in
    let start = subst (λ (n : ℕ). AreReading P Q old now first count (first + k) n c.loop-k.at front given out) fits i.reading in
    let e = c.in-Ok.ensures in
    let from = c.loop-k.at in
    let x = c.in-Given.buffer in
    let Reads : BlockGiven → Type 0 = λ given. (a b : LegOn) (m : MirrorState) → AreLegs now.a_stands now.b_stands a b m
    → HasDone end.a_stands end.b_stands a b m (Model.read_block (format_of a b) m (first + k)) (given_as (first + k) given) in
    let is_given : c.in-Ok.given ≡ Given x = c.in-Given.is in
    let turned = AreReading-given P Q old now end first count (first + k) left from front given out x start (subst Reads is_given e.read)
    (λ a b m legs. record { first = e.first_moments a b m legs; second = e.second_moments a b m legs }) in
    let at : suc (first + k) ≡ first + (k + 1) = omega arith in
    let size_x : length x ≡ size = sym (ap (λ (y : BlockGiven). length (given_buffer y)) is_given) ∙ e.buffer ∙ i.size in
    let put_is : replace_range out from (from + length x) x ≡ c.put-spare.new.out.items =
    sym c.put-spare.ensures.put in record {
      whole = e.turns.whole;
      ready = e.stays.ready;
      there = subst (λ (n : ℕ). first + count ≤ n) (sym e.stays.same.blocks_) i.there;
      size = e.stays.same.size_ ∙ i.size;
      spare = ap (λ (l : List ℕ). length l) c.put-spare.ensures.back ∙ size_x;
      given = i.given;
      out = c.put-spare.ensures.length ∙ i.out;
      at = omega (arith, i.at);
      low = omega (arith, c.loop-k-test.true);
      reading = subst (λ (n : ℕ). AreReading P Q old end first count n left (from + size) front given c.put-spare.new.out.items) at
          (subst (λ (n : ℕ). AreReading P Q old end first count (suc (first + k)) left (from + n) front given c.put-spare.new.out.items) size_x
          (subst (λ (l : List ℕ). AreReading P Q old end first count (suc (first + k)) left (from + length x) front given l) put_is turned));
      first_asked = omega (arith, i.first_asked, e.asked.first);
      second_asked = omega (arith, i.second_asked, e.asked.second);
      first_faults = e.cause.first_passed (λ same. cc) ∙ i.first_faults;
      second_faults = e.cause.second_passed (λ same. cc) ∙ i.second_faults;
      same_blocks = e.stays.same.blocks_ ∙ i.same_blocks;
      same_size = e.stays.same.size_ ∙ i.same_size;
      same_name = e.stays.same.name_ ∙ i.same_name;
      second_blocks = e.stays.same_second.blocks_ ∙ i.second_blocks;
      second_size = e.stays.same_second.size_ ∙ i.second_size;
      second_name = e.stays.same_second.name_ ∙ i.second_name;
    }

pub returns-in-Neither-clause-asked : goal.returns-in-Neither-clause-asked
returns-in-Neither-clause-asked g c =
    let i = c.loop-k.invariant in
    let e = c.in-Ok.ensures in record {
      first = omega (arith, i.first_asked, e.asked.first, c.loop-k-test.true);
      second = omega (arith, i.second_asked, e.asked.second, c.loop-k-test.true);
    }

pub returns-clause-asked : goal.returns-clause-asked
returns-clause-asked g c =
    let i = c.loop-k.invariant in record {
      first = omega (arith, i.first_asked, i.low);
      second = omega (arith, i.second_asked, i.low);
    }

pub returns-in-Neither-clause-read : goal.returns-in-Neither-clause-read
returns-in-Neither-clause-read g c a b m legs =
    let i = c.loop-k.invariant in
    let first = c.args.first in
    let count = c.args.count in
    let size = c.block_size-size.result in
    let k = c.loop-k.k in
    let P = g.A.Leg.may_be_left in
    let Q = g.B.Leg.may_be_left in
    let old : LegsNow = record { a_stands = g.A.Leg.stands_for c.args.mirror.now.a; b_stands = g.B.Leg.stands_for c.args.mirror.now.b; a_moments = g.A.Leg.moments c.args.mirror.now.a; b_moments = g.B.Leg.moments c.args.mirror.now.b } in
    let now : LegsNow = record { a_stands = g.A.Leg.stands_for c.loop-k.mirror.a; b_stands = g.B.Leg.stands_for c.loop-k.mirror.b; a_moments = g.A.Leg.moments c.loop-k.mirror.a; b_moments = g.B.Leg.moments c.loop-k.mirror.b } in
    let end : LegsNow = record { a_stands = g.A.Leg.stands_for c.read_block.new.mirror.a; b_stands = g.B.Leg.stands_for c.read_block.new.mirror.b; a_moments = g.A.Leg.moments c.read_block.new.mirror.a; b_moments = g.B.Leg.moments c.read_block.new.mirror.b } in
    let given = c.into_vec-out.result.items in
    let out = c.loop-k.out.items in
    let front = take c.args.from given in
    let left = count - (k + 1) in
    let fits : count - k ≡ suc left = omega (arith, c.loop-k-test.true) in
    let start = subst (λ (n : ℕ). AreReading P Q old now first count (first + k) n c.loop-k.at front given out) fits i.reading in
    let Reads : BlockGiven → Type 0 = λ given. (a b : LegOn) (m : MirrorState) → AreLegs now.a_stands now.b_stands a b m
    → HasDone end.a_stands end.b_stands a b m (Model.read_block (format_of a b) m (first + k)) (given_as (first + k) given) in
    HasDone-fault P Q old now end first count (first + k) left c.loop-k.at front given out (as_pair c.in-Neither.a) (as_pair c.in-Neither.b)
    start (subst Reads c.in-Neither.is c.in-Ok.ensures.read) a b m legs

pub returns-clause-read : goal.returns-clause-read
returns-clause-read g c a b m legs =
    let i = c.loop-k.invariant in
    let first = c.args.first in
    let count = c.args.count in
    let size = c.block_size-size.result in
    let k = c.loop-k.k in
    let P = g.A.Leg.may_be_left in
    let Q = g.B.Leg.may_be_left in
    let old : LegsNow = record { a_stands = g.A.Leg.stands_for c.args.mirror.now.a; b_stands = g.B.Leg.stands_for c.args.mirror.now.b; a_moments = g.A.Leg.moments c.args.mirror.now.a; b_moments = g.B.Leg.moments c.args.mirror.now.b } in
    let now : LegsNow = record { a_stands = g.A.Leg.stands_for c.loop-k.mirror.a; b_stands = g.B.Leg.stands_for c.loop-k.mirror.b; a_moments = g.A.Leg.moments c.loop-k.mirror.a; b_moments = g.B.Leg.moments c.loop-k.mirror.b } in
    let given = c.into_vec-out.result.items in
    let out = c.loop-k.out.items in
    let front = take c.args.from given in
    let last : k ≡ count = omega (arith, i.low, c.loop-k-test.false) in
    let none : count - k ≡ 0 = omega (arith, last) in
    let read = subst (λ (n : ℕ). AreReading P Q old now first count (first + k) n c.loop-k.at front given out) none i.reading in
    let all : c.loop-k.at ≡ length given = i.at ∙ ap (λ (n : ℕ). c.args.from + n * size) last ∙ sym i.given in
    let le : c.args.from ≤ length given = omega (arith, i.given) in
    subst (λ (l : List ℕ). HasDone now.a_stands now.b_stands a b m (Model.mirror_read (format_of a b) m first count) (Model.Bytes (drop c.args.from l))) (sym c.from_vec.ensures)
    (HasDone-read P Q old now first count (first + k) c.loop-k.at c.args.from front given out read all (length-take-le c.args.from given le) a b m legs)

pub returns-clause-front : goal.returns-clause-front
returns-clause-front g c =
    let i = c.loop-k.invariant in
    let first = c.args.first in
    let count = c.args.count in
    let size = c.block_size-size.result in
    let k = c.loop-k.k in
    let P = g.A.Leg.may_be_left in
    let Q = g.B.Leg.may_be_left in
    let old : LegsNow = record { a_stands = g.A.Leg.stands_for c.args.mirror.now.a; b_stands = g.B.Leg.stands_for c.args.mirror.now.b; a_moments = g.A.Leg.moments c.args.mirror.now.a; b_moments = g.B.Leg.moments c.args.mirror.now.b } in
    let now : LegsNow = record { a_stands = g.A.Leg.stands_for c.loop-k.mirror.a; b_stands = g.B.Leg.stands_for c.loop-k.mirror.b; a_moments = g.A.Leg.moments c.loop-k.mirror.a; b_moments = g.B.Leg.moments c.loop-k.mirror.b } in
    let given = c.into_vec-out.result.items in
    let out = c.loop-k.out.items in
    let front = take c.args.from given in
    let last : k ≡ count = omega (arith, i.low, c.loop-k-test.false) in
    let none : count - k ≡ 0 = omega (arith, last) in
    let read = subst (λ (n : ℕ). AreReading P Q old now first count (first + k) n c.loop-k.at front given out) none i.reading in
    let all : c.loop-k.at ≡ length given = i.at ∙ ap (λ (n : ℕ). c.args.from + n * size) last ∙ sym i.given in
    let le : c.args.from ≤ length given = omega (arith, i.given) in
    ap (take c.args.from) c.from_vec.ensures
    ∙ front-stays P Q old now first count (first + k) c.loop-k.at c.args.from front given out read all (length-take-le c.args.from given le)
    ∙ ap (take c.args.from) c.into_vec-out.ensures

pub returns-in-Neither-clause-first_moments : goal.returns-in-Neither-clause-first_moments
returns-in-Neither-clause-first_moments g c a b m legs =
    let i = c.loop-k.invariant in
    let first = c.args.first in
    let count = c.args.count in
    let size = c.block_size-size.result in
    let k = c.loop-k.k in
    let P = g.A.Leg.may_be_left in
    let Q = g.B.Leg.may_be_left in
    let old : LegsNow = record { a_stands = g.A.Leg.stands_for c.args.mirror.now.a; b_stands = g.B.Leg.stands_for c.args.mirror.now.b; a_moments = g.A.Leg.moments c.args.mirror.now.a; b_moments = g.B.Leg.moments c.args.mirror.now.b } in
    let now : LegsNow = record { a_stands = g.A.Leg.stands_for c.loop-k.mirror.a; b_stands = g.B.Leg.stands_for c.loop-k.mirror.b; a_moments = g.A.Leg.moments c.loop-k.mirror.a; b_moments = g.B.Leg.moments c.loop-k.mirror.b } in
    let end : LegsNow = record { a_stands = g.A.Leg.stands_for c.read_block.new.mirror.a; b_stands = g.B.Leg.stands_for c.read_block.new.mirror.b; a_moments = g.A.Leg.moments c.read_block.new.mirror.a; b_moments = g.B.Leg.moments c.read_block.new.mirror.b } in
    let given = c.into_vec-out.result.items in
    let out = c.loop-k.out.items in
    let front = take c.args.from given in
    let left = count - (k + 1) in
    let fits : count - k ≡ suc left = omega (arith, c.loop-k-test.true) in
    let start = subst (λ (n : ℕ). AreReading P Q old now first count (first + k) n c.loop-k.at front given out) fits i.reading in
    let e = c.in-Ok.ensures in
    (AreLeft-read_block P Q old now end first count (first + k) left c.loop-k.at front given out start
    (λ a b m legs. record { first = e.first_moments a b m legs; second = e.second_moments a b m legs }) a b m legs).first

pub returns-in-Neither-clause-second_moments : goal.returns-in-Neither-clause-second_moments
returns-in-Neither-clause-second_moments g c a b m legs =
    let i = c.loop-k.invariant in
    let first = c.args.first in
    let count = c.args.count in
    let size = c.block_size-size.result in
    let k = c.loop-k.k in
    let P = g.A.Leg.may_be_left in
    let Q = g.B.Leg.may_be_left in
    let old : LegsNow = record { a_stands = g.A.Leg.stands_for c.args.mirror.now.a; b_stands = g.B.Leg.stands_for c.args.mirror.now.b; a_moments = g.A.Leg.moments c.args.mirror.now.a; b_moments = g.B.Leg.moments c.args.mirror.now.b } in
    let now : LegsNow = record { a_stands = g.A.Leg.stands_for c.loop-k.mirror.a; b_stands = g.B.Leg.stands_for c.loop-k.mirror.b; a_moments = g.A.Leg.moments c.loop-k.mirror.a; b_moments = g.B.Leg.moments c.loop-k.mirror.b } in
    let end : LegsNow = record { a_stands = g.A.Leg.stands_for c.read_block.new.mirror.a; b_stands = g.B.Leg.stands_for c.read_block.new.mirror.b; a_moments = g.A.Leg.moments c.read_block.new.mirror.a; b_moments = g.B.Leg.moments c.read_block.new.mirror.b } in
    let given = c.into_vec-out.result.items in
    let out = c.loop-k.out.items in
    let front = take c.args.from given in
    let left = count - (k + 1) in
    let fits : count - k ≡ suc left = omega (arith, c.loop-k-test.true) in
    let start = subst (λ (n : ℕ). AreReading P Q old now first count (first + k) n c.loop-k.at front given out) fits i.reading in
    let e = c.in-Ok.ensures in
    (AreLeft-read_block P Q old now end first count (first + k) left c.loop-k.at front given out start
    (λ a b m legs. record { first = e.first_moments a b m legs; second = e.second_moments a b m legs }) a b m legs).second

pub returns-in-Err-clause-first_moments : goal.returns-in-Err-clause-first_moments
returns-in-Err-clause-first_moments g c a b m legs =
    let i = c.loop-k.invariant in
    let first = c.args.first in
    let count = c.args.count in
    let size = c.block_size-size.result in
    let k = c.loop-k.k in
    let P = g.A.Leg.may_be_left in
    let Q = g.B.Leg.may_be_left in
    let old : LegsNow = record { a_stands = g.A.Leg.stands_for c.args.mirror.now.a; b_stands = g.B.Leg.stands_for c.args.mirror.now.b; a_moments = g.A.Leg.moments c.args.mirror.now.a; b_moments = g.B.Leg.moments c.args.mirror.now.b } in
    let now : LegsNow = record { a_stands = g.A.Leg.stands_for c.loop-k.mirror.a; b_stands = g.B.Leg.stands_for c.loop-k.mirror.b; a_moments = g.A.Leg.moments c.loop-k.mirror.a; b_moments = g.B.Leg.moments c.loop-k.mirror.b } in
    let end : LegsNow = record { a_stands = g.A.Leg.stands_for c.read_block.new.mirror.a; b_stands = g.B.Leg.stands_for c.read_block.new.mirror.b; a_moments = g.A.Leg.moments c.read_block.new.mirror.a; b_moments = g.B.Leg.moments c.read_block.new.mirror.b } in
    let given = c.into_vec-out.result.items in
    let out = c.loop-k.out.items in
    let front = take c.args.from given in
    let left = count - (k + 1) in
    let fits : count - k ≡ suc left = omega (arith, c.loop-k-test.true) in
    let start = subst (λ (n : ℕ). AreReading P Q old now first count (first + k) n c.loop-k.at front given out) fits i.reading in
    let e = c.in-Err.ensures in
    (AreLeft-read_block P Q old now end first count (first + k) left c.loop-k.at front given out start
    (λ a b m legs. record { first = e.first_moments a b m legs; second = e.second_moments a b m legs }) a b m legs).first

pub returns-in-Err-clause-second_moments : goal.returns-in-Err-clause-second_moments
returns-in-Err-clause-second_moments g c a b m legs =
    let i = c.loop-k.invariant in
    let first = c.args.first in
    let count = c.args.count in
    let size = c.block_size-size.result in
    let k = c.loop-k.k in
    let P = g.A.Leg.may_be_left in
    let Q = g.B.Leg.may_be_left in
    let old : LegsNow = record { a_stands = g.A.Leg.stands_for c.args.mirror.now.a; b_stands = g.B.Leg.stands_for c.args.mirror.now.b; a_moments = g.A.Leg.moments c.args.mirror.now.a; b_moments = g.B.Leg.moments c.args.mirror.now.b } in
    let now : LegsNow = record { a_stands = g.A.Leg.stands_for c.loop-k.mirror.a; b_stands = g.B.Leg.stands_for c.loop-k.mirror.b; a_moments = g.A.Leg.moments c.loop-k.mirror.a; b_moments = g.B.Leg.moments c.loop-k.mirror.b } in
    let end : LegsNow = record { a_stands = g.A.Leg.stands_for c.read_block.new.mirror.a; b_stands = g.B.Leg.stands_for c.read_block.new.mirror.b; a_moments = g.A.Leg.moments c.read_block.new.mirror.a; b_moments = g.B.Leg.moments c.read_block.new.mirror.b } in
    let given = c.into_vec-out.result.items in
    let out = c.loop-k.out.items in
    let front = take c.args.from given in
    let left = count - (k + 1) in
    let fits : count - k ≡ suc left = omega (arith, c.loop-k-test.true) in
    let start = subst (λ (n : ℕ). AreReading P Q old now first count (first + k) n c.loop-k.at front given out) fits i.reading in
    let e = c.in-Err.ensures in
    (AreLeft-read_block P Q old now end first count (first + k) left c.loop-k.at front given out start
    (λ a b m legs. record { first = e.first_moments a b m legs; second = e.second_moments a b m legs }) a b m legs).second

pub returns-clause-first_moments : goal.returns-clause-first_moments
returns-clause-first_moments g c a b m legs =
    let i = c.loop-k.invariant in
    let first = c.args.first in
    let count = c.args.count in
    let size = c.block_size-size.result in
    let k = c.loop-k.k in
    let P = g.A.Leg.may_be_left in
    let Q = g.B.Leg.may_be_left in
    let old : LegsNow = record { a_stands = g.A.Leg.stands_for c.args.mirror.now.a; b_stands = g.B.Leg.stands_for c.args.mirror.now.b; a_moments = g.A.Leg.moments c.args.mirror.now.a; b_moments = g.B.Leg.moments c.args.mirror.now.b } in
    let now : LegsNow = record { a_stands = g.A.Leg.stands_for c.loop-k.mirror.a; b_stands = g.B.Leg.stands_for c.loop-k.mirror.b; a_moments = g.A.Leg.moments c.loop-k.mirror.a; b_moments = g.B.Leg.moments c.loop-k.mirror.b } in
    let given = c.into_vec-out.result.items in
    let out = c.loop-k.out.items in
    let front = take c.args.from given in
    let last : k ≡ count = omega (arith, i.low, c.loop-k-test.false) in
    let none : count - k ≡ 0 = omega (arith, last) in
    let read = subst (λ (n : ℕ). AreReading P Q old now first count (first + k) n c.loop-k.at front given out) none i.reading in
    (AreLeft-read P Q old now first count (first + k) c.loop-k.at front given out read a b m legs).first

pub returns-clause-second_moments : goal.returns-clause-second_moments
returns-clause-second_moments g c a b m legs =
    let i = c.loop-k.invariant in
    let first = c.args.first in
    let count = c.args.count in
    let size = c.block_size-size.result in
    let k = c.loop-k.k in
    let P = g.A.Leg.may_be_left in
    let Q = g.B.Leg.may_be_left in
    let old : LegsNow = record { a_stands = g.A.Leg.stands_for c.args.mirror.now.a; b_stands = g.B.Leg.stands_for c.args.mirror.now.b; a_moments = g.A.Leg.moments c.args.mirror.now.a; b_moments = g.B.Leg.moments c.args.mirror.now.b } in
    let now : LegsNow = record { a_stands = g.A.Leg.stands_for c.loop-k.mirror.a; b_stands = g.B.Leg.stands_for c.loop-k.mirror.b; a_moments = g.A.Leg.moments c.loop-k.mirror.a; b_moments = g.B.Leg.moments c.loop-k.mirror.b } in
    let given = c.into_vec-out.result.items in
    let out = c.loop-k.out.items in
    let front = take c.args.from given in
    let last : k ≡ count = omega (arith, i.low, c.loop-k-test.false) in
    let none : count - k ≡ 0 = omega (arith, last) in
    let read = subst (λ (n : ℕ). AreReading P Q old now first count (first + k) n c.loop-k.at front given out) none i.reading in
    (AreLeft-read P Q old now first count (first + k) c.loop-k.at front given out read a b m legs).second
