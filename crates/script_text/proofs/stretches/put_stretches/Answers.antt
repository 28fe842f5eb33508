-- What is put and what is still to be put are together what there was at first.
use Rattle.std.proofs.Common.{◌≡◌, ◌++◌, ℕ, ◌+◌, List, length, ap, ◌∙◌, sym, arith, append-nil, length-append}
use Rattle.std.proofs.lemmas.Bool.Decides.{nat_tests}
use Rattle.device_model.specs.Stretches.{stretches_text}
use Rattle.device_model.proofs.StretchesLemmas.{stretches_text-empty}
use Rattle.script_text.proofs.stretches.put_stretches.Goals as goal

same_length : (a x b y : List ℕ) → a ++ x ≡ b ++ y → length a + length x ≡ length b + length y
same_length a x b y same = sym (length-append a x) ∙ ap length same ∙ length-append b y

all_put : (put rest before bytes : List ℕ) → put ++ stretches_text rest ≡ before ++ stretches_text bytes → length rest ≡ 0 → put ≡ before ++ stretches_text bytes
all_put put rest before bytes same none =
    sym (append-nil put) ∙ ap (λ (text : List ℕ). put ++ text) (sym (stretches_text-empty rest none)) ∙ same

pub loop-rest-preserved : goal.loop-rest-preserved
loop-rest-preserved c =
    let text = c.put_front-rest.new.text.items in
    let kept = same_length text (stretches_text c.put_front-rest.result.now) c.loop-rest.text.items (stretches_text c.loop-rest.rest.now) c.put_front-rest.ensures.written in
    record {
      room = omega (arith, kept);
      written = c.put_front-rest.ensures.written ∙ c.loop-rest.invariant.written;
      capacity = omega arith;
    }

pub returns-clause-written : goal.returns-clause-written
returns-clause-written c =
    all_put c.loop-rest.text.items c.loop-rest.rest.now c.args.text.now.items c.args.bytes.now c.loop-rest.invariant.written (grind (arith, nat_tests))

pub returns-clause-len : goal.returns-clause-len
returns-clause-len c =
    let all = all_put c.loop-rest.text.items c.loop-rest.rest.now c.args.text.now.items c.args.bytes.now c.loop-rest.invariant.written (grind (arith, nat_tests)) in
    let long = ap length all ∙ length-append c.args.text.now.items (stretches_text c.args.bytes.now) in
    omega (arith, long)
