use Rattle.std.proofs.Common.{◌≡◌, ℕ, List, [], ◌∷◌, length, get_or, sym, ◌∙◌, ap, arith, refl}
use Rattle.std.proofs.lemmas.Bool.{not-true, not-false, false≢true}
use Rattle.std.proofs.lemmas.Slice.Eq.{bytes_eq-Decides}
use Rattle.hex.specs.Hex.{encode_lower}
use Rattle.script_text.proofs.ValueLemmas.{decode_byte}
use Rattle.script_text.proofs.values.read_byte.Goals as goal

one_byte : (bytes : List ℕ) → length bytes ≡ 1 → bytes ≡ get_or bytes 0 0 ∷ []
one_byte [] one = absurd (omega arith)
one_byte (byte ∷ []) one = refl
one_byte (byte ∷ next ∷ rest) one = absurd (omega arith)

pub returns-then-is_err-clause-none : goal.returns-then-is_err-clause-none
returns-then-is_err-clause-none c (byte, fits, is) =
    let read = rw (decode_byte c.args.text.now byte fits is) at c.decode_to_slice.ensures.value in
    false≢true (sym (rw read.0 at c.is_err.ensures.value) ∙ c.if-is_err.true)

pub returns-then-ne-clause-none : goal.returns-then-ne-clause-none
returns-then-ne-clause-none c (byte, fits, is) =
    let read = rw (decode_byte c.args.text.now byte fits is) at c.decode_to_slice.ensures.value in
    let whole = sym (one_byte c.decode_to_slice.new.out (omega arith)) ∙ read.1 in
    let same = c.as_slice.ensures ∙ c.digits_of.ensures ∙ ap encode_lower whole ∙ sym is in
    let equal = (bytes_eq-Decides c.as_slice.result.now c.args.text.now).1 same in
    false≢true (sym (not-true _ (sym c.if-ne.ensures)) ∙ equal)

pub returns-clause-some : goal.returns-clause-some
returns-clause-some c =
    let same = (bytes_eq-Decides c.as_slice.result.now c.args.text.now).0 (not-false _ (sym c.if-ne.ensures)) in
    sym same ∙ c.as_slice.ensures ∙ c.digits_of.ensures
