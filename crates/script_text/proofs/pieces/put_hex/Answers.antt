-- What is put and what is still to be put are together what there was at first.
use Rattle.std.proofs.Common.{◌≡◌, ◌++◌, ◌+◌, ◌≤◌, ◌<◌, ℕ, List, [], ◌∷◌, length, drop, get_or, sym, ◌∙◌, ap, arith, add-one, append_assoc, append-nil, drop-cons, refl}
use Rattle.std.proofs.Math.ListN.{drop_of_length-le}
use Rattle.hex.specs.Hex.{encode_with, encode_lower}
use Rattle.script_text.proofs.pieces.put_hex.Goals as goal

encode_more : (bytes : List ℕ) (i : ℕ) → i < length bytes → encode_lower (drop i bytes) ≡ encode_lower (get_or bytes i 0 ∷ []) ++ encode_lower (drop (i + 1) bytes)
unfolding encode_with
encode_more bytes i within = rw (add-one, drop-cons bytes i 0 within) refl

pub loop-byte-preserved : goal.loop-byte-preserved
loop-byte-preserved c =
    let bytes = c.args.bytes.now in
    let i = c.loop-byte.byte-index in
    let within : i < length bytes = omega arith in
    let more = encode_more bytes i within in
    record {
      written =
          ap (λ (text : List ℕ). text ++ encode_lower (drop (i + 1) bytes)) c.put_byte.ensures.written
          ∙ append_assoc c.loop-byte.text.items (encode_lower (get_or bytes i 0 ∷ [])) (encode_lower (drop (i + 1) bytes))
          ∙ ap (λ (text : List ℕ). c.loop-byte.text.items ++ text) (sym more) ∙ c.loop-byte.invariant.written;
      len = omega (arith, c.put_byte.ensures.len);
      capacity = omega (arith, c.put_byte.ensures.capacity);
    }

encode_none : (text : List ℕ) (bytes : List ℕ) (i : ℕ) → length bytes ≤ i → text ++ encode_lower (drop i bytes) ≡ text
unfolding encode_with
encode_none text bytes i past = ap (λ (rest : List ℕ). text ++ encode_lower rest) (drop_of_length-le bytes past) ∙ append-nil text

pub returns-clause-written : goal.returns-clause-written
returns-clause-written c =
    sym (encode_none c.loop-byte.text.items c.args.bytes.now c.loop-byte.byte-index (omega arith)) ∙ c.loop-byte.invariant.written
