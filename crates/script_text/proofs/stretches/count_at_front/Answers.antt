-- Eight more bytes are counted.
use Rattle.std.proofs.Common.{◌≡◌, ℕ, ◌+◌, ◌==◌, ◌++◌, List, length-drop, take, drop, replicate, refl, ap, sym, ◌∙◌, arith, rules}
use Rattle.std.specs.List.{prefix_len}
use Rattle.std.proofs.lemmas.Bool.{eq-eqb}
use Rattle.std.proofs.lemmas.List.{take-append-drop, take_rest, length-replicate}
use Rattle.std.proofs.lemmas.List.Folds.{prefix_len-append, prefix_len-replicate}
use Rattle.script_text.proofs.stretches.count_at_front.Goals as goal

eight_at_front : (byte : ℕ) (ys : List ℕ) → prefix_len (λ x. x == byte) (replicate 8 byte ++ ys) ≡ 8 + prefix_len (λ x. x == byte) ys
eight_at_front byte ys =
    let all = prefix_len-replicate (λ x. x == byte) 8 byte (eq-eqb byte byte refl) in
    let size = length-replicate 8 byte in
    prefix_len-append (λ x. x == byte) (replicate 8 byte) ys ∙ rw (all, size)

eight_more : (bytes : List ℕ) (byte : ℕ) → take 8 bytes ≡ replicate 8 byte → prefix_len (λ x. x == byte) bytes ≡ 8 + prefix_len (λ x. x == byte) (drop 8 bytes)
eight_more bytes byte same =
    ap (prefix_len (λ x. x == byte)) (sym (take-append-drop 8 bytes))
    ∙ ap (λ (xs : List ℕ). prefix_len (λ x. x == byte) (xs ++ drop 8 bytes)) same
    ∙ eight_at_front byte (drop 8 bytes)

pub loop-rest-preserved : goal.loop-rest-preserved
loop-rest-preserved c =
    let rest = c.loop-rest.rest.now in
    let more = eight_more rest c.args.byte (c.begins_with_eight.ensures.same c.loop-rest-test.true) in
    let long = c.begins_with_eight.ensures.long c.loop-rest-test.true in
    record {
      shorter = search rules;
      count = rw (take_rest rest 8) (omega (arith, more, long, length-drop 8 rest, c.loop-rest.invariant.count));
    }
