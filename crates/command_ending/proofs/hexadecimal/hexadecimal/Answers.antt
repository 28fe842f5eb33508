use Rattle.std.proofs.Common.{rules, ◌≡◌, ◌<◌, ◌≤◌, ℕ, ◌∙◌, refl, sym, ap, subst, arith, ◌∷◌, false, ◌+◌, ◌-◌, ◌/◌, ◌^◌, drop, take, length, slice_set}
use Rattle.std.proofs.lemmas.Grind.{drop-set_at}
use Rattle.std.proofs.lemmas.List.{drop_all, length-drop, length-set, take_all}
use Rattle.std.specs.Fmt.{digits_onto}
use Rattle.command_ending.proofs.HexadecimalLemmas.{none_written, first_written, below, rest_after}
use Rattle.command_ending.proofs.hexadecimal.hexadecimal.Goals as goal

pub loop-left-init : goal.loop-left-init
loop-left-init c = record {
  within = search rules;
  left = search rules;
  length_ = search rules;
  rest = none_written c.args.n _ (drop_all 8 c.args.buffer.now (omega (arith, c.told-buffer)));
}

pub loop-left-preserved : goal.loop-left-preserved
loop-left-preserved c =
    let l = c.loop-left in
    let big : 16 ≤ l.left = omega (arith, c.loop-left-test.true) in
    let some = below l.left l.at big l.invariant.left in
    record {
      within = search rules;
      left = subst (λ (x : ℕ). l.left / 16 < 16 ^ x) {x = l.at} {y = l.at - 1 + 1}
          (omega (arith, some.0)) some.1;
      length_ = search rules;
      rest = rest_after l.at l.left c.digit.result c.args.n l.buffer
          (omega (arith, l.invariant.within, l.invariant.length_)) big (search rules) some.0 l.invariant.rest;
    }

pub returns : goal.returns
returns c =
    let l = c.loop-left in
    let written = slice_set l.buffer l.at c.digit-2.result in
    let inside : l.at < length l.buffer = omega (arith, l.invariant.within, l.invariant.length_) in
    let here : drop l.at written ≡ digits_onto (57 + l.at) 16 false l.left (drop (l.at + 1) l.buffer) =
    drop-set_at l.buffer l.at l.at c.digit-2.result refl inside
    ∙ ap (λ (x : ℕ). x ∷ drop (l.at + 1) l.buffer) c.digit-2.ensures
    ∙ sym (first_written (57 + l.at) l.left (drop (l.at + 1) l.buffer) (omega arith) c.loop-left-test.false) in
    let all : take (8 - l.at) (drop l.at written) ≡ drop l.at written =
    take_all (8 - l.at) _ (omega (
      arith,
      length-drop l.at written,
      length-set l.buffer l.at c.digit-2.result,
      l.invariant.length_,
    )) in
    all ∙ here ∙ l.invariant.rest
