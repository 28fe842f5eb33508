use Rattle.std.proofs.Common.{◌≡◌, ℕ, ◌-◌, ◌+◌, ◌≤◌, List, [], ◌∷◌, length, get_or, sym, ◌∙◌, ap, arith}
use Rattle.std.specs.Char.{IsAsciiDigit}
use Rattle.std.specs.Fmt.{decimal}
use Rattle.std.proofs.lemmas.Fmt.{decimal_digit}
use Rattle.script_text.proofs.values.read_digit.Goals as goal

-- A byte that is a digit is the decimal of its value.
one_digit : (text : List ℕ) → length text ≡ 1 → 48 ≤ get_or text 0 0 → get_or text 0 0 ≤ 57 → text ≡ decimal (get_or text 0 0 - 48)
one_digit [] one low high = absurd (omega (arith, one))
one_digit (digit ∷ []) one low high =
    let value : digit ≡ 48 + (digit - 48) = omega (arith, low) in
    ap (λ (d : ℕ). d ∷ []) value ∙ sym (decimal_digit (digit - 48) (omega (arith, low, high)))
one_digit (digit ∷ next ∷ rest) one low high = absurd (omega (arith, one))

pub returns : goal.returns
returns c =
    let digit : IsAsciiDigit (get_or c.args.text.now 0 0) = c.if-not-is_ascii_digit.ensures.cases in
    one_digit c.args.text.now c.if-text-ne1.false (omega (arith, digit)) (omega (arith, digit)) ∙ ap decimal (sym c.from.ensures)
