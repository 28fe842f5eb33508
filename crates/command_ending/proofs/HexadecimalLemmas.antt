-- Digits in base 16, written from the last to the first.
use Rattle.std.proofs.Common.{◌≡◌, ℕ, zero, suc, ◌+◌, ◌-◌, ◌/◌, ◌%◌, ◌<◌, ◌≤◌, ◌^◌, ◌==◌, Bool, true, false, if◌then◌else◌, List, [], ◌∷◌, length, drop, slice_set, refl, sym, ap, ◌∙◌, arith, rules}
use Rattle.std.proofs.lemmas.Grind.{drop-set_at, pow_more}
use Rattle.std.specs.Fmt.{digit_glyph, digits, digits_onto}

-- No digit is written yet.
pub none_written : (n : ℕ) (rest : List ℕ) → rest ≡ [] → digits_onto 64 16 false n rest ≡ digits 16 false n
unfolding digits
none_written n rest none = ap (λ (x : List ℕ). digits_onto 64 16 false n x) none

onto : (k n : ℕ) (acc : List ℕ) (t : Bool) → (n / 16 == 0) ≡ t
    → digits_onto (suc k) 16 false n acc
    ≡ (if t then digit_glyph false (n % 16) ∷ acc
    else digits_onto k 16 false (n / 16) (digit_glyph false (n % 16) ∷ acc))
onto k n acc t is =
    let shorter = digits_onto k 16 false (n / 16) (digit_glyph false (n % 16) ∷ acc) in
    ap (λ (b : Bool). if b then digit_glyph false (n % 16) ∷ acc else shorter) is

-- One more is written,
pub one_more : (k n : ℕ) (acc : List ℕ) → 1 ≤ k → 16 ≤ n
    → digits_onto k 16 false n acc ≡ digits_onto (k - 1) 16 false (n / 16) (digit_glyph false (n % 16) ∷ acc)
one_more zero n acc some big = absurd (omega arith)
one_more (suc k) n acc some big =
    onto k n acc false (search rules)
    ∙ ap (λ (j : ℕ). digits_onto j 16 false (n / 16) (digit_glyph false (n % 16) ∷ acc))
    {x = k} {y = suc k - 1} (omega arith)

-- and the first one.
pub first_written : (k n : ℕ) (acc : List ℕ) → 1 ≤ k → n < 16
    → digits_onto k 16 false n acc ≡ digit_glyph false n ∷ acc
first_written zero n acc some small = absurd (omega arith)
first_written (suc k) n acc some small =
    onto k n acc true (search rules) ∙ ap (λ (x : ℕ). digit_glyph false x ∷ acc) (search rules)

pub below : (left at : ℕ) → 16 ≤ left → left < 16 ^ (at + 1) → (1 ≤ at) × (left / 16 < 16 ^ at)
below left zero big high = absurd (omega arith)
below left (suc at) big high = (omega arith, omega (arith, high, pow_more 16 (suc at)))

-- The digits that are left and those that are written, once one more is.
pub rest_after : (at left byte n : ℕ) (buffer : List ℕ)
    → at < length buffer → 16 ≤ left → byte ≡ digit_glyph false (left % 16) → 1 ≤ at
    → digits_onto (57 + at) 16 false left (drop (at + 1) buffer) ≡ digits 16 false n
    → digits_onto (57 + (at - 1)) 16 false (left / 16) (drop (at - 1 + 1) (slice_set buffer at byte))
    ≡ digits 16 false n
rest_after at left byte n buffer inside big is some rest =
    let written = slice_set buffer at byte in
    let here : drop (at - 1 + 1) written ≡ digit_glyph false (left % 16) ∷ drop (at + 1) buffer =
    ap (λ (x : ℕ). drop x written) {x = at - 1 + 1} {y = at} (omega (arith, some))
    ∙ drop-set_at buffer at at byte refl inside
    ∙ ap (λ (x : ℕ). x ∷ drop (at + 1) buffer) is in
    let count : 57 + (at - 1) ≡ 57 + at - 1 = omega (arith, some) in
    ap (λ (k : ℕ). digits_onto k 16 false (left / 16) (drop (at - 1 + 1) written)) count
    ∙ ap (λ (x : List ℕ). digits_onto (57 + at - 1) 16 false (left / 16) x) here
    ∙ sym (one_more (57 + at) left (drop (at + 1) buffer) (omega arith) big) ∙ rest
