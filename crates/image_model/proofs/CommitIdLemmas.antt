-- Commit ids tell their place and their number.
use Rattle.std.proofs.Common.{◌≡◌, ◌≢◌, inl, inr, ℕ, ◌+◌, ◌*◌, ◌/◌, ◌^◌, ◌<◌, ◌==◌, bit_xor, refl, sym, ◌∙◌, ap, arith, Some, None}
use Rattle.std.proofs.lemmas.Bool.{true≢false, eqb-true, eq-eqb, ne_eqb}
use Rattle.std.proofs.lemmas.Nat.{xor_shr, xor_lt, same_from_place}
use lib.Bits.{xor_assoc, xor_self, xor_zero_l, xor_zero_r, xor_shifted}
use Rattle.image_model.specs.CommitId.{pattern_of, commit_id, number_of, CommitNumberLaw, CommitIdsDiffer}
use Rattle.image_model.proofs.NumberLemmas.{four_numbers, first_of_four, first_of_four_tells, first_of_four_none, cases_option}

xor_back : (p x : ℕ) → bit_xor p (bit_xor p x) ≡ x
xor_back p x = sym (xor_assoc p p x) ∙ ap (λ a. bit_xor a x) (xor_self p) ∙ xor_zero_l x

xor_cancel : (p x y : ℕ) → bit_xor p x ≡ bit_xor p y → x ≡ y
xor_cancel p x y same = sym (xor_back p x) ∙ ap (λ a. bit_xor p a) same ∙ xor_back p y

-- A commit id is the pattern, turned over by the place as one number.
pub commit_id-place : (section sector number : ℕ) → sector < 2 ^ 32
    → commit_id section sector number ≡ bit_xor (pattern_of number) (section * 2 ^ 32 + sector)
commit_id-place section sector number low =
    xor_assoc (pattern_of number) (section * 2 ^ 32) sector ∙ ap (λ a. bit_xor (pattern_of number) a) (xor_shifted section 32 sector low)

pattern_of-top : (number : ℕ) → number < 4 → pattern_of number / 2 ^ 52 ≡ 0x111 * (number + 1)
pattern_of-top = four_numbers (λ number. pattern_of number / 2 ^ 52 ≡ 0x111 * (number + 1)) refl refl refl refl

-- The place leaves the highest bits of the pattern alone.
commit_id-top : (section sector number : ℕ) → section < 2 ^ 20 → sector < 2 ^ 20 → number < 4 → commit_id section sector number / 2 ^ 52 ≡ 0x111 * (number + 1)
commit_id-top section sector number low_section low_sector low =
    let above : (section * 2 ^ 32 + sector) / 2 ^ 52 ≡ 0 = omega arith in
    ap (λ a. a / 2 ^ 52) (commit_id-place section sector number (omega arith))
    ∙ xor_shr (pattern_of number) (section * 2 ^ 32 + sector) 52
    ∙ ap (λ a. bit_xor (pattern_of number / 2 ^ 52) a) above
    ∙ xor_zero_r (pattern_of number / 2 ^ 52)
    ∙ pattern_of-top number low

-- Ids of different places or numbers differ.
pub commit_ids_differ : CommitIdsDiffer
commit_ids_differ i j k other_i other_j other_k low_i low_j low_k low_other_i low_other_j low_other_k same =
    let number : k ≡ other_k = let tops = sym (commit_id-top i j k low_i low_j low_k) ∙ ap (λ a. a / 2 ^ 52) same ∙ commit_id-top other_i other_j other_k low_other_i low_other_j low_other_k in omega arith in
    let places : i * 2 ^ 32 + j ≡ other_i * 2 ^ 32 + other_j = xor_cancel (pattern_of k) _ _
    (sym (commit_id-place i j k (omega arith)) ∙ same ∙ commit_id-place other_i other_j other_k (omega arith) ∙ ap (λ a. bit_xor (pattern_of a) (other_i * 2 ^ 32 + other_j)) (sym number)) in
    let parts = same_from_place i j other_i other_j (2 ^ 32) (omega arith) (omega arith) places in
    (parts.0, parts.1, number)

-- A commit id is not 0, so no zero sector bears a number.
pub commit_id-some : (section sector number : ℕ) → section < 2 ^ 20 → sector < 2 ^ 20 → number < 4 → commit_id section sector number ≢ 0
commit_id-some section sector number low_section low_sector low none =
    let top = sym (commit_id-top section sector number low_section low_sector low) ∙ ap (λ a. a / 2 ^ 52) none in omega arith

pattern_of-low : (number : ℕ) → number < 4 → pattern_of number < 2 ^ 64
pattern_of-low number low = omega arith

-- A commit id fits 8 bytes.
pub commit_id-low : (section sector number : ℕ) → section < 2 ^ 20 → sector < 2 ^ 20 → number < 4 → commit_id section sector number < 2 ^ 64
commit_id-low section sector number low_section low_sector low =
    xor_lt 64 (bit_xor (pattern_of number) (section * 2 ^ 32)) sector (xor_lt 64 (pattern_of number) (section * 2 ^ 32) (pattern_of-low number low) (omega arith)) (omega arith)

-- ---- for callers

-- The number that an id bears is a commit number, and the id is that number's.
pub number_of_tells : (section sector id number : ℕ) → number_of section sector id ≡ Some number → (number < 4) × (commit_id section sector number ≡ id)
unfolding number_of
number_of_tells i j id k e =
    let found = first_of_four_tells (λ n. commit_id i j n == id) k e in
    (found.0, eqb-true (commit_id i j k) id found.1)

-- An id that bears no number is none of the place's ids.
pub number_of_none : (section sector id : ℕ) → number_of section sector id ≡ None → (number : ℕ) → number < 4 → commit_id section sector number ≢ id
unfolding number_of
number_of_none i j id e k low same =
    true≢false (sym (eq-eqb (commit_id i j k) id same) ∙ first_of_four_none (λ n. commit_id i j n == id) e k low)

-- An id bears its own number, and no other.
pub number_of-commit_id : (section sector number : ℕ) → section < 2 ^ 20 → sector < 2 ^ 20 → number < 4 → number_of section sector (commit_id section sector number) ≡ Some number
unfolding number_of
number_of-commit_id i j k low_i low_j low =
    first_of_four (λ n. commit_id i j n == commit_id i j k) k low (eq-eqb (commit_id i j k) (commit_id i j k) refl)
    (λ n low_n other. ne_eqb (commit_id i j n) (commit_id i j k) (λ same. other (commit_ids_differ i j n i j k low_i low_j low_n low_i low_j low same).2))

-- Eight zero bytes bear no number.
pub number_of-zero : (section sector : ℕ) → section < 2 ^ 20 → sector < 2 ^ 20 → number_of section sector 0 ≡ None
number_of-zero i j low_i low_j = elim (cases_option (number_of i j 0)) [
  | inl none ↦ none
  | inr some ↦ let found = number_of_tells i j 0 some.0 some.1 in absurd (commit_id-some i j some.0 low_i low_j found.0 found.1)
]

-- The number of an id is the one whose id it is.
pub commit_number_law : CommitNumberLaw
commit_number_law i j id k low_i low_j = (
  number_of_tells i j id k,
  λ is. ap (number_of i j) (sym is.1) ∙ number_of-commit_id i j k low_i low_j is.0,
)
