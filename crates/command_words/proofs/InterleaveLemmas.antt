-- The power of two that the data of an area are.
use Rattle.std.proofs.Common.{◌≡◌, inl, inr, ℕ, zero, suc, ◌*◌, ◌/◌, ◌%◌, ◌^◌, ◌<◌, ◌≤◌, sym, ◌∙◌, ap, arith}
use Rattle.std.specs.Prelude.{count_ones}
use Rattle.std.specs.Int.{bit_at, w64}
use Rattle.std.proofs.lemmas.Bool.{and_parts, cases_eq, cases_lt, eqb-true, leb-true}
use Rattle.std.proofs.lemmas.Nat.{ones_le_self, zero_from_ones}
use Rattle.std.proofs.lemmas.Nat.Bits.{bit_at-pow_other, bit_at-trailing_zeros}
use lib.Count.{ones_step}
use lib.Pow.{pow_mono}
use native.Mathlib.Nat.{pow-suc}
use Rattle.command_words.specs.Numbers.{IsInterleave, log2_of}

-- A number with one bit is 2 to some power.
one_bit : (d n : ℕ) → n ≤ d → count_ones n ≡ 1 → (k : ℕ) × (n ≡ 2 ^ k)
one_bit zero n most one = absurd (omega (arith, ones_le_self n, most, one))
one_bit (suc d) n most one = elim (cases_eq (n % 2) 1) [
  | inl odd ↦
      let half : n / 2 ≡ 0 = zero_from_ones (n / 2) (omega (arith, ones_step n, odd, one)) in
      (0, omega (arith, half, odd))
  | inr even ↦
      let half = one_bit d (n / 2) (omega (arith, most, even, ones_le_self n, one))
      (omega (arith, ones_step n, even, one)) in
      let twice : n ≡ n / 2 * 2 = omega (arith, even) in
      (suc half.0, twice ∙ ap (λ (x : ℕ). x * 2) half.1 ∙ sym (pow-suc 2 half.0))
]

parts : (n : ℕ) → IsInterleave n → (8 ≤ n) × (n ≤ 2 ^ 31) × (count_ones n ≡ 1)
parts n is =
    let all = and_parts _ _ is in
    let ends = and_parts _ _ all.0 in
    (leb-true 8 n ends.0, leb-true n (2 ^ 31) ends.1, eqb-true (count_ones n) 1 all.1)

-- The place of the one bit of 2 to some power is that power.
place_of : (k n : ℕ) → n ≡ 2 ^ k → 0 < n → n < 2 ^ 64 → log2_of n ≡ k
place_of k n is some small = elim (cases_eq (log2_of n) k) [
  | inl same ↦ same
  | inr other ↦
      let at = bit_at-trailing_zeros w64 n some small in
      let none : bit_at n (log2_of n) ≡ 0 = ap (λ (m : ℕ). bit_at m (log2_of n)) is ∙ bit_at-pow_other k (log2_of n) other in
      absurd (omega (arith, at.1, none))
]

pub power_of : (n : ℕ) → IsInterleave n → 2 ^ log2_of n ≡ n
power_of n is =
    let p = parts n is in
    let k = one_bit n n (omega arith) p.2 in
    ap (λ (x : ℕ). 2 ^ x) (place_of k.0 n k.1 (omega (arith, p.0)) (omega (arith, p.1))) ∙ sym k.1

-- It is 3 to 31.
pub in_range : (n : ℕ) → IsInterleave n → (3 ≤ log2_of n) × (log2_of n ≤ 31)
in_range n is =
    let p = parts n is in
    let power = power_of n is in (
      elim (cases_lt (log2_of n) 3) [
        | inl low ↦ absurd (omega (arith, p.0, power, pow_mono {i = log2_of n} {j = 2} (omega (arith, low))))
        | inr high ↦ high
      ],
      elim (cases_lt 31 (log2_of n)) [
        | inl high ↦ absurd (omega (arith, p.1, power, pow_mono {i = 32} {j = log2_of n} high))
        | inr low ↦ low
      ],
    )
