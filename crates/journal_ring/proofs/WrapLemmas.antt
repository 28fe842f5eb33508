-- Where sections lie in a ring.
use Rattle.std.proofs.Common.{◌≡◌, ◌≢◌, inl, inr, ℕ, ◌+◌, ◌-◌, ◌<◌, ◌≤◌, if◌then◌else◌, sym, ◌∙◌, ap, arith}
use Rattle.std.proofs.lemmas.Bool.{cases_lt, lt-ltb, le-ltb}
use Rattle.journal_ring.specs.Sections.{wrap}

pub wrap-below : (n at : ℕ) → at < n → wrap n at ≡ at
wrap-below n at low = ap (λ b. if b then at else at - n) (lt-ltb at n low)

pub wrap-above : (n at : ℕ) → n ≤ at → wrap n at ≡ at - n
wrap-above n at high = ap (λ b. if b then at else at - n) (le-ltb at n high)

pub wrap-inside : (n at : ℕ) → at < n + n → wrap n at < n
wrap-inside n at low = elim (cases_lt at n) [
  | inl below ↦ let e = wrap-below n at below in omega arith
  | inr above ↦ let e = wrap-above n at above in omega arith
]

-- Different places of one lap are different sections.
pub wrap-differs : (n first k j : ℕ) → first < n → k < n → j < n → k ≢ j → wrap n (first + k) ≢ wrap n (first + j)
wrap-differs n first k j low low_k low_j other same = elim (cases_lt (first + k) n) [
  | inl below ↦ elim (cases_lt (first + j) n) [
    | inl below_j ↦ let e = wrap-below n (first + k) below in let f = wrap-below n (first + j) below_j in other (omega arith)
    | inr above_j ↦ let e = wrap-below n (first + k) below in let f = wrap-above n (first + j) above_j in absurd (omega arith)
  ]
  | inr above ↦ elim (cases_lt (first + j) n) [
    | inl below_j ↦ let e = wrap-above n (first + k) above in let f = wrap-below n (first + j) below_j in absurd (omega arith)
    | inr above_j ↦ let e = wrap-above n (first + k) above in let f = wrap-above n (first + j) above_j in other (omega arith)
  ]
]

-- A way on from a section that was reached.
pub wrap-wrap : (n at k : ℕ) → at < n + n → at + k < n + n → wrap n (wrap n at + k) ≡ wrap n (at + k)
wrap-wrap n at k low fits = elim (cases_lt at n) [
  | inl below ↦ ap (λ (x : ℕ). wrap n (x + k)) (wrap-below n at below)
  | inr above ↦
      let e = wrap-above n at above in
      let one = wrap-below n (at - n + k) (omega arith) in
      let other = wrap-above n (at + k) (omega arith) in
      ap (λ (x : ℕ). wrap n (x + k)) e ∙ one ∙ (let f : at - n + k ≡ at + k - n = omega arith in f) ∙ sym other
]
