-- What the tests of the numbers below a bound say.
use Rattle.std.proofs.Common.{◌≡◌, ◌⊎◌, inl, inr, ℕ, zero, suc, Bool, true, false, ◌-◌, ◌<◌, ◌≤◌, refl, sym, ◌∙◌, ap, subst, arith}
use Rattle.std.proofs.lemmas.Bool.{cases_Bool, cases_eq, true≢false, or_left, or_right, or_cases, or_from, and_from, and_parts, and_cases, cases_lt}
use Rattle.image_model.specs.Below.{any_below, all_below, past_last, front_length}

-- One that passes is some.
pub any_at : (n : ℕ) (p : ℕ → Bool) (i : ℕ) → i < n → p i ≡ true → any_below n p ≡ true
any_at zero p i lt e = absurd (omega arith)
any_at (suc n) p i lt e = elim (cases_eq i n) [
  | inl same ↦ or_right (any_below n p) (p n) (subst (λ x. p x ≡ true) same e)
  | inr other ↦ or_left (any_below n p) (p n) (any_at n p i (omega arith) e)
]

-- Where none passes, not some do.
pub any_none : (n : ℕ) (p : ℕ → Bool) → ((i : ℕ) → i < n → p i ≡ false) → any_below n p ≡ false
any_none zero p h = refl
any_none (suc n) p h = or_from (any_below n p) (p n) (any_none n p (λ i lt. h i (omega arith))) (h n (omega arith))

-- Some that pass have one.
pub any_found : (n : ℕ) (p : ℕ → Bool) → any_below n p ≡ true → (i : ℕ) × (i < n) × (p i ≡ true)
any_found zero p e = absurd (true≢false (sym e))
any_found (suc n) p e = elim (or_cases (any_below n p) (p n) e) [
  | inl before ↦ let f = any_found n p before in (f.0, omega arith, f.2)
  | inr here ↦ (n, omega arith, here)
]

-- Each that passes makes all pass.
pub all_from : (n : ℕ) (p : ℕ → Bool) → ((i : ℕ) → i < n → p i ≡ true) → all_below n p ≡ true
all_from zero p h = refl
all_from (suc n) p h = and_from (all_below n p) (p n) (all_from n p (λ i lt. h i (omega arith))) (h n (omega arith))

-- Where all pass, each does.
pub all_at : (n : ℕ) (p : ℕ → Bool) → all_below n p ≡ true → (i : ℕ) → i < n → p i ≡ true
all_at zero p e i lt = absurd (omega arith)
all_at (suc n) p e i lt = let parts = and_parts (all_below n p) (p n) e in elim (cases_eq i n) [
  | inl same ↦ subst (λ x. p x ≡ true) (sym same) parts.1
  | inr other ↦ all_at n p parts.0 i (omega arith)
]

-- What is past the last lies within the bound.
pub last_le : (n : ℕ) (p : ℕ → Bool) → past_last n p ≤ n
last_le zero p = omega arith
last_le (suc n) p = elim (cases_Bool (p n)) [
  | inl passes ↦ rw passes (omega arith)
  | inr fails ↦ rw fails (omega (arith, last_le n p))
]

-- What passes lies below it.
pub last_above : (n : ℕ) (p : ℕ → Bool) (i : ℕ) → i < n → p i ≡ true → i < past_last n p
last_above zero p i lt e = absurd (omega arith)
last_above (suc n) p i lt e = elim (cases_Bool (p n)) [
  | inl passes ↦ rw passes lt
  | inr fails ↦ elim (cases_eq i n) [
    | inl same ↦ absurd (true≢false (sym e ∙ ap p same ∙ fails))
    | inr other ↦ rw fails (last_above n p i (omega arith) e)
  ]
]

-- It lies at most at m where nothing from m on passes.
pub last_below : (n : ℕ) (p : ℕ → Bool) (m : ℕ) → ((i : ℕ) → m ≤ i → i < n → p i ≡ false) → past_last n p ≤ m
last_below zero p m h = omega arith
last_below (suc n) p m h = elim (cases_Bool (p n)) [
  | inl passes ↦ elim (cases_lt n m) [
    | inl low ↦ rw passes (omega arith)
    | inr high ↦ absurd (true≢false (sym passes ∙ h n high (omega arith)))
  ]
  | inr fails ↦ rw fails (last_below n p m (λ i low lt. h i low (omega arith)))
]

-- The front is no longer than the bound.
pub front_le : (n : ℕ) (p : ℕ → Bool) → front_length n p ≤ n
front_le zero p = omega arith
front_le (suc n) p = elim (cases_Bool (all_below (suc n) p)) [
  | inl passes ↦ rw passes (omega arith)
  | inr fails ↦ rw fails (omega (arith, front_le n p))
]

-- Each of the front passes.
pub front_passes : (n : ℕ) (p : ℕ → Bool) (i : ℕ) → i < front_length n p → p i ≡ true
front_passes zero p i lt = absurd (omega arith)
front_passes (suc n) p i lt = elim (cases_Bool (all_below (suc n) p)) [
  | inl passes ↦ all_at (suc n) p passes i (rw passes at lt)
  | inr fails ↦ front_passes n p i (rw fails at lt)
]

-- The front reaches m where everything below m passes.
pub front_above : (n : ℕ) (p : ℕ → Bool) (m : ℕ) → m ≤ n → ((i : ℕ) → i < m → p i ≡ true) → m ≤ front_length n p
front_above zero p m le h = omega arith
front_above (suc n) p m le h = elim (cases_Bool (all_below (suc n) p)) [
  | inl passes ↦ rw passes le
  | inr fails ↦ elim (cases_eq m (suc n)) [
    | inl same ↦ absurd (true≢false (sym (all_from (suc n) p (λ i lt. h i (omega arith))) ∙ fails))
    | inr other ↦ rw fails (front_above n p m (omega arith) h)
  ]
]

-- It ends at the latest where one fails.
pub front_below : (n : ℕ) (p : ℕ → Bool) (m : ℕ) → p m ≡ false → front_length n p ≤ m
front_below n p m e = elim (cases_lt m (front_length n p)) [
  | inl low ↦ absurd (true≢false (sym (front_passes n p m low) ∙ e))
  | inr high ↦ high
]

-- The one before what is past the last passes.
pub last_passes : (n : ℕ) (p : ℕ → Bool) → 0 < past_last n p → p (past_last n p - 1) ≡ true
last_passes zero p lt = absurd (omega arith)
last_passes (suc n) p lt = elim (cases_Bool (p n)) [
  | inl passes ↦ let here : suc n - 1 ≡ n = omega arith in rw (passes, here) passes
  | inr fails ↦ rw fails (last_passes n p (rw fails at lt))
]

-- Where not all pass, one fails.
pub all_missed : (n : ℕ) (p : ℕ → Bool) → all_below n p ≡ false → (i : ℕ) × (i < n) × (p i ≡ false)
all_missed zero p e = absurd (true≢false e)
all_missed (suc n) p e = elim (and_cases (all_below n p) (p n) e) [
  | inl before ↦ let f = all_missed n p before in (f.0, omega arith, f.2)
  | inr here ↦ (n, omega arith, here)
]

-- The one that the front ends before fails.
pub front_fails : (n : ℕ) (p : ℕ → Bool) → front_length n p < n → p (front_length n p) ≡ false
front_fails n p lt = elim (cases_Bool (p (front_length n p))) [
  | inl passes ↦ absurd (let more = front_above n p (suc (front_length n p)) (omega arith) (λ i low. elim (cases_eq i (front_length n p)) [
    | inl same ↦ subst (λ x. p x ≡ true) (sym same) passes
    | inr other ↦ front_passes n p i (omega arith)
  ]) in omega arith)
  | inr fails ↦ fails
]

-- Either P of all below the bound, or Q of some.
pub all_or_some : (n : ℕ) (P Q : ℕ → Type 0) → ((i : ℕ) → i < n → P i ⊎ Q i) → ((i : ℕ) → i < n → P i) ⊎ ((i : ℕ) × (i < n) × Q i)
all_or_some zero P Q f = inl (λ i lt. absurd (omega arith))
all_or_some (suc n) P Q f = elim (f n (omega arith)) [
  | inr here ↦ inr (n, omega arith, here)
  | inl holds ↦ elim (all_or_some n P Q (λ i lt. f i (omega arith))) [
    | inr some ↦ inr (some.0, omega (arith, some.1), some.2)
    | inl all ↦ inl (λ i lt. elim (cases_eq i n) [
      | inl same ↦ subst P (sym same) holds
      | inr other ↦ all i (omega arith)
    ])
  ]
]

-- Tests that agree below the bound have some that pass alike.
pub any_same : (n : ℕ) (p r : ℕ → Bool) → ((i : ℕ) → i < n → p i ≡ r i) → any_below n p ≡ any_below n r
any_same zero p r f = refl
any_same (suc n) p r f = rw (any_same n p r (λ i lt. f i (omega arith)), f n (omega arith)) refl

-- They have all that pass alike,
pub all_same : (n : ℕ) (p r : ℕ → Bool) → ((i : ℕ) → i < n → p i ≡ r i) → all_below n p ≡ all_below n r
all_same zero p r f = refl
all_same (suc n) p r f = rw (all_same n p r (λ i lt. f i (omega arith)), f n (omega arith)) refl

-- and the last that passes,
pub last_same : (n : ℕ) (p r : ℕ → Bool) → ((i : ℕ) → i < n → p i ≡ r i) → past_last n p ≡ past_last n r
last_same zero p r f = refl
last_same (suc n) p r f = rw (last_same n p r (λ i lt. f i (omega arith)), f n (omega arith)) refl

-- and the front.
pub front_same : (n : ℕ) (p r : ℕ → Bool) → ((i : ℕ) → i < n → p i ≡ r i) → front_length n p ≡ front_length n r
front_same zero p r f = refl
front_same (suc n) p r f = rw (all_same n p r (λ i lt. f i (omega arith)), f n (omega arith), front_same n p r (λ i lt. f i (omega arith))) refl
