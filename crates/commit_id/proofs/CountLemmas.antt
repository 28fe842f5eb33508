-- Counts of the numbers below a bound that pass, and what they tell of the tests below it.
use Rattle.std.proofs.Common.{◌≡◌, inl, inr, ℕ, zero, suc, ◌+◌, ◌<◌, ◌≤◌, Bool, true, false, ◌&&◌, ◌||◌, ◌==◌, nat_lt, refl, sym, ◌∙◌, ap, arith, add-one}
use Rattle.std.proofs.lemmas.Bool.{cases_Bool, cases_eq, eq-eqb, ne_eqb, lt-ltb, or_right, and_right}
use Rattle.image_model.specs.Below.{any_below, all_below, past_last, front_length}
use Rattle.image_model.proofs.BelowLemmas.{front_le}
use Rattle.commit_id.specs.Tally.{count_below}

or_false : (x : Bool) → (x || false) ≡ x
or_false true = refl
or_false false = refl

and_true : (x : Bool) → (x && true) ≡ x
and_true true = refl
and_true false = refl

pub and_swap : (x y : Bool) → (x && y) ≡ (y && x)
and_swap true true = refl
and_swap true false = refl
and_swap false true = refl
and_swap false false = refl

eqb-suc : (a b : ℕ) → (suc a == suc b) ≡ (a == b)
eqb-suc a b = elim (cases_eq a b) [
  | inl same ↦ eq-eqb (suc a) (suc b) (omega arith) ∙ sym (eq-eqb a b same)
  | inr other ↦ ne_eqb (suc a) (suc b) (λ e. other (omega arith)) ∙ sym (ne_eqb a b other)
]

-- ---- one more number

-- One more that passes counts,
pub count_below-passes : (n : ℕ) (p : ℕ → Bool) → p n ≡ true → count_below (n + 1) p ≡ count_below n p + 1
count_below-passes n p passes = rw (add-one n, passes) (sym (add-one (count_below n p)))

-- and one that fails does not.
pub count_below-fails : (n : ℕ) (p : ℕ → Bool) → p n ≡ false → count_below (n + 1) p ≡ count_below n p
count_below-fails n p fails = rw (add-one n, fails) refl

-- ---- the count and the tests

pub count_below-le : (n : ℕ) (p : ℕ → Bool) → count_below n p ≤ n
count_below-le zero p = omega arith
count_below-le (suc n) p = elim (cases_Bool (p n)) [
  | inl passes ↦ rw passes (omega (arith, count_below-le n p))
  | inr fails ↦ rw fails (omega (arith, count_below-le n p))
]

-- Some pass where the count is not 0,
pub any_count : (n : ℕ) (p : ℕ → Bool) → any_below n p ≡ nat_lt 0 (count_below n p)
any_count zero p = refl
any_count (suc n) p = elim (cases_Bool (p n)) [
  | inl passes ↦ rw (passes, or_right (any_below n p) true refl) (sym (lt-ltb 0 (suc (count_below n p)) (omega arith)))
  | inr fails ↦ rw (fails, or_false (any_below n p)) (any_count n p)
]

-- and all where it is the bound.
pub all_count : (n : ℕ) (p : ℕ → Bool) → all_below n p ≡ (count_below n p == n)
all_count zero p = refl
all_count (suc n) p = elim (cases_Bool (p n)) [
  | inl passes ↦ rw (passes, and_true (all_below n p)) (all_count n p ∙ sym (eqb-suc (count_below n p) n))
  | inr fails ↦ rw (fails, and_right (all_below n p) false refl)
      (sym (ne_eqb (count_below n p) (suc n) (λ e. let low = count_below-le n p in omega arith)))
]

-- Where the count is 0, each fails.
pub count_below-none : (n : ℕ) (p : ℕ → Bool) → count_below n p ≡ 0 → (i : ℕ) → i < n → p i ≡ false
count_below-none zero p none i low = absurd (omega arith)
count_below-none (suc n) p none i low = elim (cases_Bool (p n)) [
  | inl passes ↦ absurd (let some : suc (count_below n p) ≡ 0 = rw passes at none in omega arith)
  | inr fails ↦ elim (cases_eq i n) [
    | inl same ↦ ap p same ∙ fails
    | inr other ↦ count_below-none n p (rw fails at none) i (omega arith)
  ]
]

-- ---- for callers

-- The numbers below a + b that pass are those below a, and those of the next b.
pub count_below-add : (a b : ℕ) (p : ℕ → Bool) → count_below (a + b) p ≡ count_below a p + count_below b (λ i. p (a + i))
count_below-add a zero p = let end : a + 0 ≡ a = omega arith in let none : count_below a p + 0 ≡ count_below a p = omega arith in rw (end, none) refl
count_below-add a (suc b) p =
    let end : a + suc b ≡ suc (a + b) = omega arith in
    let rest = count_below-add a b p in
    elim (cases_Bool (p (a + b))) [
      | inl passes ↦ rw (end, passes) (omega (arith, rest))
      | inr fails ↦ rw (end, fails) rest
    ]

-- Where no number passes both tests, those that pass either are those that pass one, and those that pass the other.
pub count_below-or : (n : ℕ) (p q : ℕ → Bool) → ((i : ℕ) → p i ≡ true → q i ≡ false) → count_below n (λ i. p i || q i) ≡ count_below n p + count_below n q
count_below-or zero p q apart = refl
count_below-or (suc n) p q apart =
    let rest = count_below-or n p q apart in
    elim (cases_Bool (p n)) [
      | inl passes ↦ let other = apart n passes in rw (passes, other) (omega (arith, rest))
      | inr fails ↦ elim (cases_Bool (q n)) [
        | inl passes ↦ rw (fails, passes) (omega (arith, rest))
        | inr neither ↦ rw (fails, neither) rest
      ]
    ]

-- Some pass where there is a last one.
pub any_last : (n : ℕ) (p : ℕ → Bool) → any_below n p ≡ nat_lt 0 (past_last n p)
any_last zero p = refl
any_last (suc n) p = elim (cases_Bool (p n)) [
  | inl passes ↦ rw (passes, or_right (any_below n p) true refl) (sym (lt-ltb 0 (suc n) (omega arith)))
  | inr fails ↦ rw (fails, or_false (any_below n p)) (any_last n p)
]

-- All pass where the front is the whole.
pub all_front : (n : ℕ) (p : ℕ → Bool) → all_below n p ≡ (front_length n p == n)
all_front zero p = refl
all_front (suc n) p = elim (cases_Bool (all_below (suc n) p)) [
  | inl passes ↦ passes ∙ sym (rw passes (eq-eqb (suc n) (suc n) refl))
  | inr fails ↦ fails ∙ sym (rw fails (ne_eqb (front_length n p) (suc n) (λ e. let low = front_le n p in omega arith)))
]
