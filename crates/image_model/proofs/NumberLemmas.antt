-- Commit numbers: the first that passes a test, laps modulo 4, and which number is the newest.
use Rattle.std.proofs.Common.{◌≡◌, ◌≢◌, ◌⊎◌, inl, inr, ℕ, zero, suc, ◌<◌, min, Bool, true, false, not, ◌&&◌, refl, sym, ◌∙◌, ap, subst, arith, find, Option, Some, None}
use Rattle.std.proofs.lemmas.Bool.{cases_Bool, cases_eq, true≢false, and_right, and_from, and_parts, not-true, not_from_false, true_from_ne_false}
use Rattle.std.proofs.lemmas.Option.{none-some, same_Some}
use Rattle.image_model.specs.CommitId.{commit_numbers}
use Rattle.image_model.specs.Walk.{later, newest}

-- What holds of 0 to 3 holds of each commit number.
pub four_numbers : (P : ℕ → Type 0) → P 0 → P 1 → P 2 → P 3 → (q : ℕ) → q < 4 → P q
four_numbers P a b c d zero low = a
four_numbers P a b c d (suc zero) low = b
four_numbers P a b c d (suc (suc zero)) low = c
four_numbers P a b c d (suc (suc (suc zero))) low = d
four_numbers P a b c d (suc (suc (suc (suc q)))) low = absurd (omega arith)

-- The first commit number that passes is one, and passes.
pub first_of_four_tells : (p : ℕ → Bool) (q : ℕ) → find p commit_numbers ≡ Some q → (q < 4) × (p q ≡ true)
first_of_four_tells p q e = elim (cases_Bool (p 0)) [
  | inl is ↦ tell 0 (omega arith) is (same_Some _ _ (rw is at e))
  | inr not_0 ↦ elim (cases_Bool (p 1)) [
    | inl is ↦ tell 1 (omega arith) is (same_Some _ _ (rw (not_0, is) at e))
    | inr not_1 ↦ elim (cases_Bool (p 2)) [
      | inl is ↦ tell 2 (omega arith) is (same_Some _ _ (rw (not_0, not_1, is) at e))
      | inr not_2 ↦ elim (cases_Bool (p 3)) [
        | inl is ↦ tell 3 (omega arith) is (same_Some _ _ (rw (not_0, not_1, not_2, is) at e))
        | inr not_3 ↦ absurd (none-some q (rw (not_0, not_1, not_2, not_3) at e))
      ]
    ]
  ]
]
  where
    tell : (k : ℕ) → k < 4 → p k ≡ true → k ≡ q → (q < 4) × (p q ≡ true)
    tell k low is same = subst (λ n. (n < 4) × (p n ≡ true)) same (low, is)

-- Where one passes, there is a first.
pub first_of_four_some : (p : ℕ → Bool) (q : ℕ) → q < 4 → p q ≡ true → (k : ℕ) × (find p commit_numbers ≡ Some k)
first_of_four_some p q low is = elim (cases_Bool (p 0)) [
  | inl is_0 ↦ (0, rw is_0 refl)
  | inr not_0 ↦ elim (cases_Bool (p 1)) [
    | inl is_1 ↦ (1, rw (not_0, is_1) refl)
    | inr not_1 ↦ elim (cases_Bool (p 2)) [
      | inl is_2 ↦ (2, rw (not_0, not_1, is_2) refl)
      | inr not_2 ↦ (3, rw (not_0, not_1, not_2, four_numbers (λ k. p k ≡ true → p 3 ≡ true) (λ e. absurd (true≢false (sym e ∙ not_0))) (λ e. absurd (true≢false (sym e ∙ not_1))) (λ e. absurd (true≢false (sym e ∙ not_2))) (λ e. e) q low is) refl)
    ]
  ]
]

-- Where no number is found, none passes.
pub first_of_four_none : (p : ℕ → Bool) → find p commit_numbers ≡ None → (q : ℕ) → q < 4 → p q ≡ false
first_of_four_none p e q low = elim (cases_Bool (p q)) [
  | inr fails ↦ fails
  | inl is ↦ let some = first_of_four_some p q low is in absurd (none-some some.0 (sym e ∙ some.1))
]

-- The one that passes is found.
pub first_of_four : (p : ℕ → Bool) (q : ℕ) → q < 4 → p q ≡ true → ((k : ℕ) → k < 4 → (k ≡ q → ⊥) → p k ≡ false) → find p commit_numbers ≡ Some q
first_of_four p q low is others =
    let some = first_of_four_some p q low is in
    let told = first_of_four_tells p some.0 some.1 in
    elim (cases_eq some.0 q) [
      | inl same ↦ some.1 ∙ ap Some same
      | inr other ↦ absurd (true≢false (sym told.1 ∙ others some.0 told.0 other))
    ]

-- A value that may be none is none or some.
pub cases_option : {A : Type 0} (o : Option A) → (o ≡ None) ⊎ ((x : A) × (o ≡ Some x))
cases_option None = inl refl
cases_option (Some x) = inr (x, refl)

-- ---- laps

-- A number some laps on is a commit number.
pub later_low : (laps q : ℕ) → later laps q < 4
later_low laps q = omega arith

-- Three laps on and one more is where one began.
pub later_back : (q : ℕ) → q < 4 → later 1 (later 3 q) ≡ q
later_back q low = omega arith

-- One lap on and three more is so too.
pub later_forth : (q : ℕ) → q < 4 → later 3 (later 1 q) ≡ q
later_forth q low = omega arith

-- Three laps on and two more are one.
pub later_twice : (q : ℕ) → q < 4 → later 2 (later 3 q) ≡ later 1 q
later_twice q low = omega arith

-- Three laps on and three more are two.
pub later_half : (q : ℕ) → q < 4 → later 3 (later 3 q) ≡ later 2 q
later_half q low = omega arith

-- One lap on and one more are two,
pub later_two : (q : ℕ) → q < 4 → later 1 (later 1 q) ≡ later 2 q
later_two q low = omega arith

-- and two more are three.
pub later_three : (q : ℕ) → q < 4 → later 2 (later 1 q) ≡ later 3 q
later_three q low = omega arith

-- The numbers one, two and three laps on differ from the number and from each other.
pub later_differs : (q : ℕ) → q < 4 → (later 1 q ≢ q) × (later 2 q ≢ q) × (later 3 q ≢ q) × (later 1 q ≢ later 3 q) × (later 2 q ≢ later 3 q) × (later 1 q ≢ later 2 q)
later_differs q low = (λ e. omega arith, λ e. omega arith, λ e. omega arith, λ e. omega arith, λ e. omega arith, λ e. omega arith)

-- A number that is none of three neighbours is the fourth.
pub only_three : (k q : ℕ) → k < 4 → q < 4 → k ≢ q → k ≢ later 1 q → k ≢ later 2 q → k ≡ later 3 q
only_three k q low_k low_q a b c = omega arith

-- ---- the newest number

-- The number occurs, and the next one does not.
abbrev leads : (ℕ → Bool) → ℕ → Bool
leads has number = has number && not (has (later 1 number))

-- The newest is q where q occurs, and neither of the next two does.
pub newest_is : (has : ℕ → Bool) (q : ℕ) → q < 4 → has q ≡ true → has (later 1 q) ≡ false → has (later 2 q) ≡ false → newest has ≡ Some q
newest_is has =
    four_numbers (λ q. has q ≡ true → has (later 1 q) ≡ false → has (later 2 q) ≡ false → newest has ≡ Some q)
    (λ a b c. rw (a, b) refl)
    (λ a b c. rw (a, b, and_right (has 0) false refl) refl)
    (λ a b c. rw (a, b, c, and_right (has 1) false refl) refl)
    (λ a b c. rw (a, b, c, and_right (has 2) false refl) refl)

-- The newest of two that are two apart is the smaller.
pub newest_apart : (has : ℕ → Bool) (a : ℕ) → a < 4 → has a ≡ true → has (later 1 a) ≡ false → has (later 2 a) ≡ true → has (later 3 a) ≡ false → newest has ≡ Some (min a (later 2 a))
newest_apart has =
    four_numbers (λ a. has a ≡ true → has (later 1 a) ≡ false → has (later 2 a) ≡ true → has (later 3 a) ≡ false → newest has ≡ Some (min a (later 2 a)))
    (λ a b c d. rw (a, b) refl)
    (λ a b c d. rw (a, b, d) refl)
    (λ a b c d. rw (c, d) refl)
    (λ a b c d. rw (b, c, d) refl)

-- The newest of three is the one before the missing one.
pub newest_three : (has : ℕ → Bool) (m : ℕ) → m < 4 → has m ≡ false → has (later 1 m) ≡ true → has (later 2 m) ≡ true → has (later 3 m) ≡ true → newest has ≡ Some (later 3 m)
newest_three has =
    four_numbers (λ m. has m ≡ false → has (later 1 m) ≡ true → has (later 2 m) ≡ true → has (later 3 m) ≡ true → newest has ≡ Some (later 3 m))
    (λ a b c d. rw (a, b, c, d) refl)
    (λ a b c d. rw (a, b, c, d) refl)
    (λ a b c d. rw (a, b, c, d) refl)
    (λ a b c d. rw (a, b, c, d) refl)

-- Of four none is the newest.
pub newest_four : (has : ℕ → Bool) (a : ℕ) → a < 4 → has a ≡ true → has (later 1 a) ≡ true → has (later 2 a) ≡ true → has (later 3 a) ≡ true → newest has ≡ None
newest_four has =
    four_numbers (λ a. has a ≡ true → has (later 1 a) ≡ true → has (later 2 a) ≡ true → has (later 3 a) ≡ true → newest has ≡ None)
    (λ a b c d. rw (a, b, c, d) refl)
    (λ a b c d. rw (a, b, c, d) refl)
    (λ a b c d. rw (a, b, c, d) refl)
    (λ a b c d. rw (a, b, c, d) refl)

-- What the newest number tells.
pub newest_tells : (has : ℕ → Bool) (q : ℕ) → newest has ≡ Some q → (q < 4) × (has q ≡ true) × (has (later 1 q) ≡ false)
newest_tells has q e =
    let found = first_of_four_tells (leads has) q e in
    let parts = and_parts (has q) (not (has (later 1 q))) found.1 in
    (found.0, parts.0, not-true (has (later 1 q)) parts.1)

-- Where some number occurs and none is the newest, all four do.
pub newest_none : (has : ℕ → Bool) (q : ℕ) → q < 4 → has q ≡ true → newest has ≡ None → (k : ℕ) → k < 4 → has k ≡ true
newest_none has q low is none =
    let next : (k : ℕ) → k < 4 → has k ≡ true → has (later 1 k) ≡ true =
    λ k low_k is_k. true_from_ne_false (has (later 1 k)) (λ lacks. true≢false (sym (and_from (has k) (not (has (later 1 k))) is_k (not_from_false (has (later 1 k)) lacks)) ∙ first_of_four_none (leads has) none k low_k)) in
    let one = next q low is in
    let two = next (later 1 q) (later_low 1 q) one in
    let three = next (later 1 (later 1 q)) (later_low 1 (later 1 q)) two in
    λ k low_k. elim (cases_eq k q) [
      | inl same ↦ subst (λ x. has x ≡ true) (sym same) is
      | inr not_0 ↦ elim (cases_eq k (later 1 q)) [
        | inl same ↦ subst (λ x. has x ≡ true) (sym same) one
        | inr not_1 ↦ elim (cases_eq k (later 1 (later 1 q))) [
          | inl same ↦ subst (λ x. has x ≡ true) (sym same) two
          | inr not_2 ↦ let same : later 1 (later 1 (later 1 q)) ≡ k = omega arith in subst (λ x. has x ≡ true) same three
        ]
      ]
    ]

-- With a number and the one two laps on, and not the one between, some number is the newest, and the one two laps on from it occurs.
pub newest_erasing : (has : ℕ → Bool) (q : ℕ) → q < 4 → has q ≡ true → has (later 1 q) ≡ false → has (later 2 q) ≡ true
    → (k : ℕ) × (newest has ≡ Some k) × (has (later 2 k) ≡ true)
newest_erasing has =
    four_numbers (λ q. has q ≡ true → has (later 1 q) ≡ false → has (later 2 q) ≡ true → (k : ℕ) × (newest has ≡ Some k) × (has (later 2 k) ≡ true))
    (λ a b c. (0, rw (a, b) refl, c))
    (λ a b c. (1, rw (a, b, and_right (has 0) false refl) refl, c))
    (λ a b c. elim (cases_Bool (has 1)) [
      | inl three ↦ (2, rw (three, a, b, and_right (has 0) false refl) refl, c)
      | inr two ↦ (0, rw (c, two) refl, a)
    ])
    (λ a b c. elim (cases_Bool (has 2)) [
      | inl three ↦ (3, rw (three, a, b, c) refl, c)
      | inr two ↦ (1, rw (b, c, two) refl, a)
    ])
