-- What the plan of a journal is, by the numbers on its sectors.
use Rattle.std.proofs.Common.{◌≡◌, ◌≢◌, inl, inr, ℕ, Bool, true, false, ◌-◌, ◌<◌, refl, sym, ◌∙◌, ap, arith, if◌then◌else◌, Option, Some, None, List, [], ◌∷◌, ◌++◌, append-nil}
use Rattle.std.proofs.Math.Path.{fun_ext}
use Rattle.std.proofs.lemmas.Bool.{cases_Bool, cases_lt, lt-ltb, le-ltb, true≢false, eq-eqb, ne_eqb, eqb-true, false_from_ne_true}
use Rattle.std.proofs.lemmas.Option.{none-some, same_Some}
use Rattle.std.specs.List.{range_with_len}
use Rattle.std.specs.Option.{option_map}
use Rattle.std.specs.Prelude.{is_some}
use Rattle.image_model.specs.Below.{all_below}
use Rattle.image_model.specs.Walk.{Numbers, bears, holds, is_wholly, occurs, is_numbered, later, newest, reach, whole_sections, state_at, range, plan_at, plan_of, sections_of}
use Rattle.image_model.specs.declared.journal_plan.Plan.{Plan}
use Rattle.image_model.proofs.BelowLemmas.{any_at, any_none, any_found, all_from, all_at, any_same, all_same, last_same, front_same}

-- ---- what a sector bears

-- A sector that has the number bears it,
pub bears_it : (c : Option ℕ) (k : ℕ) → c ≡ Some k → bears c k ≡ true
bears_it c k e = rw e (eq-eqb k k refl)

-- and bears no other,
pub bears_other : (c : Option ℕ) (q k : ℕ) → c ≡ Some q → q ≢ k → bears c k ≡ false
bears_other c q k e ne = rw e (ne_eqb q k ne)

-- and what it bears it has.
pub bears_is : (c : Option ℕ) (k : ℕ) → bears c k ≡ true → c ≡ Some k
bears_is None k e = absurd (true≢false (sym e))
bears_is (Some q) k e = ap Some (eqb-true q k e)

-- What it has not it does not bear.
pub bears_false : (c : Option ℕ) (k : ℕ) → c ≢ Some k → bears c k ≡ false
bears_false c k ne = false_from_ne_true (bears c k) (λ e. ne (bears_is c k e))

-- What is some has a number.
pub some_is : (c : Option ℕ) → is_some c ≡ true → (k : ℕ) × (c ≡ Some k)
some_is None e = absurd (true≢false (sym e))
some_is (Some k) e = (k, refl)

-- ---- sections and the whole journal

-- A section with such a sector holds the number,
pub holds_at : (s : ℕ) (g : Numbers) (k i j : ℕ) → j < s → g i j ≡ Some k → holds s g k i ≡ true
holds_at s g k i j narrow e = any_at s (λ j. bears (g i j) k) j narrow (bears_it (g i j) k e)

-- and one that holds it has such a sector.
pub holds_found : (s : ℕ) (g : Numbers) (k i : ℕ) → holds s g k i ≡ true → (j : ℕ) × (j < s) × (g i j ≡ Some k)
holds_found s g k i e = let f = any_found s (λ j. bears (g i j) k) e in (f.0, f.1, bears_is (g i f.0) k f.2)

-- A section with no such sector does not hold it.
pub holds_none : (s : ℕ) (g : Numbers) (k i : ℕ) → ((j : ℕ) → j < s → g i j ≢ Some k) → holds s g k i ≡ false
holds_none s g k i each = any_none s (λ j. bears (g i j) k) (λ j narrow. bears_false (g i j) k (each j narrow))

-- A section of which each sector has the number is wholly of it,
pub wholly_at : (s : ℕ) (g : Numbers) (k i : ℕ) → ((j : ℕ) → j < s → g i j ≡ Some k) → is_wholly s g k i ≡ true
wholly_at s g k i each = all_from s (λ j. bears (g i j) k) (λ j narrow. bears_it (g i j) k (each j narrow))

-- and of one that is each sector has it.
pub wholly_each : (s : ℕ) (g : Numbers) (k i : ℕ) → is_wholly s g k i ≡ true → (j : ℕ) → j < s → g i j ≡ Some k
wholly_each s g k i e j narrow = bears_is (g i j) k (all_at s (λ j. bears (g i j) k) e j narrow)

-- A section that is wholly of a number holds it.
pub wholly_holds : (s : ℕ) (g : Numbers) (k i : ℕ) → 0 < s → is_wholly s g k i ≡ true → holds s g k i ≡ true
wholly_holds s g k i wide e = holds_at s g k i 0 wide (wholly_each s g k i e 0 wide)

-- A number that a sector has occurs,
pub occurs_at : (n s : ℕ) (g : Numbers) (k i j : ℕ) → i < n → j < s → g i j ≡ Some k → occurs n s g k ≡ true
occurs_at n s g k i j low narrow e = any_at n (holds s g k) i low (holds_at s g k i j narrow e)

-- and one that occurs is on some sector.
pub occurs_found : (n s : ℕ) (g : Numbers) (k : ℕ) → occurs n s g k ≡ true → (i : ℕ) × (j : ℕ) × (i < n) × (j < s) × (g i j ≡ Some k)
occurs_found n s g k e =
    let at = any_found n (holds s g k) e in
    let in_it = holds_found s g k at.0 at.2 in
    (at.0, in_it.0, at.1, in_it.1, in_it.2)

-- A number that is on no sector does not occur.
pub lacks_from : (n s : ℕ) (g : Numbers) (k : ℕ) → ((i j : ℕ) → i < n → j < s → g i j ≢ Some k) → occurs n s g k ≡ false
lacks_from n s g k each = any_none n (holds s g k) (λ i low. holds_none s g k i (λ j narrow. each i j low narrow))

-- A number that does not occur is on no sector.
pub absent_at : (n s : ℕ) (g : Numbers) (k : ℕ) → occurs n s g k ≡ false → (i j : ℕ) → i < n → j < s → g i j ≢ Some k
absent_at n s g k e i j low narrow is = true≢false (sym (occurs_at n s g k i j low narrow is) ∙ e)

-- Where each sector has a number all are numbered,
pub numbered_from : (n s : ℕ) (g : Numbers) → ((i j : ℕ) → i < n → j < s → is_some (g i j) ≡ true) → is_numbered n s g ≡ true
numbered_from n s g each = all_from n (λ i. all_below s (λ j. is_some (g i j))) (λ i low. all_from s (λ j. is_some (g i j)) (λ j narrow. each i j low narrow))

-- and where all are each has one.
pub numbered_at : (n s : ℕ) (g : Numbers) → is_numbered n s g ≡ true → (i j : ℕ) → i < n → j < s → is_some (g i j) ≡ true
numbered_at n s g e i j low narrow = all_at s (λ j. is_some (g i j)) (all_at n (λ i. all_below s (λ j. is_some (g i j))) e i low) j narrow

-- ---- the plan

-- With all sectors numbered and a newest number the plan is the one for it.
pub plan_is : (n s : ℕ) (g : Numbers) (q : ℕ) → is_numbered n s g ≡ true → newest (occurs n s g) ≡ Some q → plan_of n s g ≡ Some (plan_at n s g q)
unfolding plan_of
plan_is n s g q numbered new = rw (numbered, new) refl

-- Where the number two laps on does not occur, the walk is by the two numbers.
pub plan_at_two : (n s : ℕ) (g : Numbers) (q : ℕ) → occurs n s g (later 2 q) ≡ false → plan_at n s g q ≡ record {
  state = state_at n (reach n s g q) (whole_sections n s g q) q;
  walk = range (reach n s g q) n ∷ range 0 (whole_sections n s g q) ∷ [];
}
plan_at_two n s g q absent = rw absent refl

mapped : {A B : Type 0} (o : Option A) (f : A → B) (y : B) → option_map f o ≡ Some y → (x : A) × (o ≡ Some x) × (f x ≡ y)
mapped None f y e = absurd (none-some y e)
mapped (Some x) f y e = (x, refl, same_Some _ _ e)

-- A plan comes from the newest number.
pub plan_newest : (n s : ℕ) (g : Numbers) (plan : Plan) → plan_of n s g ≡ Some plan → (is_numbered n s g ≡ true) × ((q : ℕ) × (newest (occurs n s g) ≡ Some q) × (plan_at n s g q ≡ plan))
unfolding plan_of
plan_newest n s g plan e = elim (cases_Bool (is_numbered n s g)) [
  | inr fails ↦ absurd (none-some plan (rw fails at e))
  | inl numbered ↦ (numbered, mapped (newest (occurs n s g)) (plan_at n s g) plan (rw numbered at e))
]

-- A range that is empty is (0, 0), which has no section either.
range_run : (a b : ℕ) → range_with_len (range a b).0 ((range a b).1 - (range a b).0) ≡ range_with_len a (b - a)
range_run a b = elim (cases_lt a b) [
  | inl lt ↦ rw (lt-ltb a b lt) refl
  | inr ge ↦ let none : b - a ≡ 0 = omega arith in rw (le-ltb a b ge, none) refl
]

-- The sections of a walk of two ranges.
pub walk_runs : (a b c : ℕ) → sections_of (range a b ∷ range 0 c ∷ []) ≡ range_with_len a (b - a) ++ range_with_len 0 c
walk_runs a b c =
    ap (λ (xs : List ℕ). xs ++ (range_with_len (range 0 c).0 ((range 0 c).1 - (range 0 c).0) ++ [])) (range_run a b)
    ∙ ap (λ (xs : List ℕ). range_with_len a (b - a) ++ xs) (append-nil _ ∙ range_run 0 c ∙ (let all : c - 0 ≡ c = omega arith in ap (range_with_len 0) all))

-- Journals with the same number on each sector have the same plan.
module _ (n s : ℕ) (g h : Numbers) (same : (i j : ℕ) → i < n → j < s → h i j ≡ g i j) where
  -- Their sections hold the same,
  pub holds_same : (k i : ℕ) → i < n → holds s h k i ≡ holds s g k i
  holds_same k i low = any_same s _ _ (λ j narrow. ap (λ (c : Option ℕ). bears c k) (same i j low narrow))

  -- and are wholly of the same,
  pub wholly_same : (k i : ℕ) → i < n → is_wholly s h k i ≡ is_wholly s g k i
  wholly_same k i low = all_same s _ _ (λ j narrow. ap (λ (c : Option ℕ). bears c k) (same i j low narrow))

  -- so the same numbers occur,
  pub occurs_same : occurs n s h ≡ occurs n s g
  occurs_same = fun_ext (λ k. any_same n _ _ (holds_same k))

  -- the same sectors are numbered,
  pub numbered_same : is_numbered n s h ≡ is_numbered n s g
  numbered_same = all_same n _ _ (λ i low. all_same s _ _ (λ j narrow. ap (λ (c : Option ℕ). is_some c) (same i j low narrow)))

  -- the plans for a newest number are the same,
  pub plan_at_same : (q : ℕ) → plan_at n s h q ≡ plan_at n s g q
  plan_at_same q = rw (any_same n (holds s h (later 2 q)) (holds s g (later 2 q)) (holds_same (later 2 q)), last_same n (holds s h q) (holds s g q) (holds_same q), front_same n (is_wholly s h q) (is_wholly s g q) (wholly_same q)) refl

  -- and so is the plan.
  pub plan_same : plan_of n s h ≡ plan_of n s g
  unfolding plan_of
  plan_same =
      ap (λ (b : Bool). if b then option_map (plan_at n s h) (newest (occurs n s h)) else None) numbered_same
      ∙ ap (λ (f : ℕ → Plan). if is_numbered n s g then option_map f (newest (occurs n s h)) else None) (fun_ext plan_at_same)
      ∙ ap (λ (has : ℕ → Bool). if is_numbered n s g then option_map (plan_at n s g) (newest has) else None) occurs_same
