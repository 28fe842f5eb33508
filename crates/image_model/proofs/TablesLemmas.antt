-- The plan by the numbers follows the tables.
use Rattle.std.proofs.Common.{◌≡◌, ◌≢◌, inl, inr, ℕ, suc, ◌+◌, ◌-◌, ◌<◌, ◌≤◌, Bool, true, false, refl, sym, ◌∙◌, ap, subst, arith, Some, List, [], ◌∷◌, ◌++◌, append-nil}
use Rattle.std.specs.List.{range_with_len}
use Rattle.std.specs.Prelude.{is_some}
use Rattle.std.proofs.lemmas.Bool.{cases_eq, cases_lt, eq-eqb, ne_eqb, false_from_ne_true}
use Rattle.std.proofs.lemmas.Option.{same_Some}
use Rattle.image_model.specs.Walk.{Numbers, holds, is_wholly, occurs, is_numbered, later, newest, reach, whole_sections, plan_at, plan_of, sections_of, ring}
use Rattle.image_model.specs.declared.journal_plan.Plan.{Plan}
use Rattle.image_model.specs.declared.journal_plan.State.TheVariants.{Rest}
use Rattle.image_model.specs.Tables.{NewestLaw, IsWholly, IsAtRest, IsWalkOfTwo}
use Rattle.image_model.proofs.BelowLemmas.{last_le, last_above, last_below, last_passes, front_le, front_passes, front_above, front_below}
use Rattle.image_model.proofs.NumberLemmas.{newest_is, newest_apart, newest_three, newest_four, newest_tells, later_low, later_back, later_forth, later_two, later_three, only_three}
use Rattle.image_model.proofs.WalkLemmas.{plan_is, plan_at_two, holds_at, holds_found, holds_none, wholly_at, wholly_each, wholly_holds, numbered_from, numbered_at, occurs_at, occurs_found, lacks_from, absent_at, some_is, walk_runs}

same_four : (a b c d a' b' c' d' : Bool) → ◌≡◌ {A = List Bool} (a ∷ b ∷ c ∷ d ∷ []) (a' ∷ b' ∷ c' ∷ d' ∷ []) → (a ≡ a') × (b ≡ b') × (c ≡ c') × (d ≡ d')
same_four a b c d a' b' c' d' e = (cc, cc, cc, cc)

-- The newest number is that of the table.
pub newest_law : NewestLaw
newest_law has a low =
    let parts = same_four (has a) (has (later 1 a)) (has (later 2 a)) (has (later 3 a)) in
    record {
      one = λ e. let o = parts true false false false e in newest_is has a low o.0 o.1 o.2;
      neighbours = λ e. let o = parts true true false false e in newest_is has (later 1 a) (later_low 1 a) o.1 (rw (later_two a low) o.2) (rw (later_three a low) o.3);
      apart = λ e. let o = parts true false true false e in newest_apart has a low o.0 o.1 o.2 o.3;
      three = λ e. let o = parts false true true true e in newest_three has a low o.0 o.1 o.2 o.3;
      four = λ e. let o = parts true true true true e in newest_four has a low o.0 o.1 o.2 o.3;
    }

-- ---- one or two numbers

-- All sectors bear a number, the newest is q, and the number two laps on does not occur.
module _ (n s q : ℕ) (g : Numbers) (wide : 0 < s)
    (in_range : (i j k : ℕ) → i < n → j < s → g i j ≡ Some k → k < 4)
    (numbered : is_numbered n s g ≡ true) (new : newest (occurs n s g) ≡ Some q) (lacks : occurs n s g (later 2 q) ≡ false) where
  told : (q < 4) × (occurs n s g q ≡ true) × (occurs n s g (later 1 q) ≡ false)
  told = newest_tells (occurs n s g) q new

  found : (i : ℕ) × (j : ℕ) × (i < n) × (j < s) × (g i j ≡ Some q)
  found = occurs_found n s g q told.1

  some_reached : 0 < reach n s g q
  some_reached =
      let above : found.0 < reach n s g q = last_above n (holds s g q) found.0 found.2 (holds_at s g q found.0 found.1 found.3 found.4) in omega arith

  -- Behind the reach of the newest number all is of the one before it.
  old_behind : (i : ℕ) → reach n s g q ≤ i → i < n → IsWholly s g (later 3 q) i
  old_behind i high low j narrow =
      let k = some_is (g i j) (numbered_at n s g numbered i j low narrow) in
      k.1 ∙ ap Some (only_three k.0 q (in_range i j k.0 low narrow k.1) told.0
      (λ e. let under : i < reach n s g q = last_above n (holds s g q) i low (holds_at s g q i j narrow (k.1 ∙ ap Some e)) in omega arith)
      (λ e. absent_at n s g (later 1 q) told.2 i j low narrow (k.1 ∙ ap Some e))
      (λ e. absent_at n s g (later 2 q) lacks i j low narrow (k.1 ∙ ap Some e)))

  whole_reached : whole_sections n s g q ≤ reach n s g q
  whole_reached = elim (cases_lt (reach n s g q) (whole_sections n s g q)) [
    | inr within ↦ within
    | inl past ↦
        let low : reach n s g q < n = let f = front_le n (is_wholly s g q) in omega arith in
        let here = wholly_holds s g q (reach n s g q) wide (front_passes n (is_wholly s g q) (reach n s g q) past) in
        absurd (let lt : reach n s g q < reach n s g q = last_above n (holds s g q) (reach n s g q) low here in omega arith)
  ]

  -- The walk is the one of two numbers.
  pub walk_of_two : IsWalkOfTwo n s q g (range_with_len (reach n s g q) (n - reach n s g q) ++ range_with_len 0 (whole_sections n s g q))
  walk_of_two =
      let most = last_le n (holds s g q) in
      let last = holds_found s g q (reach n s g q - 1) (last_passes n (holds s g q) some_reached) in
      let one_past : (reach n s g q - 1) + 1 ≡ reach n s g q = omega (arith, some_reached) in
      record {
        last = reach n s g q - 1;
        inside = omega (arith, some_reached, most);
        holds = last;
        behind = λ i high low. old_behind i (omega (arith, some_reached)) low;
        count = whole_sections n s g q;
        up_to_last = omega (arith, one_past, whole_reached);
        whole = λ i under. wholly_each s g q i (front_passes n (is_wholly s g q) i under);
        ends = λ low is. let more = front_above n (is_wholly s g q) (suc (whole_sections n s g q)) (omega (arith, some_reached, most)) (λ i under. elim (cases_eq i (whole_sections n s g q)) [
          | inl same ↦ subst (λ x. is_wholly s g q x ≡ true) (sym same) (wholly_at s g q (whole_sections n s g q) is)
          | inr other ↦ front_passes n (is_wholly s g q) i (omega arith)
        ]) in omega arith;
        walk_is = ap (λ a. range_with_len a (n - a) ++ range_with_len 0 (whole_sections n s g q)) (sym one_past);
      }

  -- With all of one number the journal is at rest at section 0.
  pub rests_at_start : whole_sections n s g q ≡ reach n s g q → reach n s g q ≡ n → IsAtRest n s 0 (later 1 q) g
  rests_at_start same full = record {
    inside = omega (arith, found.2);
    low = later_low 1 q;
    new = λ i under. absurd (omega arith);
    old = λ i above low j narrow. wholly_each s g q i (front_passes n (is_wholly s g q) i (omega (arith, same, full))) j narrow ∙ ap Some (sym (later_forth q told.0));
  }

  -- With the newest number on whole sections alone the journal is at rest behind them.
  pub rests_inside : whole_sections n s g q ≡ reach n s g q → reach n s g q ≢ n → IsAtRest n s (reach n s g q) q g
  rests_inside same before = record {
    inside = let most = last_le n (holds s g q) in omega arith;
    low = told.0;
    new = λ i under. wholly_each s g q i (front_passes n (is_wholly s g q) i (omega (arith, same)));
    old = old_behind;
  }

-- ---- a journal at rest

module _ (n s next b : ℕ) (g : Numbers) (wide : 0 < s) (rest : IsAtRest n s next b g) where
  rest_numbered : is_numbered n s g ≡ true
  rest_numbered = numbered_from n s g (λ i j low narrow. elim (cases_lt i next) [
    | inl under ↦ ap (λ c. is_some c) (rest.new i under j narrow)
    | inr above ↦ ap (λ c. is_some c) (rest.old i above low j narrow)
  ])

  -- Only the number and the one before it occur.
  rest_lacks : (k : ℕ) → k ≢ b → k ≢ later 3 b → occurs n s g k ≡ false
  rest_lacks k not_new not_old = lacks_from n s g k (λ i j low narrow is. elim (cases_lt i next) [
    | inl under ↦ not_new (same_Some _ _ (sym is ∙ rest.new i under j narrow))
    | inr above ↦ not_old (same_Some _ _ (sym is ∙ rest.old i above low j narrow))
  ])

  -- The plan of a journal at rest: each section counts, the oldest first.
  pub rest_plan : (plan : Plan) × (plan_of n s g ≡ Some plan) × (plan.state ≡ Rest next b) × (sections_of plan.walk ≡ ring n next)
  rest_plan = elim (cases_eq next 0) [
    | inl start ↦
        let q = later 3 b in
        let low = later_low 3 b in
        let wholly : (i : ℕ) → i < n → IsWholly s g q i = λ i low_i. rest.old i (omega arith) low_i in
        let lacks : occurs n s g (later 2 q) ≡ false = rest_lacks (later 2 q) (λ e. omega (arith, rest.low)) (λ e. omega (arith, rest.low)) in
        let next_lacks : occurs n s g (later 1 q) ≡ false = lacks_from n s g (later 1 q) (λ i j low_i narrow is. let same : later 1 q ≡ q = same_Some _ _ (sym is ∙ wholly i low_i j narrow) in omega arith) in
        let some : 0 < n = omega (arith, rest.inside) in
        let new : newest (occurs n s g) ≡ Some q = newest_is (occurs n s g) q low (occurs_at n s g q 0 0 some wide (wholly 0 some 0 wide)) next_lacks lacks in
        let whole : whole_sections n s g q ≡ n = let most = front_le n (is_wholly s g q) in let least = front_above n (is_wholly s g q) n (omega arith) (λ i low_i. wholly_at s g q i (wholly i low_i)) in omega arith in
        let reached : reach n s g q ≡ n = let most = last_le n (holds s g q) in let least = last_above n (holds s g q) (n - 1) (omega arith) (holds_at s g q (n - 1) 0 wide (wholly (n - 1) (omega arith) 0 wide)) in omega arith in
        let at = plan_at_two n s g q lacks in (
          plan_at n s g q,
          plan_is n s g q rest_numbered new,
          ap (λ (x : Plan). x.state) at ∙ rw (whole, reached, eq-eqb n n refl, later_back b rest.low, start) refl,
          ap (λ (x : Plan). sections_of x.walk) at ∙ walk_runs (reach n s g q) n (whole_sections n s g q) ∙ (let none : n - n ≡ 0 = omega arith in let all : n - 0 ≡ n = omega arith in rw (whole, reached, start, none, all) (sym (append-nil _))),
        )
    | inr inside ↦
        let lacks : occurs n s g (later 2 b) ≡ false = rest_lacks (later 2 b) (λ e. omega (arith, rest.low)) (λ e. omega (arith, rest.low)) in
        let next_lacks : occurs n s g (later 1 b) ≡ false = rest_lacks (later 1 b) (λ e. omega (arith, rest.low)) (λ e. omega (arith, rest.low)) in
        let start : 0 < next = omega arith in
        let some : 0 < n = omega (arith, rest.inside) in
        let new : newest (occurs n s g) ≡ Some b = newest_is (occurs n s g) b rest.low (occurs_at n s g b 0 0 some wide (rest.new 0 start 0 wide)) next_lacks lacks in
        let differs : later 3 b ≢ b = λ e. omega (arith, rest.low) in
        let old_lacks : (i : ℕ) → next ≤ i → i < n → holds s g b i ≡ false = λ i above low_i. holds_none s g b i (λ j narrow is. differs (same_Some _ _ (sym (rest.old i above low_i j narrow) ∙ is))) in
        let whole : whole_sections n s g b ≡ next =
        let least = front_above n (is_wholly s g b) next (omega (arith, rest.inside)) (λ i under. wholly_at s g b i (rest.new i under)) in
        let most = front_below n (is_wholly s g b) next (false_from_ne_true _ (λ is. differs (same_Some _ _ (sym (rest.old next (omega arith) rest.inside 0 wide) ∙ wholly_each s g b next is 0 wide)))) in omega arith in
        let reached : reach n s g b ≡ next =
        let most = last_below n (holds s g b) next old_lacks in
        let least = last_above n (holds s g b) (next - 1) (omega (arith, rest.inside)) (holds_at s g b (next - 1) 0 wide (rest.new (next - 1) (omega arith) 0 wide)) in omega arith in
        let at = plan_at_two n s g b lacks in
        let before : next ≢ n = λ e. omega (arith, rest.inside) in (
          plan_at n s g b,
          plan_is n s g b rest_numbered new,
          ap (λ (x : Plan). x.state) at ∙ rw (whole, reached, eq-eqb next next refl, ne_eqb next n before) refl,
          ap (λ (x : Plan). sections_of x.walk) at ∙ walk_runs (reach n s g b) n (whole_sections n s g b) ∙ rw (whole, reached) refl,
        )
  ]
