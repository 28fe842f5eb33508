-- The least region from one on that passes a test.
use Rattle.std.proofs.Common.{◌≡◌, inl, inr, ℕ, zero, suc, ◌+◌, ◌-◌, ◌<◌, ◌≤◌, Bool, true, false, nat_le, ◌&&◌, refl, sym, ◌∙◌, arith, Option, Some, None, find}
use Rattle.std.specs.List.{range_with_len}
use Rattle.std.proofs.lemmas.Bool.{and_from, and_left, and_right, cases_Bool, cases_lt, false_from_ne_true, le-leb, leb-true}
use Rattle.std.proofs.lemmas.Option.{none-some, same_Some}
use Rattle.device_model.specs.Regions.{least_region}
use Rattle.bitmap_laws.proofs.LeastLemmas.{find_least, find_none}
use Rattle.dirty_bitmap.proofs.RangeLemmas.{find_none_is, find_some_is}

-- What is found is not below the first.
find-from : (p : ℕ → Bool) (from count r : ℕ) → find p (range_with_len from count) ≡ Some r → from ≤ r
find-from p from zero r e = absurd (none-some r e)
find-from p from (suc count) r e = elim (cases_Bool (p from)) [
  | inl passes ↦ let same : from ≡ r = same_Some from r (rw passes at e) in omega arith
  | inr fails ↦ let rest = find-from p (from + 1) count r (rw fails at e) in omega arith
]

-- It is one of so many, passes, and none before it does.
pub record IsNext (p : ℕ → Bool) (size from r : ℕ) : Type 0 where
  pub above : from ≤ r
  pub inside : r < size
  pub passes : p r ≡ true
  pub before : (i : ℕ) → from ≤ i → i < r → p i ≡ false

pub next_found : (p : ℕ → Bool) (size from r : ℕ) (o : Option ℕ) → o ≡ find p (range_with_len from (size - from)) → o ≡ Some r → IsNext p size from r
next_found p size from r o is found =
    let told = sym is ∙ found in
    let least = find_least p from (size - from) r told in
    let above = find-from p from (size - from) r told in
    let low = least.0 in
    record { above = above; inside = omega (arith, low, above); passes = least.1; before = least.2 }

-- Where none is found, none of so many passes.
pub next_none : (p : ℕ → Bool) (size from : ℕ) (o : Option ℕ) → o ≡ find p (range_with_len from (size - from)) → o ≡ None → (i : ℕ) → from ≤ i → i < size → p i ≡ false
next_none p size from o is none i above inside = find_none p from (size - from) (sym is ∙ none) i above (omega arith)

-- Two tests that agree on so many find the same.
pub find_same : (one other : ℕ → Bool) (size from : ℕ) → ((r : ℕ) → r < size → one r ≡ other r) → find one (range_with_len from (size - from)) ≡ find other (range_with_len from (size - from))
find_same one other size from same = by_found (find other (range_with_len from (size - from))) refl
  where
    by_found : (o : Option ℕ) → o ≡ find other (range_with_len from (size - from)) → find one (range_with_len from (size - from)) ≡ o
    by_found None is = find_none_is one from (size - from) (λ i above inside. same i (omega arith) ∙ next_none other size from None is refl i above (omega arith))
    by_found (Some r) is =
        let next = next_found other size from r (Some r) is refl in
        let high = next.above in
        let low = next.inside in
        find_some_is one from (size - from) r next.above (omega (arith, high, low)) (same r next.inside ∙ next.passes)
        (λ i above under. same i (omega (arith, under, low)) ∙ next.before i above under)

-- The least from one on that has the test is the least of all that has it and is not below that one.
pub least_from : (has test : ℕ → Bool) (size from : ℕ) → ((r : ℕ) → r < size → test r ≡ (has r && nat_le from r)) → find has (range_with_len from (size - from)) ≡ least_region size test
least_from has test size from is = by_found (find has (range_with_len from (size - from))) refl
  where
    below : (i : ℕ) → i < size → i < from → test i ≡ false
    below i inside before = is i inside ∙ and_right (has i) (nat_le from i) (false_from_ne_true (nat_le from i) (λ e. let more = leb-true from i e in absurd (omega (arith, more, before))))

    by_found : (o : Option ℕ) → o ≡ find has (range_with_len from (size - from)) → o ≡ least_region size test
    by_found None told = sym (find_none_is test 0 size (λ i above inside. elim (cases_lt i from) [
      | inl before ↦ below i (omega (arith, inside)) before
      | inr behind ↦ is i (omega (arith, inside)) ∙ and_left (has i) (nat_le from i) (next_none has size from None told refl i behind (omega (arith, inside)))
    ]))
    by_found (Some r) told =
        let next = next_found has size from r (Some r) told refl in
        let low = next.inside in
        sym (find_some_is test 0 size r (omega arith) (omega (arith, low)) (is r next.inside ∙ and_from (has r) (nat_le from r) next.passes (le-leb from r next.above))
        (λ i above under. elim (cases_lt i from) [
          | inl before ↦ below i (omega (arith, under, low)) before
          | inr behind ↦ is i (omega (arith, under, low)) ∙ and_left (has i) (nat_le from i) (next.before i behind under)
        ]))

-- Where none has the test none is found.
pub least_none : (test : ℕ → Bool) (size : ℕ) → ((r : ℕ) → r < size → test r ≡ false) → None ≡ least_region size test
least_none test size none = sym (find_none_is test 0 size (λ i above inside. none i (omega (arith, inside))))
