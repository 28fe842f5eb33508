-- The least number of a range that passes a test.
use Rattle.std.proofs.Common.{◌≡◌, inl, inr, ℕ, zero, suc, ◌+◌, ◌<◌, ◌≤◌, Bool, true, false, if◌then◌else◌, refl, sym, ◌∙◌, ap, arith, Option, Some, None, find}
use Rattle.std.specs.List.{range_with_len}
use Rattle.std.proofs.lemmas.Bool.{cases_Bool, cases_eq}
use Rattle.std.proofs.lemmas.Option.{none-some, same_Some}
use Rattle.device_model.specs.Regions.{least_region}
use Rattle.bitmap_laws.specs.EventLaws.{LeastLaw}

same_find : (one other : ℕ → Bool) (from count : ℕ) → ((region : ℕ) → from ≤ region → region < from + count → one region ≡ other region)
    → find one (range_with_len from count) ≡ find other (range_with_len from count)
same_find one other from zero same = refl
same_find one other from (suc count) same =
    ap (λ (t : Bool). if t then Some from else find one (range_with_len (from + 1) count)) (same from (omega arith) (omega arith))
    ∙ ap (λ (o : Option ℕ). if other from then Some from else o) (same_find one other (from + 1) count (λ region low high. same region (omega arith) (omega arith)))

-- The first number that is found passes, and none before it in the range.
pub find_least : (p : ℕ → Bool) (from count r : ℕ) → find p (range_with_len from count) ≡ Some r
    → (r < from + count) × (p r ≡ true) × ((i : ℕ) → from ≤ i → i < r → p i ≡ false)
find_least p from zero r e = absurd (none-some r e)
find_least p from (suc count) r e = elim (cases_Bool (p from)) [
  | inl passes ↦
      let same : from ≡ r = same_Some from r (rw passes at e) in
      (omega arith, ap p (sym same) ∙ passes, λ i above under. absurd (omega arith))
  | inr fails ↦
      let rest = find_least p (from + 1) count r (rw fails at e) in (
        omega (arith, rest.0),
        rest.1,
        λ i above under. elim (cases_eq i from) [
          | inl same ↦ ap p same ∙ fails
          | inr other ↦ rest.2 i (omega (arith, other)) under
        ],
      )
]

-- Where none is found none passes.
pub find_none : (p : ℕ → Bool) (from count : ℕ) → find p (range_with_len from count) ≡ None → (i : ℕ) → from ≤ i → i < from + count → p i ≡ false
find_none p from zero e i above under = absurd (omega arith)
find_none p from (suc count) e i above under = elim (cases_Bool (p from)) [
  | inl passes ↦ absurd (none-some from (sym (rw passes at e)))
  | inr fails ↦ elim (cases_eq i from) [
    | inl same ↦ ap p same ∙ fails
    | inr other ↦ find_none p (from + 1) count (rw fails at e) i (omega (arith, other)) (omega arith)
  ]
]

-- ---- for callers

pub least_law : LeastLaw
least_law count one other same = same_find one other 0 count (λ region low high. same region (omega arith))

-- The least region that passes is one of those, and passes.
pub least_found : (count : ℕ) (p : ℕ → Bool) (r : ℕ) → least_region count p ≡ Some r → (r < count) × (p r ≡ true)
least_found count p r e = let found = find_least p 0 count r e in (omega (arith, found.0), found.1)
