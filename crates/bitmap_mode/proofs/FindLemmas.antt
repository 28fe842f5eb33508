-- The least region that may be cleaned, and is not held.
use Rattle.std.proofs.Common.{◌≡◌, ◌≢◌, inl, inr, ℕ, ◌+◌, ◌-◌, ◌<◌, ◌≤◌, Bool, true, false, not, sym, ◌∙◌, arith, Option, Some, None, find}
use Rattle.std.specs.List.{range_with_len}
use Rattle.std.proofs.lemmas.Bool.{and_from, and_left, and_right, cases_eq, cases_lt, not_from_false, not_from_true}
use Rattle.device_model.specs.Regions.{RegionCounts, least_region, with_region}
use Rattle.bitmap_model.proofs.BitLemmas.{with_region-here, with_region-other}
use Rattle.dirty_bitmap.proofs.RangeLemmas.{find_none_is, find_some_is}
use Rattle.recalculation.proofs.FindLemmas.{IsNext, next_none}
use Rattle.bitmap_mode.specs.Cleaning.{may_be_cleaned}
use Rattle.bitmap_mode.specs.States.{may_be_clean}

module _ (c : RegionCounts) (is_held : ℕ → Bool) (size : ℕ) where
  -- One that is not held is that, where none before it is,
  pub least_free : (from r : ℕ) → IsNext (may_be_clean c) size from r → is_held r ≡ false → ((i : ℕ) → i < from → i < size → may_be_cleaned c is_held i ≡ false) → Some r ≡ least_region size (may_be_cleaned c is_held)
  least_free from r next free below =
      let low = next.inside in
      sym (find_some_is (may_be_cleaned c is_held) 0 size r (omega arith) (omega (arith, low)) (and_from (may_be_clean c r) (not (is_held r)) next.passes (not_from_false (is_held r) free))
      (λ i above under. elim (cases_lt i from) [
        | inl before ↦ below i before (omega (arith, under, low))
        | inr behind ↦ and_left (may_be_clean c i) (not (is_held i)) (next.before i behind under)
      ]))

  -- one that is held is passed with its span,
  pub pass_held : (from r end : ℕ) → IsNext (may_be_clean c) size from r → ((i : ℕ) → r ≤ i → i < end → is_held i ≡ true) → ((i : ℕ) → i < from → i < size → may_be_cleaned c is_held i ≡ false)
      → (i : ℕ) → i < end → i < size → may_be_cleaned c is_held i ≡ false
  pass_held from r end next held below i under inside = elim (cases_lt i from) [
    | inl before ↦ below i before inside
    | inr behind ↦ elim (cases_lt i r) [
      | inl between ↦ and_left (may_be_clean c i) (not (is_held i)) (next.before i behind between)
      | inr within ↦ and_right (may_be_clean c i) (not (is_held i)) (not_from_true (is_held i) (held i within under))
    ]
  ]

  -- and behind the last one there is none.
  pub least_none : (from : ℕ) (o : Option ℕ) → o ≡ find (may_be_clean c) (range_with_len from (size - from)) → o ≡ None → ((i : ℕ) → i < from → i < size → may_be_cleaned c is_held i ≡ false)
      → None ≡ least_region size (may_be_cleaned c is_held)
  least_none from o is none below = sym (find_none_is (may_be_cleaned c is_held) 0 size (λ i above inside. elim (cases_lt i from) [
    | inl before ↦ below i before (omega arith)
    | inr behind ↦ and_left (may_be_clean c i) (not (is_held i)) (next_none (may_be_clean c) size from o is none i behind (omega arith))
  ]))

-- ---- regions below one

-- Those below the one behind a region are those before it, those between, and it.
pub below_next : (p q : ℕ → Bool) (size from r : ℕ) → IsNext p size from r → ((i : ℕ) → q i ≡ with_region r false p i) → ((i : ℕ) → i < from → p i ≡ false) → (i : ℕ) → i < r + 1 → q i ≡ false
below_next p q size from r next takes below i under = elim (cases_eq r i) [
  | inl here ↦ takes i ∙ with_region-here r i false p here
  | inr apart ↦ takes i ∙ with_region-other r i false p apart ∙ elim (cases_lt i from) [
    | inl before ↦ below i before
    | inr behind ↦ next.before i behind (let other : r ≢ i = apart in omega (arith, under, other))
  ]
]
