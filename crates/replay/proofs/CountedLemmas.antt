-- The first of the sections that count, by the two ranges of a walk.
use Rattle.std.proofs.Common.{◌≡◌, ℕ, zero, suc, ◌-◌, ◌<◌, ◌≤◌, refl, sym, ◌∙◌, ap, arith, List, [], ◌∷◌, ◌++◌, get_or}
use Rattle.std.specs.List.{range_with_len}
use Rattle.image_model.specs.Walk.{sections_of}

first_of_range : (from to : ℕ) (xs : List ℕ) → from < to → get_or (range_with_len from (to - from) ++ xs) 0 0 ≡ from
first_of_range from to xs low = by (to - from) refl
  where
    by : (n : ℕ) → to - from ≡ n → get_or (range_with_len from n ++ xs) 0 0 ≡ from
    by zero e = absurd (omega (arith, low, e))
    by (suc n) e = refl

behind_empty : (from to : ℕ) (xs : List ℕ) → to ≤ from → range_with_len from (to - from) ++ xs ≡ xs
behind_empty from to xs empty = ap (λ (n : ℕ). range_with_len from n ++ xs) (let e : to - from ≡ 0 = omega (arith, empty) in e)

-- It is that of the first range,
pub counted_first : (walk : List (ℕ × ℕ)) → (get_or walk 0 (0, 0)).0 < (get_or walk 0 (0, 0)).1 → (get_or walk 0 (0, 0)).0 ≡ get_or (sections_of walk) 0 0
counted_first [] some = absurd (omega (arith, some))
counted_first (range ∷ ranges) some = sym (first_of_range range.0 range.1 (sections_of ranges) some)

-- or where that is empty of the second.
pub counted_second : (walk : List (ℕ × ℕ)) → (get_or walk 0 (0, 0)).1 ≤ (get_or walk 0 (0, 0)).0 → (get_or walk 1 (0, 0)).0 < (get_or walk 1 (0, 0)).1
    → (get_or walk 1 (0, 0)).0 ≡ get_or (sections_of walk) 0 0
counted_second [] empty some = absurd (omega (arith, some))
counted_second (range ∷ []) empty some = absurd (omega (arith, some))
counted_second (range ∷ next ∷ ranges) empty some =
    sym (ap (λ (xs : List ℕ). get_or xs 0 0) (behind_empty range.0 range.1 (sections_of (next ∷ ranges)) empty) ∙ first_of_range next.0 next.1 (sections_of ranges) some)
