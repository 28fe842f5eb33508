-- Blocks that are alike in two buffers, one more after the other.
use Rattle.std.proofs.Common.{◌≡◌, ◌⊎◌, inl, inr, ℕ, zero, suc, ◌+◌, ◌<◌, List, refl, sym, ap, subst, arith}
use Rattle.mirror_calls.specs.Leg.{AreAlike, bytes_at}

less_or_same : (j k : ℕ) → j < suc k → (j < k) ⊎ (j ≡ k)
less_or_same zero zero lt = inr refl
less_or_same zero (suc k) lt = inl (omega arith)
less_or_same (suc j) zero lt = absurd (omega (arith, lt))
less_or_same (suc j) (suc k) lt = elim (less_or_same j k (omega (arith, lt))) [
  | inl less ↦ inl (omega (arith, less))
  | inr same ↦ inr (ap suc same)
]

pub AreAlike-none : (size : ℕ) (a b : List ℕ) → AreAlike size 0 a b
AreAlike-none size a b k low = absurd (omega (arith, low))

pub AreAlike-more : (size k : ℕ) (a b : List ℕ) → AreAlike size k a b → bytes_at size k a ≡ bytes_at size k b → AreAlike size (k + 1) a b
AreAlike-more size k a b before here j low = elim (less_or_same j k (omega (arith, low))) [
  | inl less ↦ before j less
  | inr same ↦ subst (λ (n : ℕ). bytes_at size n a ≡ bytes_at size n b) (sym same) here
]
