-- Lists of which each element has a property.
use Rattle.std.proofs.Common.{◌≡◌, ℕ, zero, suc, subst, arith, Some, List, [], ◌∷◌, ◌++◌, take, drop, slice_get}
use Rattle.std.proofs.lemmas.Option.{slice_get_within, get_or_from_slice_get}
use Rattle.std.specs.List.{AllByRecursion, flat_map}

pub all_take : {A : Type 0} (P : A → Type 0) (k : ℕ) (xs : List A) → AllByRecursion P xs → AllByRecursion P (take k xs)
all_take P zero xs all = tt
all_take P (suc k) [] all = tt
all_take P (suc k) (x ∷ xs) all = (all.0, all_take P k xs all.1)

pub all_drop : {A : Type 0} (P : A → Type 0) (k : ℕ) (xs : List A) → AllByRecursion P xs → AllByRecursion P (drop k xs)
all_drop P zero xs all = all
all_drop P (suc k) [] all = tt
all_drop P (suc k) (x ∷ xs) all = all_drop P k xs all.1

pub all_append : {A : Type 0} (P : A → Type 0) (xs ys : List A) → AllByRecursion P xs → AllByRecursion P ys → AllByRecursion P (xs ++ ys)
all_append P [] ys one other = other
all_append P (x ∷ xs) ys one other = (one.0, all_append P xs ys one.1 other)

-- An entry of a list of which all are is one.
pub all_get : {A : Type 0} (P : A → Type 0) (xs : List A) (k : ℕ) (x : A) → AllByRecursion P xs → slice_get xs k ≡ Some x → P x
all_get P [] k x all e = absurd (let low = slice_get_within [] k x e in omega arith)
all_get P (y ∷ ys) zero x all e = subst P (let same : y ≡ x = get_or_from_slice_get (y ∷ ys) 0 x x e in same) all.0
all_get P (y ∷ ys) (suc k) x all e = all_get P ys k x all.1 e

-- Where all of some lists are, all of their elements are.
pub all_flat : {A : Type 0} (P : A → Type 0) (xs : List (List A)) → AllByRecursion (AllByRecursion P) xs → AllByRecursion P (flat_map (λ x. x) xs)
all_flat P [] all = tt
all_flat P (x ∷ xs) all = all_append P x (flat_map (λ y. y) xs) all.0 (all_flat P xs all.1)
