-- A list that is folded one element at a time, as a loop does.
use Rattle.std.proofs.Common.{◌≡◌, ◌<◌, ◌≤◌, ◌+◌, ℕ, zero, suc, add-one, ap, arith, List, [], ◌∷◌, map, fold, take}
use Rattle.std.proofs.Common.{length, get_or}

next : {X Y Z : Type 0} (g : Y → Z → Y) (f : X → Z) (a now : Y) (xs : List X) (i : ℕ) (d : X) → i < length xs
    → now ≡ fold g a (take i (map f xs)) → g now (f (get_or xs i d)) ≡ fold g a (take (suc i) (map f xs))
next g f a now [] i d lt is = absurd (omega arith)
next g f a now (y ∷ ys) zero d lt is = ap (λ z. g z (f y)) is
next g f a now (y ∷ ys) (suc i) d lt is = next g f (g a (f y)) now ys i d (omega arith) is

-- one more element
pub fold_step : {X Y Z : Type 0} (g : Y → Z → Y) (f : X → Z) (a now : Y) (xs : List X) (i : ℕ) (d : X) → i < length xs
    → now ≡ fold g a (take i (map f xs)) → g now (f (get_or xs i d)) ≡ fold g a (take (i + 1) (map f xs))
fold_step g f a now xs i d lt is = rw add-one (next g f a now xs i d lt is)

-- the whole list
pub fold_whole : {X Y Z : Type 0} (g : Y → Z → Y) (f : X → Z) (a now : Y) (xs : List X) (i : ℕ) → length xs ≤ i
    → now ≡ fold g a (take i (map f xs)) → now ≡ fold g a (map f xs)
fold_whole g f a now [] zero over is = is
fold_whole g f a now [] (suc i) over is = is
fold_whole g f a now (y ∷ ys) zero over is = absurd (omega arith)
fold_whole g f a now (y ∷ ys) (suc i) over is = fold_whole g f (g a (f y)) now ys i (omega arith) is
