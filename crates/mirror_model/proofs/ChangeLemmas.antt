-- The changes of a mirror, leg by leg.
use Rattle.std.proofs.Common.{◌≡◌, List, [], ◌∷◌, ◌++◌, refl, ap}
use Rattle.device_model.specs.History.{Change, with_changes}
use Rattle.mirror_model.specs.Mirror.{MirrorChange, MirrorState, Asks, Takes, Does, Keeps, First, Second, with_mirror_change, with_mirror_changes, changes_on_first, changes_on_second}

-- They are what happens to the history of the first,
pub changes_on_first-is : (changes : List MirrorChange) (m : MirrorState) → (with_mirror_changes changes m).a.history ≡ with_changes (changes_on_first changes) m.a.history
changes_on_first-is [] m = refl
changes_on_first-is (Asks write ∷ changes) m = changes_on_first-is changes (with_mirror_change m (Asks write))
changes_on_first-is (Takes First ∷ changes) m = changes_on_first-is changes (with_mirror_change m (Takes First))
changes_on_first-is (Takes Second ∷ changes) m = changes_on_first-is changes (with_mirror_change m (Takes Second))
changes_on_first-is (Does First change ∷ changes) m = changes_on_first-is changes (with_mirror_change m (Does First change))
changes_on_first-is (Does Second change ∷ changes) m = changes_on_first-is changes (with_mirror_change m (Does Second change))
changes_on_first-is (Keeps ∷ changes) m = changes_on_first-is changes (with_mirror_change m Keeps)

-- and of the second.
pub changes_on_second-is : (changes : List MirrorChange) (m : MirrorState) → (with_mirror_changes changes m).b.history ≡ with_changes (changes_on_second changes) m.b.history
changes_on_second-is [] m = refl
changes_on_second-is (Asks write ∷ changes) m = changes_on_second-is changes (with_mirror_change m (Asks write))
changes_on_second-is (Takes First ∷ changes) m = changes_on_second-is changes (with_mirror_change m (Takes First))
changes_on_second-is (Takes Second ∷ changes) m = changes_on_second-is changes (with_mirror_change m (Takes Second))
changes_on_second-is (Does First change ∷ changes) m = changes_on_second-is changes (with_mirror_change m (Does First change))
changes_on_second-is (Does Second change ∷ changes) m = changes_on_second-is changes (with_mirror_change m (Does Second change))
changes_on_second-is (Keeps ∷ changes) m = changes_on_second-is changes (with_mirror_change m Keeps)

-- Of changes one after the other they stand one after the other.
pub changes_on_first-append : (xs ys : List MirrorChange) → changes_on_first (xs ++ ys) ≡ changes_on_first xs ++ changes_on_first ys
changes_on_first-append [] ys = refl
changes_on_first-append (Asks write ∷ xs) ys = changes_on_first-append xs ys
changes_on_first-append (Takes First ∷ xs) ys = changes_on_first-append xs ys
changes_on_first-append (Takes Second ∷ xs) ys = changes_on_first-append xs ys
changes_on_first-append (Does First change ∷ xs) ys = ap (λ (l : List Change). change ∷ l) (changes_on_first-append xs ys)
changes_on_first-append (Does Second change ∷ xs) ys = changes_on_first-append xs ys
changes_on_first-append (Keeps ∷ xs) ys = changes_on_first-append xs ys

-- So do those of the second.
pub changes_on_second-append : (xs ys : List MirrorChange) → changes_on_second (xs ++ ys) ≡ changes_on_second xs ++ changes_on_second ys
changes_on_second-append [] ys = refl
changes_on_second-append (Asks write ∷ xs) ys = changes_on_second-append xs ys
changes_on_second-append (Takes First ∷ xs) ys = changes_on_second-append xs ys
changes_on_second-append (Takes Second ∷ xs) ys = changes_on_second-append xs ys
changes_on_second-append (Does First change ∷ xs) ys = changes_on_second-append xs ys
changes_on_second-append (Does Second change ∷ xs) ys = ap (λ (l : List Change). change ∷ l) (changes_on_second-append xs ys)
changes_on_second-append (Keeps ∷ xs) ys = changes_on_second-append xs ys
