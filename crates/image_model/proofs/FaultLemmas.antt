-- Lemmas on the words of specs/Faults.antt.
use Rattle.std.proofs.Common.{◌≡◌, Bool, true, false, List, [], ◌∷◌, ◌++◌, Ok, Err, cond, refl, ap, ◌∙◌}
use Rattle.image_model.specs.Faults.{ok_unless}

-- No test holds.
abbrev pub HasPassed : {F : Type 0} → List (Bool × F) → Type 0
HasPassed [] = Unit {0}
HasPassed (fault ∷ later) = (fault.0 ≡ false) × HasPassed later

-- A value comes only where no test holds, and it is the one that was given.
pub ok_unless-told : {X F : Type 0} (faults : List (Bool × F)) (x y : X) → ok_unless faults x ≡ Ok y → (x ≡ y) × HasPassed faults
ok_unless-told [] x y told = (cc, tt)
ok_unless-told ((true, fault) ∷ later) x y told = absurd (cc)
ok_unless-told ((false, fault) ∷ later) x y told = let rest = ok_unless-told later x y told in (rest.0, (refl, rest.1))

-- Where no test holds the value comes.
pub ok_unless-passed : {X F : Type 0} (faults : List (Bool × F)) (x : X) → HasPassed faults → ok_unless faults x ≡ Ok x
ok_unless-passed [] x passed = refl
ok_unless-passed (fault ∷ later) x passed = ap (λ b. cond b (Err fault.1) (ok_unless later x)) passed.0 ∙ ok_unless-passed later x passed.1

-- A fault of the first tests is the fault of all.
pub ok_unless-append_err : {X Y F : Type 0} (faults later : List (Bool × F)) (x : X) (y : Y) (fault : F)
    → ok_unless faults x ≡ Err fault → ok_unless (faults ++ later) y ≡ Err fault
ok_unless-append_err [] later x y fault told = absurd (cc)
ok_unless-append_err ((true, first) ∷ faults) later x y fault told = cc
ok_unless-append_err ((false, first) ∷ faults) later x y fault told = ok_unless-append_err faults later x y fault told

-- Where the first tests pass, the later ones decide.
pub ok_unless-append_ok : {X Y F : Type 0} (faults later : List (Bool × F)) (x z : X) (y : Y)
    → ok_unless faults x ≡ Ok z → ok_unless (faults ++ later) y ≡ ok_unless later y
ok_unless-append_ok [] later x z y told = refl
ok_unless-append_ok ((true, first) ∷ faults) later x z y told = absurd (cc)
ok_unless-append_ok ((false, first) ∷ faults) later x z y told = ok_unless-append_ok faults later x z y told
