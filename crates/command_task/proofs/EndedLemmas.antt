-- A command ends one way: what came to its end was not ended, and what ended it is one.
use Rattle.std.proofs.Common.{◌≡◌, sym, subst, ◌∙◌, Result, Ok, Err, ap}
use Rattle.command_ending.specs.declared.ended.Ended.{Ended}

abbrev is_ok_type : {T E : Type 0} → Result T E → Type 0
is_ok_type (Ok x) = Unit {0}
is_ok_type (Err e) = ⊥

-- What is Ok is no error.
pub ok_no_err : {T E : Type 0} (r : Result T E) (x : T) (e : E) → r ≡ Ok x → r ≡ Err e → ⊥
ok_no_err r x e is_ok is_err = subst is_ok_type (sym is_ok ∙ is_err) tt

-- What came to its end was not ended.
pub not_ended : {T : Type 0} {result : Result T Ended} (told : T) (ended : Ended) → result ≡ Ok told → result ≡ Err ended → ⊥
not_ended told ended is other = absurd (cc)

-- Two of them are the same where their results are.
abbrev ended_or : {T : Type 0} → (other : Ended) → Result T Ended → Ended
ended_or other (Ok told) = other
ended_or other (Err ended) = ended

pub same_ended : {T : Type 0} (ended other : Ended) (r : Result T Ended) → r ≡ Err ended → r ≡ Err other → ended ≡ other
same_ended ended other r is is_other = ap (ended_or ended) (sym is ∙ is_other)
