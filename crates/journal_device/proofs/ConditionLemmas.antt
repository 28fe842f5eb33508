-- A device works no more once the disk has failed in a call.
use Rattle.std.proofs.Common.{◌≡◌, Result, Err, sym, ◌∙◌, ap, subst}
use Rattle.device_parts.specs.declared.condition.Condition.{Condition}
use Rattle.device_parts.specs.declared.condition.Condition.TheVariants as Conditions
use Rattle.device_parts.specs.Answers.{condition_by}

pub works_no_more : {T E P : Type 0} (r : Result T E) (fault : E) → r ≡ Err fault → condition_by r ≡ Conditions.Working → P
works_no_more {T} {E} r fault failed works =
    let same : Conditions.Broken ≡ Conditions.Working = sym (ap (λ (x : Result T E). condition_by x) failed) ∙ works in
    absurd (subst (λ (c : Condition). elim c as (λ _. Type 0) [ Conditions.Working ↦ ⊥ | Conditions.Broken ↦ Unit {0} ]) same tt)
