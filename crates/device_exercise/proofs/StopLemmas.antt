-- What stops a call that was stopped in another one.
use Rattle.std.proofs.Common.{◌≡◌, ◌≢◌, ℕ, ◌≤◌, OnErr, Result, Ok, Err, refl, ◌∙◌, ap, subst, arith}
use Rattle.disk_model.specs.Causes.{Rose}
use Rattle.script_session.specs.Stop.{HasStopCause}
use Rattle.script_session.specs.declared.stop.Stop.{Stop}
use Rattle.script_session.specs.declared.stop.Stop.TheVariants as Stops

-- What holds anyway holds on an error.
pub on_err_any : {T E P : Type 0} (r : Result T E) → P → OnErr r P
on_err_any (Ok x) p = tt
on_err_any (Err e) p = p

-- A call that answers is not stopped.
pub not_stopped : {T : Type 0} (r : Result T Stop) (told : T) (stop : Stop) → r ≡ Ok told → r ≢ Err stop
not_stopped r told stop is other = absurd (cc)

same_stop : {T : Type 0} (r : Result T Stop) (one other : Stop) → r ≡ Err one → r ≡ Err other → one ≡ other
same_stop r one other is other_is = cc

module _ {T U : Type 0} (inner : Result T Stop) (outer : Result U Stop) (stop : Stop) (inner_is : inner ≡ Err stop)
    (outer_is : outer ≡ Err stop) where
  to_inner : (other : Stop) → outer ≡ Err other → inner ≡ Err other
  to_inner other is = inner_is ∙ ap Err (same_stop outer stop other outer_is is)

  to_outer : (other : Stop) → inner ≡ Err other → outer ≡ Err other
  to_outer other is = outer_is ∙ ap Err (same_stop inner stop other inner_is is)

  pub stopped_same : {P : Type 0} → (inner ≡ Err Stops.Disk → P) → outer ≡ Err Stops.Disk → P
  stopped_same if_disk is = if_disk (to_inner Stops.Disk is)

  pub passed_same : {P : Type 0} → (inner ≢ Err Stops.Disk → P) → outer ≢ Err Stops.Disk → P
  passed_same if_other is = if_other (λ e. is (to_outer Stops.Disk e))

  pub cause_behind : (before between after : ℕ) → between ≡ before → HasStopCause between after inner
      → HasStopCause before after outer
  cause_behind before between after same cause = record {
    later = subst (λ (n : ℕ). n ≤ after) same cause.later;
    failed = λ is. subst (λ (n : ℕ). Rose n after) same (cause.failed (to_inner Stops.Disk is));
    passed = λ is. cause.passed (λ e. is (to_outer Stops.Disk e)) ∙ same;
  }

pub cause_none : {T : Type 0} (told : T) (before after : ℕ) → after ≡ before
    → HasStopCause {T = T} before after (Ok told)
cause_none told before after same = record {
  later = omega (arith, same);
  failed = λ is. absurd (not_stopped (Ok told) told Stops.Disk refl is);
  passed = λ is. same;
}
