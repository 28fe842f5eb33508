-- What stops a call that was stopped in another one.
use Rattle.std.proofs.Common.{◌≡◌, ◌≢◌, ℕ, ◌≤◌, IfErr, Result, Ok, Err, sym, ◌∙◌, ap, subst, arith}
use Rattle.disk_model.specs.Causes.{Rose}
use Rattle.nbd_flight.specs.declared.stop.Stop.{Stop}
use Rattle.nbd_flight.specs.declared.stop.Stop.TheVariants as Faults
use Rattle.nbd_flight.specs.Rounds.{HasCauses}

same_fault : {T : Type 0} (r : Result T Stop) (one other : Stop) → r ≡ Err one → r ≡ Err other → one ≡ other
same_fault r one other is other_is = cc

not_err : {T : Type 0} (told : T) (fault : Stop) → ◌≡◌ {A = Result T Stop} (Ok told) (Err fault) → ⊥
not_err told fault is = cc

-- What is told of the fault is told of the result.
pub if_err_of : {T : Type 0} (P : Stop → Type 0) (r : Result T Stop) (fault : Stop) → r ≡ Err fault → P fault → IfErr r P
if_err_of {T} P r fault is told = subst (λ (x : Result T Stop). IfErr x P) (sym is) told

-- Nothing stopped it.
pub causes_none : {T : Type 0} (told : T) (disk disk_now sink sink_now : ℕ) → disk_now ≡ disk → sink_now ≡ sink
    → HasCauses {T = T} disk disk_now sink sink_now (Ok told)
causes_none told disk disk_now sink sink_now same same_sink = record {
  disk_later = omega (arith, same);
  sink_later = omega (arith, same_sink);
  disk_failed = λ is. absurd (not_err told Faults.Disk is);
  sink_failed = λ is. absurd (not_err told Faults.Sink is);
  disk_passed = λ is. same;
  sink_passed = λ is. same_sink;
}

module _ {T U : Type 0} (inner : Result T Stop) (outer : Result U Stop) (fault : Stop)
    (inner_is : inner ≡ Err fault) (outer_is : outer ≡ Err fault) where
  to_inner : (other : Stop) → outer ≡ Err other → inner ≡ Err other
  to_inner other is = inner_is ∙ ap Err (same_fault outer fault other outer_is is)

  to_outer : (other : Stop) → inner ≡ Err other → outer ≡ Err other
  to_outer other is = outer_is ∙ ap Err (same_fault inner fault other inner_is is)

  -- It was stopped in another call, before which nothing had failed.
  pub causes_behind : (disk between disk_now sink sink_between sink_now : ℕ) → between ≡ disk → sink_between ≡ sink
      → HasCauses between disk_now sink_between sink_now inner → HasCauses disk disk_now sink sink_now outer
  causes_behind disk between disk_now sink sink_between sink_now same same_sink causes = record {
    disk_later = subst (λ (n : ℕ). n ≤ disk_now) same causes.disk_later;
    sink_later = subst (λ (n : ℕ). n ≤ sink_now) same_sink causes.sink_later;
    disk_failed = λ is. subst (λ (n : ℕ). Rose n disk_now) same (causes.disk_failed (to_inner Faults.Disk is));
    sink_failed = λ is. subst (λ (n : ℕ). Rose n sink_now) same_sink (causes.sink_failed (to_inner Faults.Sink is));
    disk_passed = λ is. causes.disk_passed (λ e. is (to_outer Faults.Disk e)) ∙ same;
    sink_passed = λ is. causes.sink_passed (λ e. is (to_outer Faults.Sink e)) ∙ same_sink;
  }

  -- What did not stop the other call did not stop it.
  pub passed_behind : (other : Stop) → inner ≢ Err other → outer ≢ Err other
  passed_behind other passed is = passed (to_inner other is)
