-- What ends a session that was ended in one of its calls.
use Rattle.std.proofs.Common.{◌≡◌, ℕ, ◌≤◌, IfErr, Result, Ok, Err, refl, sym, ◌∙◌, ap, subst, arith}
use Rattle.disk_model.specs.Causes.{HasCause, Rose}
use Rattle.nbd_flight.specs.declared.stop.Stop.{Stop}
use Rattle.nbd_flight.specs.declared.stop.Stop.TheVariants as stops
use Rattle.nbd_flight.specs.Rounds.{HasCauses}
use Rattle.nbd_session.specs.declared.ended.SessionFault.{SessionFault}
use Rattle.nbd_session.specs.declared.ended.SessionFault.TheVariants as faults
use Rattle.nbd_session.specs.Serving.{fault_of}
use Rattle.nbd_session.specs.Session.{HasSessionCauses}

not_err : {T : Type 0} (told : T) (fault : SessionFault) → ◌≡◌ {A = Result T SessionFault} (Ok told) (Err fault) → ⊥
not_err told fault is = cc

other : {T : Type 0} (one two : SessionFault) → (one ≡ two → ⊥) → ◌≡◌ {A = Result T SessionFault} (Err one) (Err two) → ⊥
other {T} one two differ is = differ (ap fault_in is)
  where
    fault_in : Result T SessionFault → SessionFault
    fault_in (Ok x) = two
    fault_in (Err fault) = fault

other_stop : {T : Type 0} (one two : Stop) → (one ≡ two → ⊥) → ◌≡◌ {A = Result T Stop} (Err one) (Err two) → ⊥
other_stop {T} one two differ is = differ (ap fault_in is)
  where
    fault_in : Result T Stop → Stop
    fault_in (Ok x) = two
    fault_in (Err fault) = fault

module _ {T : Type 0} (disk disk_now source source_now sink sink_now : ℕ) where
  -- Nothing did,
  pub session_none : (told : T) → disk_now ≡ disk → source_now ≡ source → sink_now ≡ sink
      → HasSessionCauses {T = T} disk disk_now source source_now sink sink_now (Ok told)
  session_none told same same_source same_sink = record {
    disk_later = omega (arith, same);
    source_later = omega (arith, same_source);
    sink_later = omega (arith, same_sink);
    disk_failed = λ is. absurd (not_err told faults.Disk is);
    source_failed = λ is. absurd (not_err told faults.Source is);
    sink_failed = λ is. absurd (not_err told faults.Sink is);
    disk_passed = λ is. same;
    source_passed = λ is. same_source;
    sink_passed = λ is. same_sink;
  }

  -- or there was no memory,
  pub session_memory : disk_now ≡ disk → source_now ≡ source → sink_now ≡ sink
      → HasSessionCauses {T = T} disk disk_now source source_now sink sink_now (Err faults.Memory)
  session_memory same same_source same_sink = record {
    disk_later = omega (arith, same);
    source_later = omega (arith, same_source);
    sink_later = omega (arith, same_sink);
    disk_failed = λ is. absurd (other faults.Memory faults.Disk (λ e. cc) is);
    source_failed = λ is. absurd (other faults.Memory faults.Source (λ e. cc) is);
    sink_failed = λ is. absurd (other faults.Memory faults.Sink (λ e. cc) is);
    disk_passed = λ is. same;
    source_passed = λ is. same_source;
    sink_passed = λ is. same_sink;
  }

  -- or the source failed,
  pub session_source : disk_now ≡ disk → source ≤ source_now → Rose source source_now → sink_now ≡ sink
      → HasSessionCauses {T = T} disk disk_now source source_now sink sink_now (Err faults.Source)
  session_source same later rose same_sink = record {
    disk_later = omega (arith, same);
    source_later = later;
    sink_later = omega (arith, same_sink);
    disk_failed = λ is. absurd (other faults.Source faults.Disk (λ e. cc) is);
    source_failed = λ is. rose;
    sink_failed = λ is. absurd (other faults.Source faults.Sink (λ e. cc) is);
    disk_passed = λ is. same;
    source_passed = λ is. absurd (is refl);
    sink_passed = λ is. same_sink;
  }

  -- or the disk in the close;
  pub session_disk : disk ≤ disk_now → Rose disk disk_now → source_now ≡ source → sink_now ≡ sink
      → HasSessionCauses {T = T} disk disk_now source source_now sink sink_now (Err faults.Disk)
  session_disk later rose same_source same_sink = record {
    disk_later = later;
    source_later = omega (arith, same_source);
    sink_later = omega (arith, same_sink);
    disk_failed = λ is. rose;
    source_failed = λ is. absurd (other faults.Disk faults.Source (λ e. cc) is);
    sink_failed = λ is. absurd (other faults.Disk faults.Sink (λ e. cc) is);
    disk_passed = λ is. absurd (is refl);
    source_passed = λ is. same_source;
    sink_passed = λ is. same_sink;
  }

  -- or what stopped the requests, before which nothing had failed.
  pub session_stop : {U : Type 0} (stop : Stop) (between sink_between : ℕ) → between ≡ disk → source_now ≡ source → sink_between ≡ sink
      → HasCauses {T = U} between disk_now sink_between sink_now (Err stop)
      → HasSessionCauses {T = T} disk disk_now source source_now sink sink_now (Err (fault_of stop))
  session_stop stops.Memory between sink_between same same_source same_sink causes =
      session_memory (causes.disk_passed (other_stop stops.Memory stops.Disk (λ e. cc)) ∙ same) same_source (causes.sink_passed (other_stop stops.Memory stops.Sink (λ e. cc)) ∙ same_sink)
  session_stop stops.Disk between sink_between same same_source same_sink causes =
      session_disk (subst (λ (n : ℕ). n ≤ disk_now) same causes.disk_later) (subst (λ (n : ℕ). Rose n disk_now) same (causes.disk_failed refl)) same_source
      (causes.sink_passed (other_stop stops.Disk stops.Sink (λ e. cc)) ∙ same_sink)
  session_stop stops.Sink between sink_between same same_source same_sink causes =
      let disk_same = causes.disk_passed (other_stop stops.Sink stops.Disk (λ e. cc)) ∙ same in
      record {
        disk_later = omega (arith, disk_same);
        source_later = omega (arith, same_source);
        sink_later = subst (λ (n : ℕ). n ≤ sink_now) same_sink causes.sink_later;
        disk_failed = λ is. absurd (other faults.Sink faults.Disk (λ e. cc) is);
        source_failed = λ is. absurd (other faults.Sink faults.Source (λ e. cc) is);
        sink_failed = λ is. subst (λ (n : ℕ). Rose n sink_now) same_sink (causes.sink_failed refl);
        disk_passed = λ is. disk_same;
        source_passed = λ is. same_source;
        sink_passed = λ is. absurd (is refl);
      }

-- Nothing had failed before a close, which answers so.
pub session_close : {T : Type 0} (r : Result T SessionFault) (disk between disk_now source source_now sink sink_now : ℕ) → between ≡ disk → source_now ≡ source
    → sink_now ≡ sink → IfErr r (λ fault. fault ≡ faults.Disk) → HasCause between disk_now r
    → HasSessionCauses disk disk_now source source_now sink sink_now r
session_close (Ok told) disk between disk_now source source_now sink sink_now same same_source same_sink is cause =
    session_none disk disk_now source source_now sink sink_now told (cause.passed ∙ same) same_source same_sink
session_close {T} (Err fault) disk between disk_now source source_now sink sink_now same same_source same_sink is cause =
    subst (λ (e : SessionFault). HasSessionCauses {T = T} disk disk_now source source_now sink sink_now (Err e)) (sym is)
    (session_disk disk disk_now source source_now sink sink_now (subst (λ (n : ℕ). n ≤ disk_now) same cause.later) (subst (λ (n : ℕ). Rose n disk_now) same cause.failed) same_source same_sink)
