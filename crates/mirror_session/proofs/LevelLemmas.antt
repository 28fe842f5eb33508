-- What has stopped the levelling, as what ends it.
use Rattle.std.proofs.Common.{◌≡◌, inl, inr, ℕ, Bool, true, false, List, Option, None, Result, Err, refl, sym, subst, arith}
use Rattle.device_model.specs.Transcript.{Session}
use Rattle.mirror_model.specs.Mirror.{MirrorState}
use Rattle.mirror_calls.specs.declared.fault.LegName.TheVariants as Legs
use Rattle.mirror_calls.specs.declared.fault.MirrorFault.{MirrorFault}
use Rattle.mirror_calls.specs.declared.fault.MirrorFault.TheVariants as Faults
use Rattle.mirror_calls.specs.Faults.{IsOfCall, IsOfDisk}
use Rattle.mirror_calls.specs.Leg.{LegOn}
use Rattle.mirror_calls.specs.State.{AreLegs, HasLegCause}
use Rattle.script_text.specs.declared.line_end.LineEnd.{LineEnd}
use Rattle.script_text.specs.declared.line_end.LineEnd.TheVariants as Ends
use Rattle.script_session.specs.declared.stop.Stop.{Stop}
use Rattle.script_session.specs.declared.stop.Stop.TheVariants as Stops
use Rattle.mirror_session.specs.Answering.{TurnsAt, stop_of}
use Rattle.mirror_session.specs.AskRun.{HasAskCause, HasEndedLevel}
use Rattle.mirror_session.specs.Calls.{ended_by, refusal_in}

unrefused_by : (T : Type 0) (stop : Stop) → refusal_in {T = T} (Err (ended_by stop)) ≡ None
unrefused_by T Stops.Disk = refl
unrefused_by T Stops.Memory = refl

-- It is never refused.
pub unrefused : (T : Type 0) (end : LineEnd) (stop : Stop) → end ≡ ended_by stop → refusal_in {T = T} (Err end) ≡ None
unrefused T end stop is = subst (λ (e : LineEnd). refusal_in {T = T} (Err e) ≡ None) (sym is) (unrefused_by T stop)

module _ (a_stands b_stands : LegOn → Session → Type 0) (a b : LegOn) (m : MirrorState) (before now : Option (List ℕ)) where
  level_ended-by : (fault : MirrorFault) → IsOfCall fault → (fault ≡ Faults.Memory → AreLegs a_stands b_stands a b m)
      → HasEndedLevel a_stands b_stands a b m (ended_by (stop_of fault)) before now
  level_ended-by Faults.Broken called legs = absurd called
  level_ended-by (Faults.Range first count blocks) called legs = absurd called
  level_ended-by (Faults.Length have need) called legs = absurd called
  level_ended-by Faults.Memory called legs = inl (legs refl)
  level_ended-by (Faults.Disk leg) called legs = tt

  -- Where there was no memory nothing is done.
  pub level_ended : (end : LineEnd) (fault : MirrorFault) → end ≡ ended_by (stop_of fault) → IsOfCall fault
      → (fault ≡ Faults.Memory → AreLegs a_stands b_stands a b m) → HasEndedLevel a_stands b_stands a b m end before now
  level_ended end fault is called legs =
      subst (λ (e : LineEnd). HasEndedLevel a_stands b_stands a b m e before now) (sym is) (level_ended-by fault called legs)

module _ {T U : Type 0} (first_before first second_before second sink_before sink : ℕ) (same_sink : sink ≡ sink_before)
    (result : Result T MirrorFault) (end : Result U LineEnd) where
  -- A disk has ended it where the count of its leg rose.
  pub level_cause : (fault : MirrorFault) → result ≡ Err fault → end ≡ Err (ended_by (stop_of fault)) → IsOfCall fault
      → HasLegCause first_before first second_before second result
      → HasAskCause first_before first second_before second sink_before sink end
  level_cause Faults.Broken is ended called cause = absurd called
  level_cause (Faults.Range begin count blocks) is ended called cause = absurd called
  level_cause (Faults.Length have need) is ended called cause = absurd called
  level_cause Faults.Memory is ended called cause = record {
    first_later = cause.first_later;
    second_later = cause.second_later;
    sink_later = omega (arith, same_sink);
    disk_failed = λ same. absurd cc;
    sink_failed = λ same. absurd cc;
    disk_passed = λ other. (cause.first_passed (λ same. cc), cause.second_passed (λ same. cc));
    sink_passed = λ other. same_sink;
  }
  level_cause (Faults.Disk Legs.First) is ended called cause = record {
    first_later = cause.first_later;
    second_later = cause.second_later;
    sink_later = omega (arith, same_sink);
    disk_failed = λ same. inl (cause.first is, cause.second_passed (λ same. cc));
    sink_failed = λ same. absurd cc;
    disk_passed = λ other. absurd (other ended);
    sink_passed = λ other. same_sink;
  }
  level_cause (Faults.Disk Legs.Second) is ended called cause = record {
    first_later = cause.first_later;
    second_later = cause.second_later;
    sink_later = omega (arith, same_sink);
    disk_failed = λ same. inr (cause.first_passed (λ same. cc), cause.second is);
    sink_failed = λ same. absurd cc;
    disk_passed = λ other. absurd (other ended);
    sink_passed = λ other. same_sink;
  }

-- A disk has broken the mirror; where there was no memory it works.
pub level_turns : {U : Type 0} (broken : Bool) (end : Result U LineEnd) (fault : MirrorFault) → end ≡ Err (ended_by (stop_of fault)) → IsOfCall fault
    → (IsOfDisk fault → broken ≡ true) → (fault ≡ Faults.Memory → broken ≡ false) → TurnsAt Ends.Disk broken end
level_turns broken end Faults.Broken ended called breaks whole = absurd called
level_turns broken end (Faults.Range first count blocks) ended called breaks whole = absurd called
level_turns broken end (Faults.Length have need) ended called breaks whole = absurd called
level_turns broken end Faults.Memory ended called breaks whole = record { broken_ = λ same. absurd cc; works = λ other. whole refl }
level_turns broken end (Faults.Disk leg) ended called breaks whole = record { broken_ = λ same. breaks tt; works = λ other. absurd (other ended) }
