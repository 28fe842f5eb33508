-- What the calls of a device in recovery mode answer, and what stays.
use Rattle.std.specs.Prelude.{◌≡◌, ◌≢◌, ℕ, suc, List, [], None, Option, Some}
use Rattle.std.specs.Option.{option_or}
use Rattle.disk_model.specs.Disk.{Content}
use Rattle.device_model.specs.Progress as Model
use Rattle.direct_laws.specs.MomentLaws.{IsLeftThrough}
use Rattle.request_slots.specs.declared.request.Request.{Request}
use Rattle.request_slots.specs.declared.request.Request.TheVariants.{Read, Write, Flush}
use Rattle.request_slots.specs.declared.submit_fault.SubmitFault.{SubmitFault}
use Rattle.request_slots.specs.declared.submit_fault.SubmitFault.TheVariants as Faults
use Rattle.request_slots.specs.Flight.{Flight, slot_of}
use Rattle.request_slots.specs.InFlight.{as_submission, submit_answer}
use Rattle.request_slots.specs.Submitting.{fault_of}
use Rattle.device_parts.specs.declared.condition.Condition.{Condition}
use Rattle.device_parts.specs.declared.condition.Condition.TheVariants as Conditions
use Rattle.device_parts.specs.Device.{IsDone, Standing}
use Rattle.device_parts.specs.declared.parts.Parts.{Parts}
use Rattle.recovery_device.specs.Device.{IsRecovering, in_recovery}

-- ---- a serve

-- Each other request in flight is as far as it was.
pub record KeepsOthers (ticket : ℕ) (old new : Flight) : Type 0 where
  pub each : (other : ℕ) → other ≢ ticket → slot_of other new ≡ slot_of other old

-- ---- a submission

-- A write is read only.
abbrev pub write_refusal : Request → Option SubmitFault
write_refusal (Read first count buffer) = None
write_refusal (Write first count bytes fua) = Some Faults.ReadOnly
write_refusal Flush = None

-- Why a request is refused whatever its blocks are, if it is. A broken device takes none.
abbrev pub own_refusal : Condition → Request → Option SubmitFault
own_refusal Conditions.Working request = write_refusal request
own_refusal Conditions.Broken request = Some Faults.Broken

-- Why a request is refused, if it is.
abbrev pub refusal_of : Condition → Flight → Request → Option SubmitFault
refusal_of condition flight request = option_or (own_refusal condition request) (fault_of flight request)

-- A submission is answered so, and no disk is called.
abbrev pub Submits : Request → Condition → (old new : Parts) → List Content → Type 0
Submits request condition old new moments = (w : Standing) → IsRecovering w condition old moments
    → IsDone in_recovery w (Model.Submit (as_submission request))
    (submit_answer (refusal_of condition old.slots request) (suc old.slots.submitted))
    condition new moments moments

-- ---- a step and the end

-- A step of an actor is idle.
abbrev pub RestLaw : Type 0
RestLaw = (w : Standing) (parts : Parts) (moments : List Content) (actor : Model.Actor)
    → IsRecovering w Conditions.Working parts moments
    → Model.event_result w.format w.state (Model.Step actor) ≡ Model.only_answers w.state.progress Model.Idle

-- A close answers well, and nothing of the history changes; the device is closed. No moment is added by it.
pub record IsEnded (w : Standing) (moments : List Content) : Type 0 where
  pub answers : (Model.event_result w.format w.state Model.Close).answer ≡ Model.IsClosed
  pub changes : (Model.event_result w.format w.state Model.Close).changes ≡ []
  pub closed : (Model.after_event w.format w.state Model.Close).condition ≡ Model.Closed
  pub through : IsLeftThrough (in_recovery.kind w) w.entry w.format w.state Model.Close moments moments

abbrev pub EndLaw : Type 0
EndLaw = (w : Standing) (parts : Parts) (moments : List Content)
    → IsRecovering w Conditions.Working parts moments → IsEnded w moments
