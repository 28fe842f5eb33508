-- What the calls of a device tell of each device that it is, and what a call leaves that is to do some events.
use Rattle.std.specs.Prelude.{◌≡◌, ◌<◌, ℕ, suc, List, Option, Some, Result, IfOk, OnErr, OnOk}
use Rattle.disk_model.specs.Disk.{Content}
use Rattle.disk_model.specs.Identity.{DiskIdentity}
use Rattle.device_model.specs.Actors.{actor_of}
use Rattle.device_model.specs.Progress.{Answer, Close, Event, FailedClose, IsClosed, Submit, answers}
use Rattle.device_model.specs.Script.{last_answer}
use Rattle.request_slots.specs.declared.reply.Reply.{Reply}
use Rattle.request_slots.specs.declared.request.Request.{Request}
use Rattle.request_slots.specs.declared.submit_fault.SubmitFault.{SubmitFault}
use Rattle.request_slots.specs.InFlight.{as_submission, submit_answer}
use Rattle.request_slots.specs.Submitting.{after_submit}
use Rattle.device_model.specs.declared.actor.Actor.{Actor}
use Rattle.device_parts.specs.declared.answers.Moved.{Moved}
use Rattle.device_parts.specs.declared.answers.Served.{Served}
use Rattle.device_parts.specs.declared.answers.StepFault.{StepFault}
use Rattle.device_parts.specs.declared.condition.Condition.{Condition}
use Rattle.device_parts.specs.declared.condition.Condition.TheVariants.{Working}
use Rattle.device_parts.specs.Answers.{HasServed, HasStepped, HasTaken, IsSerial, answer_by, condition_by}
use Rattle.device_parts.specs.Answers.{event_by, turns_left}
use Rattle.device_parts.specs.Device.{Answers, HasEnded, IsDone, KeepsParts, Standing}
use Rattle.device.specs.declared.mode.DeviceParts.{DeviceParts}
use Rattle.device.specs.Answers.{IsAtRest, WritesInClose, WritesInServe, WritesInStep, refusal_in}
use Rattle.device.specs.Device.{IsDevice, IsReady, any_mode, mode_of, with_slots}
use Rattle.device.specs.Run.{HasFailed, HasRun}

-- ---- one call

-- Why a request that is submitted to a device comes back, if it does.
abbrev pub refusal_to : DeviceParts → Condition → Request → Option SubmitFault
refusal_to parts condition request = refusal_in (mode_of parts.mode) condition parts.common.slots request

-- What is kept of a device behind that, which is nothing more where it comes back.
abbrev pub with_submitted : DeviceParts → Condition → Request → DeviceParts
with_submitted parts condition request =
    with_slots parts (after_submit (refusal_to parts condition request) request parts.common.slots)

-- Whichever device it is, a serve is its event,
abbrev pub Serves : ℕ → Result Served StepFault → Condition → (old new : DeviceParts)
    → (before after : List Content) → Type 0
Serves ticket result condition old new before after = (w : Standing) → IsDevice w condition old before
    → HasServed any_mode w ticket result (condition_by result) new before after

-- and so is a step,
abbrev pub Steps : Actor → Result Moved StepFault → Condition → (old new : DeviceParts) → (before after : List Content)
    → Type 0
Steps actor result condition old new before after = (w : Standing) → IsDevice w condition old before
    → HasStepped any_mode w (actor_of actor) result (condition_by result) new before after

-- a submission,
abbrev pub Submits : Request → Condition → (old new : DeviceParts) → (before after : List Content) → Type 0
Submits request condition old new before after = (w : Standing) → IsDevice w condition old before
    → IsDone any_mode w (Submit (as_submission request))
    (submit_answer (refusal_to old condition request) (suc old.common.slots.submitted)) condition new after after

-- the taking of a reply,
abbrev pub Takes : ℕ → Result Reply ℕ → Condition → (old new : DeviceParts) → (before after : List Content) → Type 0
Takes ticket result condition old new before after = (w : Standing) → IsDevice w condition old before
    → HasTaken any_mode w ticket result condition new after

-- and a close.
abbrev pub Closes : {T : Type 0} → Result T StepFault → Condition → DeviceParts → (before after : List Content) → Type 0
Closes result condition old before after = (w : Standing) → IsDevice w condition old before
    → HasEnded any_mode w (event_by Close FailedClose result) (answer_by (λ done. IsClosed) result) before after

-- A reply that is taken of it is serial.
abbrev pub GivesSerial : ℕ → Condition → DeviceParts → List Content → Result Reply ℕ → Type 0
GivesSerial ticket condition parts moments result = IfOk result (λ reply. (w : Standing)
    → IsDevice w condition parts moments → IsSerial w ticket reply)

-- A close that answers well leaves each image as its mode has it.
abbrev pub LeavesAtRest : {T E : Type 0} → Result T E → Condition → DeviceParts → (before after : List Content) → Type 0
LeavesAtRest result condition parts before after = OnOk result ((w : Standing)
    → IsDevice w condition parts before → IsAtRest parts.mode w after)

-- What is ready before a call is ready behind it.
abbrev pub StaysReady : {D : Type 0} → (D → DiskIdentity) → (D → List Content) → Condition → (old new : DeviceParts)
    → (first last : D) → Type 0
StaysReady identity moments condition old new first last = IsReady condition old (identity first) (moments first)
    → IsReady condition new (identity last) (moments last)

-- By what a call answers, it keeps the parts.
abbrev pub Keeps : {T E : Type 0} → Result T E → (old new : DeviceParts) → (disk now : DiskIdentity) → List Content
    → Type 0
Keeps result old new disk now after = KeepsParts any_mode (condition_by result) old new disk now after

-- A device that works writes in a serve what its mode does,
abbrev pub WritesServing : Condition → ℕ → (old new : DeviceParts) → (before after : List Content) → Type 0
WritesServing condition ticket old new before after = condition ≡ Working
    → WritesInServe old.mode ticket old.common new.common before after

-- so in a step,
abbrev pub WritesStepping : Condition → Actor → DeviceParts → (before after : List Content) → Type 0
WritesStepping condition actor old before after = condition ≡ Working
    → WritesInStep old.mode actor old.common before after

-- and in a close.
abbrev pub WritesClosing : Condition → DeviceParts → (before after : List Content) → Type 0
WritesClosing condition old before after = condition ≡ Working → WritesInClose old.mode old.common before after

-- The request has fewer turns left.
abbrev pub HasFewerTurns : ℕ → (old new : DeviceParts) → Type 0
HasFewerTurns ticket old new = turns_left ticket new.common.slots < turns_left ticket old.common.slots

-- ---- calls that are to do some events

-- The device works, and what it keeps is ready for its disk.
pub record Works {D : Type 0} (identity : D → DiskIdentity) (moments : D → List Content) (condition : Condition)
    (parts : DeviceParts) (disk : D) : Type 0 where
  pub ready : IsReady condition parts (identity disk) (moments disk)
  pub is : condition ≡ Working

-- On a device that works all of its events are done; or the disk has failed in one. Both ways the same requests are in
-- flight on the same disk, and the device works, or is broken.
pub record Runs {D T E : Type 0} (identity : D → DiskIdentity) (moments : D → List Content)
    (events : Standing → List Event) (old new : DeviceParts) (first last : D) (result : Result T E) : Type 0 where
  pub done : OnOk result ((w : Standing) → IsDevice w Working old (moments first)
      → HasRun w (events w) new (moments first) (moments last))
  pub err : OnErr result ((w : Standing) → IsDevice w Working old (moments first)
      → HasFailed w (events w) new (moments first) (moments last))
  pub keeps : Keeps result old new (identity first) (identity last) (moments last)

-- It answers an event so,
abbrev pub AnswersEvent : {T E : Type 0} → Event → (T → Answer) → DeviceParts → List Content → Result T E → Type 0
AnswersEvent event told parts moments result = IfOk result (λ answer. (w : Standing)
    → IsDevice w Working parts moments → Answers w event (told answer))

-- or the last of some.
abbrev pub AnswersLast : {T E : Type 0} → (Standing → List Event) → (T → Answer) → DeviceParts → List Content
    → Result T E → Type 0
AnswersLast events told parts moments result = IfOk result (λ answer. (w : Standing)
    → IsDevice w Working parts moments → last_answer (answers w.format w.state (events w)) ≡ Some (told answer))
