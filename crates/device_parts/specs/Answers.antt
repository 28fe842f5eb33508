-- What the calls of a device answer, as the events of `device_model` do.
use Rattle.std.specs.Prelude.{◌≡◌, ◌≢◌, ◌↔◌, ℕ, suc, ◌-◌, ◌*◌, ◌<◌, ◌≤◌, Bool, true, false, List, if◌then◌else◌, Option, Some, None, Result, Ok, Err, IfOk}
use Rattle.std.specs.Str.{bytes_eq}
use Rattle.disk_model.specs.Causes.{Rose}
use Rattle.disk_model.specs.Disk.{Content}
use Rattle.image_model.specs.Tag.{tag_of}
use Rattle.device_model.specs.Actors.{actor_of}
use Rattle.device_model.specs.Progress as Model
use Rattle.device_model.specs.Request as Asks
use Rattle.device_model.specs.RequestLaws.{IsSerialReply}
use Rattle.hmac_tag.specs.TagMaker.{TagRule}
use Rattle.request_slots.specs.declared.reply.Reply.{Reply}
use Rattle.request_slots.specs.declared.turn.Turn.{Turn}
use Rattle.request_slots.specs.declared.turn.Turn.TheVariants as Turns
use Rattle.request_slots.specs.declared.request.Request.{Request}
use Rattle.request_slots.specs.declared.submit_fault.SubmitFault.{SubmitFault}
use Rattle.request_slots.specs.declared.submit_fault.SubmitFault.TheVariants as SubmitFaults
use Rattle.request_slots.specs.declared.slot.Slot.{Slot}
use Rattle.request_slots.specs.Flight.{Flight, count_in, is_unfinished, slot_of}
use Rattle.request_slots.specs.InFlight.{as_reply, returned_in}
use Rattle.request_slots.specs.Submitting as Submitting
use Rattle.request_slots.specs.Submitting.{after_submit, fault_of}
use Rattle.request_slots.specs.Serving.{with_block_read, with_change, with_fault}
use Rattle.device_model.specs.declared.actor.Actor.{Actor}
use Rattle.device_model.specs.declared.actor.Actor.TheVariants as Actors
use Rattle.device_parts.specs.declared.answers.Moved.{Moved}
use Rattle.device_parts.specs.declared.answers.Moved.TheVariants as Moves
use Rattle.device_parts.specs.declared.answers.Served.{Served}
use Rattle.device_parts.specs.declared.answers.Served.TheVariants as Serves
use Rattle.device_parts.specs.declared.answers.StepFault.{StepFault}
use Rattle.device_parts.specs.declared.answers.StepFault.TheVariants as Faults
use Rattle.device_parts.specs.declared.condition.Condition.{Condition}
use Rattle.device_parts.specs.declared.condition.Condition.TheVariants as Conditions
use Rattle.device_parts.specs.declared.parts.Parts.{Parts}
use Rattle.device_parts.specs.Device.{DeviceMode, Does, HasDone, IsDone, KeepsFlight, Standing}

-- ---- what needs no read of the disk

-- Nothing is done in this turn, or all is flushed: no block is read or written.
abbrev pub IsOfNoBlock : Turn → Type 0
IsOfNoBlock (Turns.Read block) = ⊥
IsOfNoBlock (Turns.Write block is_flushed) = ⊥
IsOfNoBlock turn = Unit {0}

-- No block is read in this turn.
abbrev pub IsOfNoRead : Turn → Type 0
IsOfNoRead (Turns.Read block) = ⊥
IsOfNoRead turn = Unit {0}

-- The step of an actor that writes what is in memory, and syncs.
abbrev pub IsUnreadStep : Actor → Type 0
IsUnreadStep Actors.Commit = Unit {0}
IsUnreadStep Actors.Settle = Unit {0}
IsUnreadStep actor = ⊥

-- ---- a serve

-- What a request answers once it is served, by what is done next for it.
abbrev pub served_by : Turn → Served
served_by Turns.Finished = Serves.Done
served_by (Turns.Held by) = Serves.Did
served_by (Turns.Read block) = Serves.Did
served_by (Turns.Write block is_flushed) = Serves.Did
served_by Turns.Flush = Serves.Did

abbrev pub served_answer : Served → Model.Answer
served_answer (Serves.Held by) = Model.HeldBy by
served_answer Serves.Did = Model.Did
served_answer Serves.Done = Model.Done
served_answer Serves.NoRoom = Model.NoRoom

-- The request waits: for another one, or for room.
abbrev pub waits : Served → Bool
waits (Serves.Held by) = true
waits Serves.Did = false
waits Serves.Done = false
waits Serves.NoRoom = true

-- How often a request is still served at most: once for each block that is not served yet, and once more.
abbrev pub turns_in : Option Slot → ℕ
turns_in None = 0
turns_in (Some slot) = if is_unfinished slot then suc (count_in slot.request - slot.served) else 0

-- That of the request of this ticket: none where it is done, or not in flight.
abbrev pub turns_left : ℕ → Flight → ℕ
turns_left ticket flight = turns_in (slot_of ticket flight)

-- The tag of a block's bytes, by the rule.
abbrev pub tag_by : TagRule → (spb block : ℕ) → List ℕ → List ℕ
tag_by rule spb block bytes = tag_of rule.key rule.salt rule.size (block * spb) bytes

-- Those in flight once the buffer was read for a block with this tag.
abbrev pub after_read : (ticket block : ℕ) → (stored : List ℕ) → Parts → Flight
after_read ticket block stored parts =
    let bytes = parts.buffer.items in
    let computed = tag_by parts.maker parts.spb block bytes in
    if bytes_eq stored computed
    then with_change ticket (with_block_read parts.slots.block_size bytes) parts.slots
    else with_change ticket (with_fault block stored computed) parts.slots

-- A device that works does what is next for a request. `Did` leaves the request fewer turns, and where it waits,
-- nothing is changed. The same requests are in flight.
pub record ServesNext {Kept E : Type 0} (mode : DeviceMode Kept) (ticket : ℕ) (old new : Kept)
    (before after : List Content) (result : Result Served E) : Type 0 where
  pub does : Does mode (Model.Serve ticket) (Model.FailedServe ticket) served_answer old new before after result
  pub goes_on : IfOk result (λ served. served ≡ Serves.Did
      → turns_left ticket (mode.parts new).slots < turns_left ticket (mode.parts old).slots)
  pub waiting : IfOk result (λ served. waits served ≡ true → (new ≡ old) × (after ≡ before))
  pub flight : KeepsFlight (mode.parts old).slots (mode.parts new).slots

-- ---- a step

abbrev pub moved_answer : Moved → Model.Answer
moved_answer Moves.Did = Model.Did
moved_answer Moves.Idle = Model.Idle

-- A device that works lets an actor do its next step.
abbrev pub StepsNext : {Kept E : Type 0} → DeviceMode Kept → Actor → (old new : Kept) → (before after : List Content)
    → Result Moved E → Type 0
StepsNext mode actor old new before after result =
    Does mode (Model.Step (actor_of actor)) (Model.FailedStep (actor_of actor)) moved_answer old new before after result

-- ---- events

-- The event that a call is which answers so, where the disk failed in it or not.
abbrev pub event_by : {T : Type 0} → (event failed : Model.Event) → Result T StepFault → Model.Event
event_by event failed (Ok done) = event
event_by event failed (Err Faults.Disk) = failed
event_by event failed (Err Faults.Broken) = event

abbrev pub answer_by : {T : Type 0} → (T → Model.Answer) → Result T StepFault → Model.Answer
answer_by told (Ok done) = told done
answer_by told (Err Faults.Disk) = Model.DiskFailed
answer_by told (Err Faults.Broken) = Model.IsBroken

-- The condition after a call that answers so.
abbrev pub condition_by : {T E : Type 0} → Result T E → Condition
condition_by (Ok done) = Conditions.Working
condition_by (Err fault) = Conditions.Broken

-- The count of faults never falls; `Disk` comes only where it rose, and else it is as it was.
pub record HasStepCause {T : Type 0} (before after : ℕ) (result : Result T StepFault) : Type 0 where
  pub later : before ≤ after
  pub failed : result ≡ Err Faults.Disk → Rose before after
  pub passed : result ≢ Err Faults.Disk → after ≡ before

-- `Broken` is told exactly where a disk has failed the device before, and then nothing is done with the disk. Where
-- the disk fails, the device is broken from then on.
pub record TurnsBroken {T A : Type 0} (old new : Condition) (result : Result T StepFault) (first last : A) : Type 0 where
  pub broken : (old ≡ Conditions.Broken) ↔ (result ≡ Err Faults.Broken)
  pub after : new ≡ condition_by result
  pub kept : old ≡ Conditions.Broken → last ≡ first

-- A serve is such an event, where the disk failed in it or not.
abbrev pub HasServed : {Kept : Type 0} → DeviceMode Kept → Standing → (ticket : ℕ) → Result Served StepFault → Condition
    → Kept → (before after : List Content) → Type 0
HasServed mode w ticket result condition kept before after =
    IsDone mode w (event_by (Model.Serve ticket) (Model.FailedServe ticket) result)
    (answer_by served_answer result) condition kept before after

-- So is a step.
abbrev pub HasStepped : {Kept : Type 0} → DeviceMode Kept → Standing → Model.Actor → Result Moved StepFault → Condition
    → Kept → (before after : List Content) → Type 0
HasStepped mode w actor result condition kept before after =
    IsDone mode w (event_by (Model.Step actor) (Model.FailedStep actor) result)
    (answer_by moved_answer result) condition kept before after

-- ---- requests come and go

-- Why a request is refused, if it is. A broken device takes none.
abbrev pub submit_fault : Condition → Flight → Request → Option SubmitFault
submit_fault Conditions.Working flight request = fault_of flight request
submit_fault Conditions.Broken flight request = Some SubmitFaults.Broken

-- What a submission answers, and the requests in flight behind it.
abbrev pub submit_result : Condition → Flight → Request → Result ℕ (Request × SubmitFault)
submit_result condition flight request =
    Submitting.answer_by (submit_fault condition flight request) (suc flight.submitted) request

abbrev pub after_submission : Condition → Request → Flight → Flight
after_submission condition request flight = after_submit (submit_fault condition flight request) request flight

-- A reply is taken, or the request is not done.
abbrev pub IsTaken : Result Reply ℕ → Model.Answer → Type 0
IsTaken (Ok reply) answer = (request : Asks.Request)
    × (answer ≡ Model.Replied request (as_reply reply) (returned_in reply))
IsTaken (Err ticket) answer = answer ≡ Model.NotDone

-- A reply is taken, or the request is not done, and no disk is called.
pub record HasTaken {Kept : Type 0} (mode : DeviceMode Kept) (w : Standing) (ticket : ℕ) (result : Result Reply ℕ)
    (condition : Condition) (kept : Kept) (moments : List Content) : Type 0 where
  pub taken : IsTaken result (Model.event_result w.format w.state (Model.Take ticket)).answer
  pub done : HasDone mode w (Model.Take ticket) condition kept moments moments

-- The reply to the request of this ticket, and the bytes given back with it, are those that it has where all requests
-- run one after the other, in order of submission.
pub record IsSerial (w : Standing) (ticket : ℕ) (reply : Reply) : Type 0 where
  pub place : ℕ
  pub is : ticket ≡ suc place
  pub request : Asks.Request
  pub serial : IsSerialReply w.format w.state.history.base w.state.progress.requests place request
      (as_reply reply) (returned_in reply)
