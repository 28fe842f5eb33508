-- What the calls of a session tell of each device that works: which events they are to do, and what came of them.
use Rattle.std.specs.Prelude.{◌≡◌, ◌≢◌, ℕ, List, [], ◌∷◌, Option, false, Result, Err, IfErr, IfOk, OnErr}
use Rattle.disk_model.specs.Disk.{Content}
use Rattle.disk_model.specs.Identity.{DiskIdentity}
use Rattle.device_model.specs.Actors.{actor_of}
use Rattle.device_model.specs.Progress.{Event, Step, Submit, Take}
use Rattle.device_model.specs.Script.{Ask, AskLine, ScriptLine, submission_of}
use Rattle.device_model.specs.Script as Script
use Rattle.device_parts.specs.declared.condition.Condition.{Condition}
use Rattle.device_parts.specs.declared.condition.Condition.TheVariants.{Broken, Working}
use Rattle.device_parts.specs.Device.{KeepsParts, Standing}
use Rattle.device.specs.declared.mode.DeviceParts.{DeviceParts}
use Rattle.device.specs.Device.{IsDevice, any_mode}
use Rattle.device.specs.Run.{HasBegun, HasFailed}
use Rattle.request_slots.specs.Flight.{Flight}
use Rattle.request_slots.specs.InFlight.{as_submission}
use Rattle.request_slots.specs.declared.reply.Reply.{Reply}
use Rattle.request_slots.specs.declared.request.Request.{Request}
use Rattle.device_model.specs.declared.actor.Actor.{Actor}
use Rattle.script_session.specs.declared.line_answer.LineAnswer.{LineAnswer}
use Rattle.script_text.specs.declared.line_end.LineEnd.{LineEnd}
use Rattle.script_text.specs.declared.line_end.LineEnd.TheVariants as Ends
use Rattle.script_text.specs.declared.meaning_fault.MeaningFault.{MeaningFault}
use Rattle.script_session.specs.declared.stop.Stop.{Stop}
use Rattle.script_session.specs.declared.stop.Stop.TheVariants as Stops
use Rattle.script_text.specs.declared.tags_found.TagsFound.{TagsFound}
use Rattle.script_session.specs.declared.tickets.Tickets.{Tickets}
use Rattle.script_session.specs.LineRun.{HasAnswered, HasEnded, HasRunAsk, HasRunLine, HasStopped, TellsTicket, events_of}
use Rattle.script_session.specs.Meaning.{fault_on}
use Rattle.script_session.specs.Tickets.{Stays, numbers_of}

-- ---- which events

-- Those of a line,
abbrev pub of_line : ScriptLine → Standing → List Event
of_line line w = events_of w line

-- of a line that asks without `start`,
abbrev pub of_ask : Ask → Standing → List Event
of_ask ask w = events_of w (AskLine false ask)

-- the submission of a request, or of what a line asks,
abbrev pub one_submission : Request → Standing → List Event
one_submission request w = Submit (as_submission request) ∷ []

abbrev pub one_asked : Ask → Standing → List Event
one_asked ask w = Submit (submission_of w.format.blocks.block_size ask) ∷ []

-- the taking of a reply,
abbrev pub one_take : ℕ → Standing → List Event
one_take number w = Take number ∷ []

-- and a step of an actor.
abbrev pub one_step_of : Actor → Standing → List Event
one_step_of actor w = Step (actor_of actor) ∷ []

-- ---- what came of them, on each device

-- They are answered so,
abbrev pub AnswersSo : {D : Type 0} → (D → List Content) → (Standing → List Event) → LineAnswer
    → (old new : DeviceParts) → (first last : D) → Type 0
AnswersSo moments events answer old new first last = (w : Standing) → IsDevice w Working old (moments first)
    → HasAnswered w (events w) answer new (moments first) (moments last)

-- where the call answers well.
abbrev pub AnswersWell : {D E : Type 0} → (D → List Content) → (Standing → List Event) → Result LineAnswer E
    → (old new : DeviceParts) → (first last : D) → Type 0
AnswersWell moments events result old new first last =
    IfOk result (λ answer. AnswersSo moments events answer old new first last)

-- The disk failed in one,
abbrev pub FailsSo : {D T E : Type 0} → (D → List Content) → (Standing → List Event) → Result T E
    → (old new : DeviceParts) → (first last : D) → Type 0
FailsSo moments events result old new first last = OnErr result ((w : Standing) → IsDevice w Working old (moments first)
    → HasFailed w (events w) new (moments first) (moments last))

-- which is what stopped the call;
abbrev pub FailsOnDisk : {D T : Type 0} → (D → List Content) → (Standing → List Event) → Result T Stop
    → (old new : DeviceParts) → (first last : D) → Type 0
FailsOnDisk moments events result old new first last = result ≡ Err Stops.Disk → (w : Standing)
    → IsDevice w Working old (moments first) → HasFailed w (events w) new (moments first) (moments last)

-- or there was no memory, and some of the first are done;
abbrev pub BeginsOnly : {D T : Type 0} → (D → List Content) → (Standing → List Event) → Result T Stop
    → (old new : DeviceParts) → (first last : D) → Type 0
BeginsOnly moments events result old new first last = result ≡ Err Stops.Memory → (w : Standing)
    → IsDevice w Working old (moments first) → HasBegun w (events w) new (moments first) (moments last)

-- one or the other.
abbrev pub StopsSo : {D T : Type 0} → (D → List Content) → (Standing → List Event) → Result T Stop
    → (old new : DeviceParts) → (first last : D) → Type 0
StopsSo moments events result old new first last = IfErr result (λ stop. (w : Standing)
    → IsDevice w Working old (moments first) → HasStopped w (events w) stop new (moments first) (moments last))

-- What a line asks is submitted, and the answer tells the ticket that it got.
abbrev pub TellsAsked : {D E : Type 0} → (D → List Content) → Ask → Result LineAnswer E → DeviceParts → D → Type 0
TellsAsked moments ask result old first = IfOk result (λ answer. (w : Standing)
    → IsDevice w Working old (moments first) → TellsTicket w (submission_of w.format.blocks.block_size ask) answer)

-- The request of a line without `start` is done.
abbrev pub RunsAsk : {D E : Type 0} → (D → List Content) → Ask → Result (Option Reply) E → (old new : DeviceParts)
    → (first last : D) → Type 0
RunsAsk moments ask result old new first last = IfOk result (λ reply. (w : Standing)
    → IsDevice w Working old (moments first) → HasRunAsk w ask reply new (moments first) (moments last))

-- A line is done, and its text is told,
abbrev pub RunsLine : {D O E : Type 0} → (D → List Content) → (O → Option (List ℕ)) → ScriptLine → Result TagsFound E
    → (old new : DeviceParts) → (first last : D) → (sink out : O) → Type 0
RunsLine moments held line result old new first last sink out = IfOk result (λ found. (w : Standing)
    → IsDevice w Working old (moments first)
    → HasRunLine w line found new (moments first) (moments last) (held sink) (held out))

-- or something has ended it before.
abbrev pub EndsLine : {D O T : Type 0} → (D → List Content) → (O → Option (List ℕ)) → ScriptLine → Result T LineEnd
    → (old new : DeviceParts) → (first last : D) → (sink out : O) → Type 0
EndsLine moments held line result old new first last sink out = IfErr result (λ end. (w : Standing)
    → IsDevice w Working old (moments first)
    → HasEnded w line end new (moments first) (moments last) (held sink) (held out))

-- ---- what stays

-- A line that is refused leaves it so.
abbrev pub OnRefused : {T : Type 0} → Result T LineEnd → Type 0 → Type 0
OnRefused result same = (fault : MeaningFault) → result ≡ Err (Ends.Refused fault) → same

-- Where the disk failed the device is broken, and else it works.
abbrev pub TurnsAt : {A : Type 0} → (failed result : A) → Condition → Type 0
TurnsAt failed result condition = (result ≢ failed → condition ≡ Working) × (result ≡ failed → condition ≡ Broken)

-- A call keeps the parts over a disk,
abbrev pub KeepsOn : {D : Type 0} → (D → DiskIdentity) → (D → List Content) → Condition → (old new : DeviceParts)
    → (first last : D) → Type 0
KeepsOn identity moments condition old new first last =
    KeepsParts any_mode condition old new (identity first) (identity last) (moments last)

-- and what a line leaves in any case, with the tickets.
abbrev pub StaysOn : {D : Type 0} → (D → DiskIdentity) → (D → List Content) → Condition → (old new : DeviceParts)
    → Tickets → (first last : D) → Type 0
StaysOn identity moments condition old new tickets first last =
    Stays condition old new tickets (identity first) (identity last) (moments last)

-- Why a line is refused, where these are in flight.
abbrev pub fault_in : Flight → Tickets → ScriptLine → Option Script.MeaningFault
fault_in flight tickets line = fault_on flight.blocks flight.block_size (numbers_of tickets) line
