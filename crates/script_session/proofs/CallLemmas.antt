-- What each call of a device answers, as the last event of a line.
use Rattle.std.proofs.Common.{◌≡◌, inl, inr, ℕ, suc, ◌+◌, Bool, true, false, if◌then◌else◌, List, [], ◌∷◌, ◌++◌, length, map, get_or, None, Some, Option, Result, Ok, Err, slice_get, refl, sym, ◌∙◌, ap, subst, arith}
use Rattle.std.specs.List.{list_any, position_or_len, remove}
use Rattle.std.proofs.lemmas.Bool.{cases_Bool}
use Rattle.disk_model.specs.Disk.{Content}
use Rattle.disk_model.specs.Identity.{DiskIdentity}
use Rattle.device_model.specs.Progress as Model
use Rattle.device_model.specs.Progress.{DeviceState, Event, EventResult, Take}
use Rattle.device_model.specs.Reply as ModelReply
use Rattle.device_model.specs.Request as Asks
use Rattle.device_model.specs.Request.{Asked, is_over}
use Rattle.device_model.specs.Mode.{DeviceFormat}
use Rattle.device_model.specs.Submission.{Submission}
use Rattle.device_model.specs.Script.{answer_text, finish_all_events, last_answer, line_events, submission_of, tells_fault, whole_events, whole_finish}
use Rattle.device_model.specs.Script as script
use Rattle.device_model.specs.Transcript.{is_fault}
use Rattle.device_model.proofs.LoopLemmas.{answer-ask, answer-whole}
use Rattle.device_model.proofs.SubmissionLemmas.{result-working}
use Rattle.range_lock.specs.declared.ask.Ask.{Ask}
use Rattle.request_slots.specs.Flight as flight
use Rattle.request_slots.specs.Flight.{Flight, ask_of, count_in, first_in, is_in_flight, slot_of}
use Rattle.request_slots.specs.InFlight.{as_answer, as_reply, as_submission, bytes_now, request_with, returned_in, slot_for, slots_of, submit_answer}
use Rattle.request_slots.specs.Submitting.{answer_by}
use Rattle.request_slots.specs.Taking.{after_take, reply_by, reply_of, taken_by, without}
use Rattle.request_slots.specs.declared.reply.Reply.{Reply}
use Rattle.request_slots.specs.declared.reply.Reply.TheVariants as Replies
use Rattle.request_slots.specs.declared.request.Request.{Request}
use Rattle.request_slots.specs.declared.slot.Outcome.{Outcome}
use Rattle.request_slots.specs.declared.slot.Outcome.TheVariants.{Unfinished, Finished, Fault}
use Rattle.request_slots.specs.declared.slot.Slot.{Slot}
use Rattle.request_slots.specs.declared.submit_fault.SubmitFault.{SubmitFault}
use Rattle.request_slots.specs.declared.submit_fault.SubmitFault.TheVariants as Faults
use Rattle.device_parts.specs.declared.answers.Served.{Served}
use Rattle.device_parts.specs.declared.answers.Served.TheVariants as Serves
use Rattle.device_parts.specs.Answers.{served_answer}
use Rattle.device_parts.specs.declared.answers.Moved.{Moved}
use Rattle.device_parts.specs.declared.answers.Moved.TheVariants as Moves
use Rattle.device_parts.specs.Answers.{moved_answer}
use Rattle.device_parts.specs.declared.condition.Condition.{Condition}
use Rattle.device_parts.specs.declared.condition.Condition.TheVariants as Conditions
use Rattle.device.specs.declared.mode.DeviceParts.{DeviceParts}
use Rattle.device_parts.specs.Answers.{HasTaken}
use Rattle.device_parts.specs.Device.{Answers, HasDone, IsDone, KeepsParts}
use Rattle.device.specs.Device.{IsDevice, IsReady, any_mode, mode_of, with_slots}
use Rattle.device_parts.specs.Device.{Standing}
use Rattle.device.proofs.ModeLemmas.{condition_now, flight_now}
use Rattle.device.specs.Run.{HasBegun, HasFailed, HasRun, standing_behind}
use Rattle.device.proofs.RunLemmas.{failed_then, failed_wider, run_one, run_then}
use Rattle.device.proofs.TagsLemmas.{leaves_all}
use Rattle.device_parts.proofs.TurnLemmas.{slot-is}
use Rattle.script_session.specs.declared.line_answer.LineAnswer.{LineAnswer}
use Rattle.script_session.specs.declared.line_answer.LineAnswer.TheVariants as Lines
use Rattle.script_session.specs.declared.tickets.Tickets.{Tickets}
use Rattle.script_session.specs.declared.tickets.Waiting.{Waiting}
use Rattle.script_session.specs.LineRun.{HasAnswered}
use Rattle.script_session.specs.Tickets.{AreInFlight, Stays, ask_by, is_of}
use Rattle.script_session.specs.Told.{IsNoTicket, IsReplied, IsTicketOf, answer_found, answer_told, moved_line, refused_answer, reply_found, reply_in, reply_told, served_line}
use Rattle.script_text.specs.Found.{finds_fault}
use Rattle.script_session.proofs.SplitLemmas.{IsSplit, asks-without, split_of, split_own, split_removed}
use Rattle.script_session.proofs.TicketLemmas.{any-asks}
use Rattle.script_session.proofs.WayLemmas.{in_flight_kept}

-- ---- one event

-- It is told of an event what it answers.
pub answered_run : (w : Standing) (event : Event) (answer : Model.Answer) (line : LineAnswer) (parts : DeviceParts)
    (a b : List Content)
    → HasRun w (event ∷ []) parts a b → (Model.event_result w.format w.state event).answer ≡ answer
    → answer_told line ≡ answer_text answer → finds_fault (answer_found line) ≡ tells_fault answer
    → IsReplied (reply_in line) (Some answer) → HasAnswered w (event ∷ []) line parts a b
answered_run w event answer line parts a b run is text found reply = record {
  run = run;
  text = text ∙ ap answer_text (sym is);
  found = found ∙ ap tells_fault (sym is);
  reply = subst (λ (x : Model.Answer). IsReplied (reply_in line) (Some x)) (sym is) reply;
}

pub answered_done : (w : Standing) (event : Event) (answer : Model.Answer) (line : LineAnswer)
    (condition : Condition) (parts : DeviceParts) (a b : List Content)
    → IsDone any_mode w event answer condition parts a b → condition ≡ Conditions.Working → b ≡ a
    → answer_told line ≡ answer_text answer → finds_fault (answer_found line) ≡ tells_fault answer
    → IsReplied (reply_in line) (Some answer) → HasAnswered w (event ∷ []) line parts a b
answered_done w event answer line condition parts a b is works same text found reply =
    answered_run w event answer line parts a b
    (run_one w event parts a b (subst (λ (x : Condition). HasDone any_mode w event x parts a b) works is.done) (leaves_all w _ same)) is.answers text found reply

served_text : (served : Served) → answer_told (served_line served) ≡ answer_text (served_answer served)
served_text (Serves.Held by) = refl
served_text Serves.Did = refl
served_text Serves.Done = refl
served_text Serves.NoRoom = refl

served_found : (served : Served)
    → finds_fault (answer_found (served_line served)) ≡ tells_fault (served_answer served)
served_found (Serves.Held by) = refl
served_found Serves.Did = refl
served_found Serves.Done = refl
served_found Serves.NoRoom = refl

served_reply : (served : Served) → IsReplied (reply_in (served_line served)) (Some (served_answer served))
served_reply (Serves.Held by) = tt
served_reply Serves.Did = tt
served_reply Serves.Done = tt
served_reply Serves.NoRoom = tt

pub served_told : (w : Standing) (ticket : ℕ) (served : Served) (line : LineAnswer) (parts : DeviceParts)
    (a b : List Content) → line ≡ served_line served → HasRun w (Model.Serve ticket ∷ []) parts a b
    → Answers w (Model.Serve ticket) (served_answer served) → HasAnswered w (Model.Serve ticket ∷ []) line parts a b
served_told w ticket served line parts a b is run answers =
    subst (λ (l : LineAnswer). HasAnswered w (Model.Serve ticket ∷ []) l parts a b) (sym is)
    (answered_run w (Model.Serve ticket) (served_answer served) (served_line served) parts a b run answers (served_text served) (served_found served) (served_reply served))

moved_text : (moved : Moved) → answer_told (moved_line moved) ≡ answer_text (moved_answer moved)
moved_text Moves.Did = refl
moved_text Moves.Idle = refl

moved_found : (moved : Moved) → finds_fault (answer_found (moved_line moved)) ≡ tells_fault (moved_answer moved)
moved_found Moves.Did = refl
moved_found Moves.Idle = refl

moved_reply : (moved : Moved) → IsReplied (reply_in (moved_line moved)) (Some (moved_answer moved))
moved_reply Moves.Did = tt
moved_reply Moves.Idle = tt

pub moved_told : (w : Standing) (actor : Model.Actor) (moved : Moved) (line : LineAnswer) (parts : DeviceParts)
    (a b : List Content) → line ≡ moved_line moved → HasRun w (Model.Step actor ∷ []) parts a b
    → Answers w (Model.Step actor) (moved_answer moved) → HasAnswered w (Model.Step actor ∷ []) line parts a b
moved_told w actor moved line parts a b is run answers =
    subst (λ (l : LineAnswer). HasAnswered w (Model.Step actor ∷ []) l parts a b) (sym is)
    (answered_run w (Model.Step actor) (moved_answer moved) (moved_line moved) parts a b run answers (moved_text moved) (moved_found moved) (moved_reply moved))

-- ---- a submission

refused_text : (fault : SubmitFault) → answer_told (refused_answer fault) ≡ answer_text (as_answer fault)
refused_text Faults.Broken = refl
refused_text Faults.ReadOnly = refl
refused_text (Faults.Range first count blocks) = refl
refused_text (Faults.Length have need) = refl
refused_text (Faults.SlotsFull slots) = refl

refused_found : (fault : SubmitFault)
    → finds_fault (answer_found (refused_answer fault)) ≡ tells_fault (as_answer fault)
refused_found Faults.Broken = refl
refused_found Faults.ReadOnly = refl
refused_found (Faults.Range first count blocks) = refl
refused_found (Faults.Length have need) = refl
refused_found (Faults.SlotsFull slots) = refl

refused_reply : (fault : SubmitFault) → IsReplied (reply_in (refused_answer fault)) (Some (as_answer fault))
refused_reply Faults.Broken = tt
refused_reply Faults.ReadOnly = tt
refused_reply (Faults.Range first count blocks) = tt
refused_reply (Faults.Length have need) = tt
refused_reply (Faults.SlotsFull slots) = tt

-- What is told of it.
abbrev pub submitted_line : Option SubmitFault → ℕ → LineAnswer
submitted_line None ticket = Lines.Ticket ticket
submitted_line (Some fault) ticket = refused_answer fault

pub submit_ok : (fault : Option SubmitFault) (n ticket : ℕ) (request : Request)
    → ◌≡◌ {A = Result ℕ (Request × SubmitFault)} (Ok ticket) (answer_by fault n request)
    → Lines.Ticket ticket ≡ submitted_line fault n
submit_ok None n ticket request same = let is : ticket ≡ n = cc in ap Lines.Ticket is
submit_ok (Some fault) n ticket request same = absurd (cc)

pub submit_err : (fault : Option SubmitFault) (n : ℕ) (request : Request) (refusal : Request × SubmitFault)
    → ◌≡◌ {A = Result ℕ (Request × SubmitFault)} (Err refusal) (answer_by fault n request)
    → refused_answer refusal.1 ≡ submitted_line fault n
submit_err None n request refusal same = absurd (cc)
submit_err (Some fault) n request refusal same =
    let is : refusal ≡ (request, fault) = cc in ap (λ (p : Request × SubmitFault). refused_answer p.1) is

submitted_text : (fault : Option SubmitFault) (n : ℕ)
    → answer_told (submitted_line fault n) ≡ answer_text (submit_answer fault n)
submitted_text None n = refl
submitted_text (Some fault) n = refused_text fault

submitted_found : (fault : Option SubmitFault) (n : ℕ)
    → finds_fault (answer_found (submitted_line fault n)) ≡ tells_fault (submit_answer fault n)
submitted_found None n = refl
submitted_found (Some fault) n = refused_found fault

submitted_reply : (fault : Option SubmitFault) (n : ℕ)
    → IsReplied (reply_in (submitted_line fault n)) (Some (submit_answer fault n))
submitted_reply None n = tt
submitted_reply (Some fault) n = refused_reply fault

refused_none : (fault : SubmitFault) → IsTicketOf (refused_answer fault) (as_answer fault)
refused_none Faults.Broken = tt
refused_none Faults.ReadOnly = tt
refused_none (Faults.Range first count blocks) = tt
refused_none (Faults.Length have need) = tt
refused_none (Faults.SlotsFull slots) = tt

pub submitted_ticket : (fault : Option SubmitFault) (n : ℕ) (line : LineAnswer) (answer : Model.Answer)
    → line ≡ submitted_line fault n → answer ≡ submit_answer fault n → IsTicketOf line answer
submitted_ticket fault n line answer same is =
    subst (λ (l : LineAnswer). IsTicketOf l answer) (sym same) (subst (IsTicketOf (submitted_line fault n)) (sym is) (by fault))
  where
    by : (o : Option SubmitFault) → IsTicketOf (submitted_line o n) (submit_answer o n)
    by None = refl
    by (Some x) = refused_none x

pub submit_told : (w : Standing) (request : Request) (fault : Option SubmitFault) (n : ℕ) (line : LineAnswer)
    (condition : Condition) (parts : DeviceParts) (a : List Content)
    → IsDone any_mode w (Model.Submit (as_submission request)) (submit_answer fault n) condition parts a a
    → condition ≡ Conditions.Working → line ≡ submitted_line fault n
    → HasAnswered w (Model.Submit (as_submission request) ∷ []) line parts a a
submit_told w request fault n line condition parts a is works same =
    subst (λ (l : LineAnswer). HasAnswered w (Model.Submit (as_submission request) ∷ []) l parts a a) (sym same)
    (answered_done w (Model.Submit (as_submission request)) (submit_answer fault n) (submitted_line fault n) condition parts a a is works refl (submitted_text fault n) (submitted_found fault n) (submitted_reply fault n))

-- ---- a request in flight

first_with : (r : Asks.Request) (bytes : List ℕ) → first_in (request_with r bytes) ≡ Asks.first_of r
first_with (Asks.Read first count) bytes = refl
first_with (Asks.Write first blocks fua) bytes = refl
first_with Asks.Flush bytes = refl

count_with : (r : Asks.Request) (bytes : List ℕ) → count_in (request_with r bytes) ≡ Asks.count_of r
count_with (Asks.Read first count) bytes = refl
count_with (Asks.Write first blocks fua) bytes = refl
count_with Asks.Flush bytes = refl

-- A ticket's request in the model, the first of which has ticket t.
pub record IsAskedAs (own : Waiting) (t : ℕ) (requests : List Asked) : Type 0 where
  pub place : ℕ
  pub asked : Asked
  pub ticket_ : own.ticket ≡ t + place
  pub there : slice_get requests place ≡ Some asked
  pub open_ : is_over asked.state ≡ false
  pub first_ : own.first ≡ Asks.first_of asked.request
  pub count_ : own.count ≡ Asks.count_of asked.request

asked_behind : (own : Waiting) (t : ℕ) (a : Asked) (requests : List Asked) → IsAskedAs own (suc t) requests
    → IsAskedAs own t (a ∷ requests)
asked_behind own t a requests is = record {
  place = suc is.place;
  asked = is.asked;
  ticket_ = let same = is.ticket_ in omega (arith, same);
  there = is.there;
  open_ = is.open_;
  first_ = is.first_;
  count_ = is.count_;
}

asked_here : (own : Waiting) (t : ℕ) (a : Asked) (requests : List Asked) → is_over a.state ≡ false
    → ask_by own ≡ ask_of (slot_for t a) → IsAskedAs own t (a ∷ requests)
asked_here own t a requests open_ same = record {
  place = 0;
  asked = a;
  ticket_ = let is = ap (λ (x : Ask). x.ticket) same in omega (arith, is);
  there = refl;
  open_ = open_;
  first_ = ap (λ (x : Ask). x.first) same ∙ first_with a.request (bytes_now a);
  count_ = ap (λ (x : Ask). x.count) same ∙ count_with a.request (bytes_now a);
}

pub asked_in : (before : List Waiting) (own : Waiting) (behind : List Waiting) (t : ℕ) (requests : List Asked)
    → map ask_by (before ++ own ∷ behind) ≡ map ask_of (slots_of t requests) → IsAskedAs own t requests
asked_in [] own behind t [] same = absurd (cc)
asked_in (w ∷ before) own behind t [] same = absurd (cc)
asked_in [] own behind t (a ∷ requests) same = elim (cases_Bool (is_over a.state)) [
  | inl over ↦
      asked_behind own t a requests (asked_in [] own behind (suc t) requests
      (same ∙ ap (λ (b : Bool). map ask_of (if b then slots_of (suc t) requests else slot_for t a ∷ slots_of (suc t) requests)) over))
  | inr open_ ↦
      let there : ask_by own ∷ map ask_by behind ≡ ask_of (slot_for t a) ∷ map ask_of (slots_of (suc t) requests) =
      same ∙ ap (λ (b : Bool). map ask_of (if b then slots_of (suc t) requests else slot_for t a ∷ slots_of (suc t) requests)) open_ in
      asked_here own t a requests open_ (cc there)
]
asked_in (w ∷ before) own behind t (a ∷ requests) same = elim (cases_Bool (is_over a.state)) [
  | inl over ↦
      asked_behind own t a requests (asked_in (w ∷ before) own behind (suc t) requests
      (same ∙ ap (λ (b : Bool). map ask_of (if b then slots_of (suc t) requests else slot_for t a ∷ slots_of (suc t) requests)) over))
  | inr open_ ↦
      let there : ask_by w ∷ map ask_by (before ++ own ∷ behind) ≡ ask_of (slot_for t a) ∷ map ask_of (slots_of (suc t) requests) =
      same ∙ ap (λ (b : Bool). map ask_of (if b then slots_of (suc t) requests else slot_for t a ∷ slots_of (suc t) requests)) open_ in
      asked_behind own t a requests (asked_in before own behind (suc t) requests (cc there))
]

-- ---- a reply

reply_text-is : (r : Asks.Request) (bytes : List ℕ) (outcome : Outcome)
    → reply_told (Asks.first_of r) (Asks.count_of r)
    (reply_by (request_with r bytes) outcome) ≡ script.reply_text r (as_reply (reply_by (request_with r bytes) outcome))
reply_text-is (Asks.Read first count) bytes Unfinished = refl
reply_text-is (Asks.Read first count) bytes Finished = refl
reply_text-is (Asks.Read first count) bytes (Fault block stored computed) = refl
reply_text-is (Asks.Write first blocks fua) bytes outcome = refl
reply_text-is Asks.Flush bytes outcome = refl

reply_found-is : (reply : Reply) → finds_fault (reply_found reply) ≡ is_fault (as_reply reply)
reply_found-is (Replies.Read buffer) = refl
reply_found-is (Replies.TagFault block stored computed buffer) = refl
reply_found-is (Replies.Written bytes) = refl
reply_found-is Replies.Flushed = refl

-- A reply that is taken is that of the slot.
pub taken_ok : (ticket : ℕ) (slot : Option Slot) (reply : Reply) → ◌≡◌ {A = Result Reply ℕ} (Ok reply)
    (taken_by ticket slot)
    → (x : Slot) × (slot ≡ Some x) × (flight.is_unfinished x ≡ false) × (reply ≡ reply_of x)
taken_ok ticket None reply same = absurd (cc)
taken_ok ticket (Some x) reply same = elim (cases_Bool (flight.is_unfinished x)) [
  | inl still ↦
      let is : ◌≡◌ {A = Result Reply ℕ} (Ok reply) (Err ticket) = same ∙ ap (λ (b : Bool). if b then Err ticket else Ok (reply_of x)) still in
      absurd (cc is)
  | inr done ↦
      let is : ◌≡◌ {A = Result Reply ℕ} (Ok reply) (Ok (reply_of x)) = same ∙ ap (λ (b : Bool). if b then Err ticket else Ok (reply_of x)) done in
      (x, refl, done, cc is)
]

-- With it the slot is gone,
pub after_taken : (ticket : ℕ) (slot : Option Slot) (reply : Reply) (of : Flight)
    → ◌≡◌ {A = Result Reply ℕ} (Ok reply) (taken_by ticket slot)
    → after_take ticket slot of ≡ record of { slots = without ticket of.slots }
after_taken ticket slot reply of same =
    let taken = taken_ok ticket slot reply same in
    ap (λ (o : Option Slot). after_take ticket o of) taken.1
    ∙ ap (λ (b : Bool). if b then of else record of { slots = without ticket of.slots }) taken.2

-- and where none is taken all stays.
pub after_untaken : (ticket back : ℕ) (slot : Option Slot) (of : Flight) → ◌≡◌ {A = Result Reply ℕ} (Err back)
    (taken_by ticket slot) → after_take ticket slot of ≡ of
after_untaken ticket back None of same = refl
after_untaken ticket back (Some x) of same = elim (cases_Bool (flight.is_unfinished x)) [
  | inl still ↦ ap (λ (b : Bool). if b then of else record of { slots = without ticket of.slots }) still
  | inr done ↦
      let is : ◌≡◌ {A = Result Reply ℕ} (Err back) (Ok (reply_of x)) = same ∙ ap (λ (b : Bool). if b then Err ticket else Ok (reply_of x)) done in
      absurd (cc is)
]

replied_request : (p : Model.Progress) (k : ℕ) (a : Asked) (state : Asks.RequestState) (r : Asks.Request)
    (reply : ModelReply.Reply) (returned : List ℕ)
    → (Model.take_by p k a state).answer ≡ Model.Replied r reply returned → r ≡ a.request
replied_request p k a Asks.Unfinished r reply returned same = absurd (cc)
replied_request p k a Asks.Finished r reply returned same = cc
replied_request p k a Asks.Taken r reply returned same = absurd (cc)
replied_request p k a Asks.Dropped r reply returned same = absurd (cc)

module _ (w : Standing) (parts : DeviceParts) (a : List Content) (is : IsDevice w Conditions.Working parts a) (own : Waiting) (as_asked : IsAskedAs own 1 w.state.progress.requests) (condition : Condition) (new : DeviceParts) (b : List Content) (works : condition ≡ Conditions.Working) where
  ticket_is : own.ticket ≡ suc as_asked.place
  ticket_is = let same = as_asked.ticket_ in omega (arith, same)

  taken_request : (r : Asks.Request) (reply : ModelReply.Reply) (returned : List ℕ)
      → (Model.event_result w.format w.state (Take own.ticket)).answer ≡ Model.Replied r reply returned
      → r ≡ as_asked.asked.request
  taken_request r reply returned same =
      replied_request w.state.progress as_asked.place as_asked.asked as_asked.asked.state r reply returned
      (sym (ap (λ (x : EventResult). x.answer)
      (ap (λ (t : ℕ). Model.event_result w.format w.state (Take t)) ticket_is ∙ result-working w.format w.state (Take (suc as_asked.place)) (condition_now w Conditions.Working parts.mode parts.common a is)
      ∙ ap (Model.take_asked w.state.progress as_asked.place) as_asked.there)) ∙ same)

  -- It is told of a reply what the model says.
  pub taken_told : (reply : Reply) → ◌≡◌ {A = Result Reply ℕ} (Ok reply)
      (taken_by own.ticket (slot_of own.ticket parts.common.slots)) → HasTaken any_mode w own.ticket (Ok reply) condition new b
      → HasAnswered w (Take own.ticket ∷ []) (Lines.Replied own.first own.count reply) new b b
  taken_told reply same taken =
      let r = taken.taken.0 in
      let asked = as_asked.asked in
      let found = taken_ok own.ticket (slot_of own.ticket parts.common.slots) reply same in
      let slot : slot_of own.ticket parts.common.slots ≡ Some (slot_for (1 + as_asked.place) asked) =
      ap (λ (t : ℕ). slot_of t parts.common.slots) ticket_is ∙ slot-is w.format parts.common.slots w.state.progress.requests (flight_now w Conditions.Working parts.mode parts.common a is) as_asked.place asked as_asked.there as_asked.open_ in
      let own_slot : Some found.0 ≡ Some (slot_for (1 + as_asked.place) asked) = sym found.1 ∙ slot in
      let same_slot : found.0 ≡ slot_for (1 + as_asked.place) asked = cc own_slot in
      let reply_is : reply ≡ reply_of (slot_for (1 + as_asked.place) asked) = found.3 ∙ ap reply_of same_slot in
      let request_is = taken_request r (as_reply reply) (returned_in reply) taken.taken.1 in
      let outcome = (slot_for (1 + as_asked.place) asked).outcome in
      let text : reply_told own.first own.count reply ≡ script.reply_text r (as_reply reply) =
      ap (λ (n : ℕ). reply_told n own.count reply) as_asked.first_ ∙ ap (λ (n : ℕ). reply_told (Asks.first_of asked.request) n reply) as_asked.count_
      ∙ ap (λ (x : Reply). reply_told (Asks.first_of asked.request) (Asks.count_of asked.request) x) reply_is
      ∙ reply_text-is asked.request (bytes_now asked) outcome
      ∙ ap (λ (x : Reply). script.reply_text asked.request (as_reply x)) (sym reply_is)
      ∙ ap (λ (q : Asks.Request). script.reply_text q (as_reply reply)) (sym request_is) in
      answered_run w (Take own.ticket) (Model.Replied r (as_reply reply) (returned_in reply)) (Lines.Replied own.first own.count reply) new b b
      (run_one w (Take own.ticket) new b b (subst (λ (x : Condition). HasDone any_mode w (Take own.ticket) x new b b) works taken.done) (leaves_all w _ refl)) taken.taken.1 text (reply_found-is reply) (record { asked = r; is = refl })

pub untaken_told : (w : Standing) (ticket back : ℕ) (condition : Condition) (new : DeviceParts) (a : List Content)
    → condition ≡ Conditions.Working → HasTaken any_mode w ticket (Err back) condition new a
    → HasAnswered w (Take ticket ∷ []) Lines.NotDone new a a
untaken_told w ticket back condition new a works taken =
    answered_run w (Take ticket) Model.NotDone Lines.NotDone new a a
    (run_one w (Take ticket) new a a (subst (λ (x : Condition). HasDone any_mode w (Take ticket) x new a a) works taken.done) (leaves_all w _ refl)) taken.taken refl refl tt

-- ---- what stays

pub stays_kept : (condition : Condition) (old new : DeviceParts) (tickets : Tickets) (before disk : DiskIdentity)
    (moments : List Content) → AreInFlight tickets old.common.slots
    → KeepsParts any_mode condition old new before disk moments → Stays condition old new tickets before disk moments
stays_kept condition old new tickets before disk moments are kept = record {
  ready = kept.ready;
  tickets_ = in_flight_kept tickets old.common.slots new.common.slots are kept.flight;
  mode_ = kept.same_mode;
  blocks = kept.flight.blocks;
  block_size = kept.flight.block_size;
  submitted = let same = kept.flight.submitted in omega (arith, same);
  identity = kept.identity;
}

-- Only the requests in flight have changed.
pub stays_slots : (condition : Condition) (old new : DeviceParts) (slots : Flight) (tickets : Tickets)
    (before disk : DiskIdentity) (moments : List Content) → new ≡ with_slots old slots
    → IsReady condition new disk moments → AreInFlight tickets slots → slots.blocks ≡ old.common.slots.blocks
    → slots.block_size ≡ old.common.slots.block_size → slots.submitted ≡ old.common.slots.submitted → disk ≡ before
    → Stays condition old new tickets before disk moments
stays_slots condition old new slots tickets before disk moments is ready are blocks block_size submitted identity =
    let same : new.common.slots ≡ slots = ap (λ (p : DeviceParts). p.common.slots) is in
    record {
      ready = ready;
      tickets_ = subst (AreInFlight tickets) (sym same) are;
      mode_ = ap (λ (p : DeviceParts). mode_of p.mode) is;
      blocks = ap (λ (x : Flight). x.blocks) same ∙ blocks;
      block_size = ap (λ (x : Flight). x.block_size) same ∙ block_size;
      submitted = let count = ap (λ (x : Flight). x.submitted) same in omega (arith, count, submitted);
      identity = identity;
    }

-- ---- a ticket that is taken out

module _ (tickets : Tickets) (slots : Flight) (are : AreInFlight tickets slots) (number : ℕ) (any : list_any (is_of number) tickets.waiting.items ≡ true)
    (place : ℕ) (at : place ≡ position_or_len (is_of number) tickets.waiting.items) (own : Waiting) (own_is : own ≡ get_or tickets.waiting.items place own) where
  abbrev split : IsSplit number tickets.waiting.items
  split = split_of number tickets.waiting.items any

  pub own_number : own.ticket ≡ number
  own_number = ap (λ (x : Waiting). x.ticket) (split_own number tickets.waiting.items any place at own own_is) ∙ split.own_is

  pub own_there : is_in_flight own.ticket slots ≡ true
  own_there =
      ap (λ (t : ℕ). is_in_flight t slots) own_number ∙ sym (any-asks number tickets.waiting.items slots.slots are.asks) ∙ any

  split_asks : map ask_by (split.before ++ split.own ∷ split.behind) ≡ map ask_of slots.slots
  split_asks = ap (map ask_by) (sym split.is) ∙ are.asks

  pub own_asked : (requests : List Asked) → slots.slots ≡ slots_of 1 requests → IsAskedAs own 1 requests
  own_asked requests same =
      subst (λ (x : Waiting). IsAskedAs x 1 requests) (sym (split_own number tickets.waiting.items any place at own own_is))
      (asked_in split.before split.own split.behind 1 requests (split_asks ∙ ap (map ask_of) same))

  pub rest_asks : (rest : List Waiting) → rest ≡ remove tickets.waiting.items place
      → map ask_by rest ≡ map ask_of (without own.ticket slots.slots)
  rest_asks rest removed =
      ap (map ask_by) (removed ∙ split_removed number tickets.waiting.items any place at)
      ∙ asks-without number split.before split.behind split.own slots.slots split.own_is split.none split_asks
      ∙ ap (λ (t : ℕ). map ask_of (without t slots.slots)) (sym own_number)

-- ---- a line without `start`

no_more : (answer : Model.Answer) → IsNoTicket answer → (more : ℕ → List Event)
    → ◌≡◌ {A = List Event} (elim answer [ Model.Ticket ticket ↦ more ticket | _ ↦ [] ]) []
no_more (Model.Ticket ticket) none more = absurd none
no_more answer none more = refl

-- Nothing follows a submission that is refused,
pub whole-refused : (f : DeviceFormat) (s : DeviceState) (submission : Submission)
    → IsNoTicket (Model.event_result f s (Model.Submit submission)).answer
    → whole_events f submission s ≡ Model.Submit submission ∷ []
whole-refused f s submission none =
    let next = Model.after_event f s (Model.Submit submission) in
    ap (λ (l : List Event). Model.Submit submission ∷ l) (no_more (Model.event_result f s (Model.Submit submission)).answer none (λ ticket. whole_finish f ticket next ++ Take ticket ∷ []))

-- and one that gets a ticket is served, and its reply taken.
pub whole-ticket : (f : DeviceFormat) (s : DeviceState) (submission : Submission) (ticket : ℕ)
    → (Model.event_result f s (Model.Submit submission)).answer ≡ Model.Ticket ticket
    → let next = Model.after_event f s (Model.Submit submission) in
    whole_events f submission s ≡ Model.Submit submission ∷ (whole_finish f ticket next ++ Take ticket ∷ [])
whole-ticket f s submission ticket given =
    let next = Model.after_event f s (Model.Submit submission) in
    ap (λ (answer : Model.Answer). Model.Submit submission ∷ elim answer [ Model.Ticket t ↦ whole_finish f t next ++ Take t ∷ [] | _ ↦ [] ]) given

no_ticket : (line : LineAnswer) (answer : Model.Answer) → IsTicketOf line answer
    → ((ticket : ℕ) → line ≡ Lines.Ticket ticket → ⊥) → IsNoTicket answer
no_ticket (Lines.Ticket ticket) answer told other = absurd (other ticket refl)
no_ticket Lines.Nothing answer told other = told
no_ticket Lines.SlotsFull answer told other = told
no_ticket Lines.ReadOnly answer told other = told
no_ticket (Lines.HeldBy by) answer told other = told
no_ticket Lines.NoRoom answer told other = told
no_ticket Lines.Did answer told other = told
no_ticket Lines.Done answer told other = told
no_ticket Lines.Idle answer told other = told
no_ticket Lines.NotDone answer told other = told
no_ticket (Lines.Replied first count reply) answer told other = told

module _ (w : Standing) (ask : script.Ask) (p q : DeviceParts) (a b c : List Content) where
  abbrev submission : Submission
  submission = submission_of w.format.blocks.block_size ask

  abbrev before : List Event
  before = finish_all_events w.format 1 (length w.state.progress.requests) w.state

  abbrev at_rest : DeviceState
  at_rest = Model.after_events w.format w.state before

  abbrev line : script.ScriptLine
  line = script.AskLine false ask

  module _ (first : HasRun w before p a b) where
    abbrev here : Standing
    here = standing_behind w before

    -- It is refused.
    pub ask_refused : (told : LineAnswer) → HasAnswered here (Model.Submit submission ∷ []) told q b c
        → IsTicketOf told (Model.event_result w.format at_rest (Model.Submit submission)).answer
        → ((ticket : ℕ) → told ≡ Lines.Ticket ticket → ⊥)
        → HasAnswered w (line_events w.format w.state line) told q a c
    ask_refused told answered ticket other =
        let none = no_ticket told _ ticket other in
        let whole = whole-refused w.format at_rest submission none in
        let last : last_answer (Model.answers w.format w.state (line_events w.format w.state line)) ≡ Some (Model.event_result w.format at_rest (Model.Submit submission)).answer =
        answer-ask w.format w.state ask ∙ ap (λ (l : List Event). last_answer (Model.answers w.format at_rest l)) whole in
        record {
          run = subst (λ (l : List Event). HasRun w (before ++ l) q a c) (sym whole) (run_then w before (Model.Submit submission ∷ []) p q a b c first answered.run);
          text = answered.text ∙ ap script.told_text (sym last);
          found = answered.found ∙ ap script.told_fault (sym last);
          reply = subst (IsReplied (reply_in told)) (sym last) answered.reply;
        }

    -- There was no memory for it.
    pub ask_begun : (u : DeviceParts) (d : List Content) → u ≡ p → d ≡ b
        → HasBegun w (line_events w.format w.state line) u a d
    ask_begun u d same same_moments = record {
      made = before;
      rest = whole_events w.format submission at_rest;
      all = refl;
      run = subst (λ (x : DeviceParts). HasRun w before x a d) (sym same)
          (subst (λ (m : List Content). HasRun w before p a m) (sym same_moments) first);
    }

    module _ (ticket : ℕ) (given : (Model.event_result w.format at_rest (Model.Submit submission)).answer ≡ Model.Ticket ticket) (second : HasRun here (Model.Submit submission ∷ []) q b c) where
      abbrev next : Standing
      next = standing_behind here (Model.Submit submission ∷ [])

      abbrev finished : List Event
      finished = whole_finish w.format ticket next.state

      -- It is served and its reply taken.
      pub ask_done : (r u : DeviceParts) (d e : List Content) (third : HasRun next finished r c d) (told : LineAnswer)
          → HasAnswered (standing_behind next finished) (Take ticket ∷ []) told u d e
          → HasAnswered w (line_events w.format w.state line) told u a e
      ask_done r u d e third told answered =
          let whole = whole-ticket w.format at_rest submission ticket given in
          let last : last_answer (Model.answers w.format w.state (line_events w.format w.state line)) ≡ Some (Model.event_result w.format (Model.after_events w.format next.state finished) (Take ticket)).answer =
          answer-ask w.format w.state ask ∙ answer-whole w.format at_rest submission ticket (sym given) in
          record {
            run =
                subst (λ (l : List Event). HasRun w (before ++ l) u a e) (sym whole)
                (run_then w before (Model.Submit submission ∷ (finished ++ Take ticket ∷ [])) p u a b e first
                (run_then here (Model.Submit submission ∷ []) (finished ++ Take ticket ∷ []) q u b c e second
                (run_then next finished (Take ticket ∷ []) r u c d e third answered.run)));
            text = answered.text ∙ ap script.told_text (sym last);
            found = answered.found ∙ ap script.told_fault (sym last);
            reply = subst (IsReplied (reply_in told)) (sym last) answered.reply;
          }

      -- The disk failed in a serve of it.
      pub ask_failed : (r : DeviceParts) (d : List Content) → HasFailed next finished r c d
          → HasFailed w (line_events w.format w.state line) r a d
      ask_failed r d failed =
          let whole = whole-ticket w.format at_rest submission ticket given in
          subst (λ (l : List Event). HasFailed w (before ++ l) r a d) (sym whole)
          (failed_then w before (Model.Submit submission ∷ (finished ++ Take ticket ∷ [])) p r a b d first
          (failed_then here (Model.Submit submission ∷ []) (finished ++ Take ticket ∷ []) q r b c d second
          (failed_wider next finished (Take ticket ∷ []) r c d failed)))
