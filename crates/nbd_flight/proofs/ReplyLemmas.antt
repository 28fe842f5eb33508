-- The reply to a request in flight, as the device gives it, and its bytes.
use Rattle.std.proofs.Common.{◌≡◌, inl, inr, ℕ, suc, ◌+◌, ◌==◌, ◌||◌, Bool, true, false, if◌then◌else◌, List, [], ◌∷◌, Option, Some, Result, Ok, Err, refl, sym, ◌∙◌, ap, subst, arith, append-nil}
use Rattle.std.specs.List.{list_any}
use Rattle.std.proofs.lemmas.Bool.{cases_Bool}
use Rattle.disk_model.specs.Disk.{Content}
use Rattle.device_model.specs.Progress as Model
use Rattle.device_model.specs.Progress.{EventResult, Take}
use Rattle.device_model.specs.Reply as ModelReply
use Rattle.device_model.specs.Request as Asks
use Rattle.device_model.proofs.SubmissionLemmas.{result-working}
use Rattle.request_slots.specs.Flight.{is_in_flight, is_of, is_unfinished, slot_of}
use Rattle.request_slots.specs.InFlight.{as_reply, bytes_now, request_with, returned_in, slot_for}
use Rattle.request_slots.specs.Taking.{reply_by, reply_of, taken_by}
use Rattle.request_slots.specs.declared.reply.Reply.{Reply}
use Rattle.request_slots.specs.declared.slot.Outcome.{Outcome}
use Rattle.request_slots.specs.declared.slot.Outcome.TheVariants.{Unfinished, Finished, Fault}
use Rattle.request_slots.specs.declared.slot.Slot.{Slot}
use Rattle.device_parts.specs.declared.condition.Condition.{Condition}
use Rattle.device_parts.specs.declared.condition.Condition.TheVariants as Conditions
use Rattle.device_parts.specs.Answers.{HasTaken, IsTaken}
use Rattle.device_parts.specs.Device.{HasDone as HasDoneEvent, Standing}
use Rattle.device_parts.proofs.TurnLemmas.{IsPlaced, placed, slot-is}
use Rattle.device.specs.declared.mode.DeviceParts.{DeviceParts}
use Rattle.device.specs.Device.{IsDevice, any_mode}
use Rattle.device.proofs.ModeLemmas.{condition_now, flight_now}
use Rattle.device.specs.Run.{HasRun}
use Rattle.device.proofs.RunLemmas.{run_one}
use Rattle.device.proofs.TagsLemmas.{leaves_all}
use Rattle.stream_io.specs.Stream.{AddsPrefix}
use Rattle.nbd_model.specs.Message.{EIO}
use Rattle.nbd_model.specs.Judged.{error_of, reply_bytes}
use Rattle.nbd_model.specs.Session.{Does, Flying, answer_bytes, taken_of}
use Rattle.nbd_model.specs.Deeds.{error_in, tells_eio}
use Rattle.nbd_model.proofs.ErrorLemmas.{error_law}
use Rattle.nbd_flight.specs.declared.stop.Stop.TheVariants as Faults
use Rattle.nbd_flight.specs.declared.flight.Flight.{Flight as RustFlight}
use Rattle.nbd_flight.specs.declared.flight.Waiting.{Waiting}
use Rattle.nbd_flight.specs.Deeds.{HasDone, HasStopped, Scene, held_with}
use Rattle.nbd_flight.specs.Flight.{flying_of}
use Rattle.nbd_flight.specs.Rounds.{HasReplied}
use Rattle.nbd_flight.proofs.DeedLemmas.{held_none}
use Rattle.nbd_flight.specs.Replying.{bytes_told, tells_damage}

-- What is written is what the model replies, and tells a damaged block where that does.
bytes-by : (cookie : ℕ) (r : Asks.Request) (bytes : List ℕ) (outcome : Outcome)
    → let reply = reply_by (request_with r bytes) outcome in reply_bytes cookie r (as_reply reply) (returned_in reply) ≡ bytes_told cookie reply
bytes-by cookie (Asks.Read first count) bytes Unfinished = refl
bytes-by cookie (Asks.Read first count) bytes Finished = refl
bytes-by cookie (Asks.Read first count) bytes (Fault block stored computed) = refl
bytes-by cookie (Asks.Write first blocks fua) bytes outcome = refl
bytes-by cookie Asks.Flush bytes outcome = refl

damage-by : (r : Asks.Request) (bytes : List ℕ) (outcome : Outcome)
    → let reply = reply_by (request_with r bytes) outcome in (error_of r (as_reply reply) == EIO) ≡ tells_damage reply
damage-by (Asks.Read first count) bytes Unfinished = refl
damage-by (Asks.Read first count) bytes Finished = refl
damage-by (Asks.Read first count) bytes (Fault block stored computed) = refl
damage-by (Asks.Write first blocks fua) bytes outcome = refl
damage-by Asks.Flush bytes outcome = refl

-- A reply that is taken is that of the slot.
taken-ok : (ticket : ℕ) (slot : Slot) (reply : Reply) → ◌≡◌ {A = Result Reply ℕ} (Ok reply) (taken_by ticket (Some slot)) → reply ≡ reply_of slot
taken-ok ticket slot reply same = elim (cases_Bool (is_unfinished slot)) [
  | inl still ↦
      let is : ◌≡◌ {A = Result Reply ℕ} (Ok reply) (Err ticket) = same ∙ ap (λ (b : Bool). if b then Err ticket else Ok (reply_of slot)) still in
      absurd (cc is)
  | inr done ↦
      let is : ◌≡◌ {A = Result Reply ℕ} (Ok reply) (Ok (reply_of slot)) = same ∙ ap (λ (b : Bool). if b then Err ticket else Ok (reply_of slot)) done in
      cc is
]

replied_request : (p : Model.Progress) (k : ℕ) (a : Asks.Asked) (state : Asks.RequestState) (r : Asks.Request)
    (reply : ModelReply.Reply) (returned : List ℕ) → (Model.take_by p k a state).answer ≡ Model.Replied r reply returned → r ≡ a.request
replied_request p k a Asks.Unfinished r reply returned same = absurd (cc)
replied_request p k a Asks.Finished r reply returned same = cc
replied_request p k a Asks.Taken r reply returned same = absurd (cc)
replied_request p k a Asks.Dropped r reply returned same = absurd (cc)

module _ (w : Standing) (parts : DeviceParts) (a : List Content) (is : IsDevice w Conditions.Working parts a) (ticket : ℕ)
    (there : is_in_flight ticket parts.common.slots ≡ true) where
  abbrev answer : Model.Answer
  answer = (Model.event_result w.format w.state (Take ticket)).answer

  own_place : IsPlaced ticket 1 w.state.progress.requests
  own_place =
      let flight = flight_now w Conditions.Working parts.mode parts.common a is in
      placed ticket 1 w.state.progress.requests (sym (ap (λ (xs : List Slot). list_any (is_of ticket) xs) flight.slots) ∙ there)

  ticket_is : ticket ≡ suc own_place.place
  ticket_is = let same = own_place.is in omega (arith, same)

  -- The reply and its request, by what the device's list has of it.
  record IsReplyOf (reply : Reply) : Type 0 where
    request : Asks.Request
    bytes : List ℕ
    outcome : Outcome
    reply_is : reply ≡ reply_by (request_with request bytes) outcome
    answer_is : answer ≡ Model.Replied request (as_reply reply) (returned_in reply)

  reply_now : (reply : Reply) → ◌≡◌ {A = Result Reply ℕ} (Ok reply) (taken_by ticket (slot_of ticket parts.common.slots))
      → IsTaken (Ok reply) answer → IsReplyOf reply
  reply_now reply same taken =
      let place = own_place in
      let asked = place.asked in
      let slot : slot_of ticket parts.common.slots ≡ Some (slot_for (1 + place.place) asked) =
      ap (λ (t : ℕ). slot_of t parts.common.slots) ticket_is
      ∙ slot-is w.format parts.common.slots w.state.progress.requests (flight_now w Conditions.Working parts.mode parts.common a is) place.place asked place.there place.open_ in
      let request_is : taken.0 ≡ asked.request =
      replied_request w.state.progress place.place asked asked.state taken.0 (as_reply reply) (returned_in reply)
      (sym (ap (λ (x : EventResult). x.answer)
      (ap (λ (t : ℕ). Model.event_result w.format w.state (Take t)) ticket_is
      ∙ result-working w.format w.state (Take (suc place.place)) (condition_now w Conditions.Working parts.mode parts.common a is)
      ∙ ap (Model.take_asked w.state.progress place.place) place.there)) ∙ taken.1) in
      record {
        request = asked.request;
        bytes = bytes_now asked;
        outcome = (slot_for (1 + place.place) asked).outcome;
        reply_is = taken-ok ticket (slot_for (1 + place.place) asked) reply (same ∙ ap (taken_by ticket) slot);
        answer_is = taken.1 ∙ ap (λ (r : Asks.Request). Model.Replied r (as_reply reply) (returned_in reply)) request_is;
      }

  pub answer_bytes-is : (cookie : ℕ) (reply : Reply) → ◌≡◌ {A = Result Reply ℕ} (Ok reply) (taken_by ticket (slot_of ticket parts.common.slots))
      → IsTaken (Ok reply) answer → answer_bytes cookie answer ≡ bytes_told cookie reply
  answer_bytes-is cookie reply same taken =
      let now = reply_now reply same taken in
      let own = reply_by (request_with now.request now.bytes) now.outcome in
      ap (answer_bytes cookie) now.answer_is
      ∙ ap (λ (x : Reply). reply_bytes cookie now.request (as_reply x) (returned_in x)) now.reply_is
      ∙ bytes-by cookie now.request now.bytes now.outcome ∙ ap (bytes_told cookie) (sym now.reply_is)

  pub damage-is : (cookie : ℕ) (reply : Reply) → ◌≡◌ {A = Result Reply ℕ} (Ok reply) (taken_by ticket (slot_of ticket parts.common.slots))
      → IsTaken (Ok reply) answer → (error_in (answer_bytes cookie answer) == EIO) ≡ tells_damage reply
  damage-is cookie reply same taken =
      let now = reply_now reply same taken in
      ap (λ (x : Model.Answer). error_in (answer_bytes cookie x) == EIO) now.answer_is
      ∙ ap (λ (n : ℕ). n == EIO) (error_law cookie now.request (as_reply reply) (returned_in reply))
      ∙ ap (λ (x : Reply). error_of now.request (as_reply x) == EIO) now.reply_is
      ∙ damage-by now.request now.bytes now.outcome ∙ ap tells_damage (sym now.reply_is)

-- ---- a reply that is taken and written

module _ (w : Standing) (r : Flying) (result : Result Reply ℕ) (condition : Condition) (old new : Scene)
    (works : condition ≡ Conditions.Working) (taken : HasTaken any_mode w r.ticket result condition new.parts new.moments)
    (same : new.moments ≡ old.moments) where
  abbrev told : List ℕ
  told = answer_bytes r.cookie (Model.event_result w.format w.state (Take r.ticket)).answer

  take_run : HasRun w (Take r.ticket ∷ []) new.parts old.moments new.moments
  take_run =
      let is = subst (λ (x : Condition). HasDoneEvent any_mode w (Take r.ticket) x new.parts new.moments new.moments) works taken.done in
      subst (λ (m : List Content). HasRun w (Take r.ticket ∷ []) new.parts m new.moments) same
      (run_one w (Take r.ticket) new.parts new.moments new.moments is (leaves_all w _ refl))

  -- It is written whole,
  pub taken_done : new.held ≡ held_with told old.held → HasDone w (taken_of w.format r w.state) old new
  taken_done written = record {
    run = take_run;
    told = written ∙ ap (λ (l : List ℕ). held_with l old.held) (sym (append-nil told));
  }

  -- or in part.
  pub taken_torn : AddsPrefix told old.held new.held → HasStopped w (taken_of w.format r w.state) Faults.Sink old new
  taken_torn written = record {
    made = Does (Take r.ticket) ∷ [];
    number = r.number;
    bytes = told;
    rest = [];
    all = refl;
    run = take_run;
    told = subst (λ (o : Option (List ℕ)). AddsPrefix told o new.held) (sym (held_none old.held)) written;
  }

  pub taken_damage : (b : Bool) → (error_in told == EIO) ≡ b → tells_eio (taken_of w.format r w.state) ≡ b
  taken_damage b is = or_false (error_in told == EIO) ∙ is
    where
      or_false : (x : Bool) → (x || false) ≡ x
      or_false true = refl
      or_false false = refl

-- Nothing is written where the request has no reply.
pub no_reply : (w : Standing) (r : Flying) (back : ℕ) (condition : Condition) (parts : DeviceParts) (moments : List Content)
    → HasTaken any_mode w r.ticket (Err back) condition parts moments
    → answer_bytes r.cookie (Model.event_result w.format w.state (Take r.ticket)).answer ≡ []
no_reply w r back condition parts moments taken = ap (answer_bytes r.cookie) taken.taken

-- ---- for callers

module _ (w : Standing) (own : Waiting) (number : ℕ) (condition : Condition) (x y : RustFlight) (old new : Scene)
    (is : IsDevice w Conditions.Working old.parts old.moments) (there : is_in_flight own.ticket old.parts.common.slots ≡ true)
    (works : condition ≡ Conditions.Working) (same : new.moments ≡ old.moments) where
  abbrev r : Flying
  r = flying_of number own

  module _ (reply : Reply) (taken : HasTaken any_mode w own.ticket (Ok reply) condition new.parts new.moments)
      (by_slot : ◌≡◌ {A = Result Reply ℕ} (Ok reply) (taken_by own.ticket (slot_of own.ticket old.parts.common.slots))) where
    -- The reply is written whole,
    pub reply_done : new.held ≡ held_with (bytes_told own.cookie reply) old.held → y.eio ≡ (x.eio || tells_damage reply)
        → HasReplied w r x y old new
    reply_done written damage = record {
      done = taken_done w r (Ok reply) condition old new works taken same
          (written ∙ ap (λ (l : List ℕ). held_with l old.held) (sym (answer_bytes-is w old.parts old.moments is own.ticket there own.cookie reply by_slot taken.taken)));
      damage = damage ∙ ap (λ (b : Bool). x.eio || b) (sym (taken_damage w r (Ok reply) condition old new works taken same (tells_damage reply)
          (damage-is w old.parts old.moments is own.ticket there own.cookie reply by_slot taken.taken)));
    }

    -- or in part.
    pub reply_torn : AddsPrefix (bytes_told own.cookie reply) old.held new.held → HasStopped w (taken_of w.format r w.state) Faults.Sink old new
    reply_torn written =
        taken_torn w r (Ok reply) condition old new works taken same
        (subst (λ (l : List ℕ). AddsPrefix l old.held new.held) (sym (answer_bytes-is w old.parts old.moments is own.ticket there own.cookie reply by_slot taken.taken)) written)

  -- There is none.
  pub reply_none : (back : ℕ) → HasTaken any_mode w own.ticket (Err back) condition new.parts new.moments → new.held ≡ old.held → y.eio ≡ x.eio
      → HasReplied w r x y old new
  reply_none back taken written damage =
      let none = no_reply w r back condition new.parts new.moments taken in
      record {
        done = taken_done w r (Err back) condition old new works taken same
            (written ∙ sym (ap (λ (l : List ℕ). held_with l old.held) none ∙ held_none old.held));
        damage = damage ∙ sym (or_none x.eio) ∙ ap (λ (b : Bool). x.eio || b) (sym (taken_damage w r (Err back) condition old new works taken same false
            (ap (λ (l : List ℕ). error_in l == EIO) none)));
      }
    where
      or_none : (b : Bool) → (b || false) ≡ b
      or_none true = refl
      or_none false = refl
