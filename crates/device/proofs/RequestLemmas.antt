-- Requests come and go in each mode alike, and a broken device only answers.
use Rattle.std.proofs.Common.{◌≡◌, ℕ, suc, ◌+◌, Bool, true, false, if◌then◌else◌, List, [], slice_get, Option, None, Some, IfOk, Result, Ok, Err, refl, sym, ◌∙◌, ap, subst, arith}
use Rattle.std.specs.List.{list_any}
use Rattle.std.specs.Option.{option_or}
use Rattle.std.proofs.lemmas.Bool.{false≢true}
use Rattle.disk_model.specs.Disk.{Content}
use Rattle.disk_model.proofs.MomentsLemmas.{no_moment}
use Rattle.device_model.specs.History.{with_changes}
use Rattle.device_model.specs.Mode as Modes
use Rattle.device_model.specs.Mode.{DeviceFormat}
use Rattle.device_model.specs.Progress as Model
use Rattle.device_model.specs.Reply as ModelReply
use Rattle.device_model.specs.Request as Asks
use Rattle.device_model.specs.Submission as Submissions
use Rattle.device_model.proofs.EventLemmas.{taken_reached}
use Rattle.device_model.proofs.SubmissionLemmas.{result-working}
use Rattle.direct_laws.specs.MomentLaws.{IsLeftNow}
use Rattle.request_slots.specs.Flight.{Flight, is_in_flight, is_of, is_unfinished, slot_of}
use Rattle.request_slots.specs.InFlight.{IsFlightOf, as_reply, as_submission, returned_in, slot_for, submit_answer}
use Rattle.request_slots.specs.Submitting.{after_submit, fault_of}
use Rattle.request_slots.specs.Taking.{after_take, reply_of, taken_by, without}
use Rattle.request_slots.specs.declared.reply.Reply.{Reply}
use Rattle.request_slots.specs.declared.request.Request.{Request}
use Rattle.request_slots.specs.declared.slot.Slot.{Slot}
use Rattle.request_slots.specs.declared.submit_fault.SubmitFault.{SubmitFault}
use Rattle.request_slots.specs.declared.submit_fault.SubmitFault.TheVariants as SubmitFaults
use Rattle.request_slots.proofs.InFlightLemmas.{is_open-outcome_in}
use Rattle.request_slots.proofs.ServeEventLemmas.{flight_taken, reply_is_told}
use Rattle.request_slots.proofs.SubmitEventLemmas.{submit_is_told}
use Rattle.device_parts.specs.declared.condition.Condition.{Condition}
use Rattle.device_parts.specs.declared.condition.Condition.TheVariants as Conditions
use Rattle.device_parts.specs.Answers.{HasTaken, IsSerial, submit_fault}
use Rattle.device_parts.specs.Device.{HasEnded, IsDone, Standing, condition_of}
use Rattle.device_parts.specs.declared.parts.Parts.{Parts}
use Rattle.device_parts.proofs.TurnLemmas.{placed, slot-is}
use Rattle.bitmap_device.specs.Device.{kept as bitmap_kept}
use Rattle.recovery_device.specs.Device.{HasNoWrite, in_recovery}
use Rattle.recovery_device.proofs.EventLemmas.{is_submitted as recovery_submitted, submitted_to, taken_writes}
use Rattle.recovery_device.proofs.NoWriteLemmas.{no_write_submit, no_write_take}
use Rattle.device_parts.proofs.ReadyLemmas.{HasSameBlocks, ready-same, submit-same, take-same}
use Rattle.disk_model.specs.Identity.{DiskIdentity}
use Rattle.device.specs.declared.mode.DeviceParts.{DeviceParts}
use Rattle.device.specs.declared.mode.Mode.{Mode}
use Rattle.device.specs.declared.mode.Mode.TheVariants.{Bitmap, Direct, Journal, Recovery}
use Rattle.device.specs.Answers.{refusal_in}
use Rattle.device.specs.Device.{IsDevice, IsDeviceIn, IsReady, IsReadyIn, any_mode, kind_of, mode_of, with_slots}
use Rattle.device.proofs.ModeLemmas.{condition_now, done_plain, flight_now, in_recovery_mode, left_now, only_done, own_direct, own_journal, plain_bitmap, plain_recovery, quiet_done, reached_now}

-- ---- a device that is broken

module _ (w : Standing) (parts : DeviceParts) (a : List Content) (is : IsDevice w Conditions.Broken parts a) where
  broken-is : (event : Model.Event) → Model.event_result w.format w.state event ≡ Model.broken_result w.state.progress event
  broken-is event = ap (λ (c : Model.Condition). Model.result_in w.format w.state c event) (condition_now w Conditions.Broken parts.mode parts.common a is)

  pub broken_serve : (ticket : ℕ) → IsDone any_mode w (Model.Serve ticket) Model.IsBroken Conditions.Broken parts a a
  broken_serve ticket = only_done w Conditions.Broken parts a (Model.Serve ticket) Model.IsBroken is (broken-is (Model.Serve ticket)) refl

  pub broken_step : (actor : Model.Actor) → IsDone any_mode w (Model.Step actor) Model.IsBroken Conditions.Broken parts a a
  broken_step actor = only_done w Conditions.Broken parts a (Model.Step actor) Model.IsBroken is (broken-is (Model.Step actor)) refl

  broken_submit : (request : Request) → IsDone any_mode w (Model.Submit (as_submission request)) Model.IsBroken Conditions.Broken parts a a
  broken_submit request = only_done w Conditions.Broken parts a (Model.Submit (as_submission request)) Model.IsBroken is (broken-is (Model.Submit (as_submission request))) refl

  pub broken_close : HasEnded any_mode w Model.Close Model.IsBroken a a
  broken_close =
      let told = broken-is Model.Close in
      record {
        answers = ap (λ (x : Model.EventResult). x.answer) told;
        through = record { opens = no_moment a _; left = no_moment a _ };
        left = subst (λ (x : Model.EventResult). IsLeftNow (kind_of w) w.entry (with_changes x.changes w.state.history) a) (sym told)
            (left_now w Conditions.Broken parts.mode parts.common a is);
      }

-- ---- a submission

submit-none : (f : DeviceFormat) (p : Model.Progress) (submission : Submissions.Submission) (o : Option Model.Answer)
    → ((Model.submit_by f p submission o).changes ≡ []) × ((Model.submit_by f p submission o).progress.journal ≡ p.journal)
    × ((Model.submit_by f p submission o).progress.regions ≡ p.regions)
submit-none f p submission None = (refl, refl, refl)
submit-none f p submission (Some answer) = (refl, refl, refl)

module _ (w : Standing) (a : List Content) (request : Request) where
  -- What is kept in a mode, once the request is submitted, or refused for this.
  abbrev submitted : Mode → Parts → Option SubmitFault → DeviceParts
  submitted mode common fault = record {
    common = record common { slots = after_submit fault request common.slots };
    mode = mode;
  }

  -- The request is submitted, or refused for this.
  abbrev pub IsSubmitted : Mode → Condition → Parts → Option SubmitFault → Type 0
  IsSubmitted mode condition common fault =
      IsDone any_mode w (Model.Submit (as_submission request)) (submit_answer fault (suc common.slots.submitted)) condition
      (submitted mode common fault) a a

  abbrev refusal_for : Mode → Condition → Parts → Option SubmitFault
  refusal_for mode condition common = refusal_in (mode_of mode) condition common.slots request

  -- A device that takes writes takes each request that fits.
  taken : (mode : Mode) (common : Parts) → IsDeviceIn mode w Conditions.Working common a → Modes.is_recovery w.format.mode ≡ false
      → IsSubmitted mode Conditions.Working common (fault_of common.slots request)
  taken mode common is takes_writes =
      let parts : DeviceParts = record { common = common; mode = mode } in
      let event = Model.Submit (as_submission request) in
      let working = result-working w.format w.state event (condition_now w Conditions.Working mode common a is) in
      let told = submit_is_told w.format w.state.progress common.slots request (flight_now w Conditions.Working mode common a is) takes_writes in
      let none = submit-none w.format w.state.progress (as_submission request)
      (option_or (Model.form_refusal w.format (as_submission request)) (Model.slots_refusal w.format w.state.progress.requests)) in
      record {
        answers = ap (λ (x : Model.EventResult). x.answer) working ∙ told.0;
        done = quiet_done w Conditions.Working parts (after_submit (fault_of common.slots request) request common.slots) a event is
            (ap (λ (x : Model.EventResult). x.changes) working ∙ none.0)
            (ap (λ (x : Model.EventResult). x.progress.journal) working ∙ none.1) (ap (λ (x : Model.EventResult). x.progress.regions) working ∙ none.2)
            (subst (λ (x : Model.EventResult). IsFlightOf w.format (after_submit (fault_of common.slots request) request common.slots) x.progress.requests) (sym working) told.1) refl;
      }

  takes : (m : Modes.Mode) → m ≡ w.format.mode → Modes.is_recovery m ≡ false → Modes.is_recovery w.format.mode ≡ false
  takes m own other = ap Modes.is_recovery (sym own) ∙ other

  broken : (mode : Mode) (common : Parts) → IsDeviceIn mode w Conditions.Broken common a
      → IsSubmitted mode Conditions.Broken common (Some SubmitFaults.Broken)
  broken mode common is = broken_submit w (record { common = common; mode = mode }) a is request

  submitted_in : (mode : Mode) (condition : Condition) (common : Parts) → IsDeviceIn mode w condition common a
      → IsSubmitted mode condition common (refusal_for mode condition common)
  submitted_in (Direct r) Conditions.Broken common is = broken (Direct r) common is
  submitted_in (Direct r) Conditions.Working common is =
      taken (Direct r) common is (takes Modes.Direct (own_direct w Conditions.Working common r a is) refl)
  submitted_in (Journal state) Conditions.Broken common is = broken (Journal state) common is
  submitted_in (Journal state) Conditions.Working common is =
      taken (Journal state) common is (takes Modes.Journal (own_journal w Conditions.Working common state a is) refl)
  submitted_in (Bitmap regions) Conditions.Broken common is = broken (Bitmap regions) common is
  submitted_in (Bitmap regions) Conditions.Working common is =
      taken (Bitmap regions) common is (takes Modes.Bitmap (plain_bitmap.own w Conditions.Working (bitmap_kept common regions) a is) refl)
  submitted_in Recovery condition common is =
      let done = recovery_submitted w condition common a request is in
      record {
        answers = done.answers;
        done = done_plain in_recovery Modes.Recovery in_recovery_mode plain_recovery w condition common a is
            (Model.Submit (as_submission request)) condition (submitted_to condition request common) a a tt tt done.done;
      }

  pub is_submitted : (condition : Condition) (parts : DeviceParts) → IsDevice w condition parts a
      → IsSubmitted parts.mode condition parts.common (refusal_for parts.mode condition parts.common)
  is_submitted condition parts is = submitted_in parts.mode condition parts.common is

-- In a mode that takes writes a request is refused as its slots refuse it.
pub refusal_other : (mode : Mode) → (mode ≡ Recovery → ⊥) → (condition : Condition) (flight : Flight) (request : Request)
    → refusal_in (mode_of mode) condition flight request ≡ submit_fault condition flight request
refusal_other (Direct r) other condition flight request = refl
refusal_other (Journal state) other condition flight request = refl
refusal_other (Bitmap regions) other condition flight request = refl
refusal_other Recovery other condition flight request = absurd (other refl)

pub submitted_as : (w : Standing) (parts new : DeviceParts) (condition : Condition) (request : Request) (a : List Content)
    → new ≡ with_slots parts (after_submit (refusal_in (mode_of parts.mode) condition parts.common.slots request) request parts.common.slots)
    → IsDevice w condition parts a
    → IsDone any_mode w (Model.Submit (as_submission request))
    (submit_answer (refusal_in (mode_of parts.mode) condition parts.common.slots request) (suc parts.common.slots.submitted)) condition new a a
submitted_as w parts new condition request a same is =
    subst (λ (p : DeviceParts). IsDone any_mode w (Model.Submit (as_submission request))
    (submit_answer (refusal_in (mode_of parts.mode) condition parts.common.slots request) (suc parts.common.slots.submitted)) condition p a a) (sym same)
    (is_submitted w a request condition parts is)

-- ---- a reply

module _ (w : Standing) (condition : Condition) (parts : DeviceParts) (a : List Content) (is : IsDevice w condition parts a) where
  abbrev slots : Flight
  slots = parts.common.slots

  flight : IsFlightOf w.format slots w.state.progress.requests
  flight = flight_now w condition parts.mode parts.common a is

  take-in : (c : Condition) → w.state.condition ≡ condition_of c → (ticket : ℕ) → Model.event_result w.format w.state (Model.Take ticket) ≡ Model.take_reply w.state.progress ticket
  take-in Conditions.Working e ticket = ap (λ (c : Model.Condition). Model.result_in w.format w.state c (Model.Take ticket)) e
  take-in Conditions.Broken e ticket = ap (λ (c : Model.Condition). Model.result_in w.format w.state c (Model.Take ticket)) e

  abbrev taken_at : ℕ → Option Slot → DeviceParts
  taken_at ticket slot = with_slots parts (after_take ticket slot slots)

  abbrev Takes : ℕ → Option Slot → Type 0
  Takes ticket slot = HasTaken any_mode w ticket (taken_by ticket slot) condition (taken_at ticket slot) a

  module _ (k : ℕ) (r : Asks.Asked) (there : slice_get w.state.progress.requests k ≡ Some r) where
    abbrev slot : Slot
    slot = slot_for (1 + k) r

    take-state : (state : Asks.RequestState) → r.state ≡ state → Model.event_result w.format w.state (Model.Take (suc k)) ≡ Model.take_by w.state.progress k r state
    take-state state e =
        take-in condition (condition_now w condition parts.mode parts.common a is) (suc k)
        ∙ ap (Model.take_asked w.state.progress k) there ∙ ap (Model.take_by w.state.progress k r) e

    take_unfinished : r.state ≡ Asks.Unfinished → Takes (suc k) (Some slot)
    take_unfinished e =
        let told = take-state Asks.Unfinished e in
        let unfinished : is_unfinished slot ≡ true = is_open-outcome_in r.state r.reply ∙ ap Asks.is_unfinished e in
        subst (λ (b : Bool). HasTaken any_mode w (suc k) (if b then Err (suc k) else Ok (reply_of slot)) condition
        (with_slots parts (if b then slots else record slots { slots = without (suc k) slots.slots })) a) (sym unfinished)
        (record {
          taken = ap (λ (x : Model.EventResult). x.answer) told;
          done = quiet_done w condition parts slots a (Model.Take (suc k)) is (ap (λ (x : Model.EventResult). x.changes) told)
              (ap (λ (x : Model.EventResult). x.progress.journal) told) (ap (λ (x : Model.EventResult). x.progress.regions) told)
              (subst (λ (x : Model.EventResult). IsFlightOf w.format slots x.progress.requests) (sym told) flight) refl;
        })

    take_finished : r.state ≡ Asks.Finished → Takes (suc k) (Some slot)
    take_finished e =
        let told = take-state Asks.Finished e in
        let finished : is_unfinished slot ≡ false = is_open-outcome_in r.state r.reply ∙ ap Asks.is_unfinished e in
        let reply = reply_is_told w.format (1 + k) r e (flight.each k r there).0 (flight.each k r there).1 in
        let less : Flight = record slots { slots = without (suc k) slots.slots } in
        subst (λ (b : Bool). HasTaken any_mode w (suc k) (if b then Err (suc k) else Ok (reply_of slot)) condition
        (with_slots parts (if b then slots else less)) a) (sym finished)
        (record {
          taken = (
            r.request,
            ap (λ (x : Model.EventResult). x.answer) told
                ∙ ap (λ (x : ModelReply.Reply). Model.Replied r.request x (Asks.returned_by r.request r.reply r.got r.given)) (sym reply.0)
                ∙ ap (Model.Replied r.request (as_reply (reply_of slot))) (sym reply.1),
          );
          done = quiet_done w condition parts less a (Model.Take (suc k)) is (ap (λ (x : Model.EventResult). x.changes) told)
              (ap (λ (x : Model.EventResult). x.progress.journal) told) (ap (λ (x : Model.EventResult). x.progress.regions) told)
              (subst (λ (x : Model.EventResult). IsFlightOf w.format less x.progress.requests) (sym told)
              (flight_taken w.format slots w.state.progress.requests k r flight there e)) refl;
        })

    take_open : Asks.is_over r.state ≡ false → (state : Asks.RequestState) → r.state ≡ state → Takes (suc k) (Some slot)
    take_open open_ Asks.Unfinished e = take_unfinished e
    take_open open_ Asks.Finished e = take_finished e
    take_open open_ Asks.Taken e = absurd (false≢true (sym open_ ∙ ap Asks.is_over e))
    take_open open_ Asks.Dropped e = absurd (false≢true (sym open_ ∙ ap Asks.is_over e))

    -- The reply that is given is the one of the requests run one after the other.
    serial_by : (result : Result Reply ℕ) → HasTaken any_mode w (suc k) result condition (taken_at (suc k) (Some slot)) a
        → IfOk result (IsSerial w (suc k))
    serial_by (Ok reply) has = record {
      place = k;
      is = refl;
      request = has.taken.0;
      serial = taken_reached w.format w.state (reached_now w condition parts.mode parts.common a is) k has.taken.0 (as_reply reply) (returned_in reply) has.taken.1;
    }
    serial_by (Err back) has = tt

  pub is_taken : (ticket : ℕ) → is_in_flight ticket slots ≡ true
      → Takes ticket (slot_of ticket slots) × IfOk (taken_by ticket (slot_of ticket slots)) (IsSerial w ticket)
  is_taken ticket there =
      let place = placed ticket 1 w.state.progress.requests (sym (ap (λ (xs : List Slot). list_any (is_of ticket) xs) flight.slots) ∙ there) in
      let ticket_is : ticket ≡ suc place.place = let same = place.is in omega (arith, same) in
      let own = slot-is w.format slots w.state.progress.requests flight place.place place.asked place.there place.open_ in
      let has = take_open place.place place.asked place.there place.open_ place.asked.state refl in
      let Both = λ (t : ℕ) (o : Option Slot). Takes t o × IfOk (taken_by t o) (IsSerial w t) in
      subst (λ (t : ℕ). Both t (slot_of t slots)) (sym ticket_is)
      (subst (Both (suc place.place)) (sym own)
      (has, serial_by place.place place.asked place.there (taken_by (suc place.place) (Some (slot_for (1 + place.place) place.asked))) has))

-- ---- what is ready

-- It stays so with other requests on the same blocks, of which in recovery mode none is a write.
ready_in : (mode : Mode) (condition : Condition) (common : Parts) (flight : Flight) (disk : DiskIdentity) (a : List Content)
    → HasSameBlocks common.slots flight → (mode ≡ Recovery → HasNoWrite common.slots → HasNoWrite flight)
    → IsReadyIn mode condition common disk a → IsReadyIn mode condition (record common { slots = flight }) disk a
ready_in (Direct r) condition common flight disk a same none ready = record {
  parts_ = ready-same common flight disk a same ready.parts_;
  geometry = ready.geometry;
}
ready_in (Journal state) condition common flight disk a same none ready = record {
  parts_ = λ works. ready-same common flight disk a same (ready.parts_ works);
  geometry = ready.geometry;
  regions_ = ready.regions_;
}
ready_in (Bitmap regions) condition common flight disk a same none ready = record {
  parts_ = ready-same common flight disk a same ready.parts_;
  geometry = ready.geometry;
}
ready_in Recovery condition common flight disk a same none ready = record {
  kept = ready-same common flight disk a same ready.kept;
  no_write = none refl ready.no_write;
}

pub ready_submitted : (condition now : Condition) (parts : DeviceParts) (request : Request) (disk : DiskIdentity) (a : List Content)
    → IsReady now parts disk a
    → IsReady now (with_slots parts (after_submit (refusal_in (mode_of parts.mode) condition parts.common.slots request) request parts.common.slots)) disk a
ready_submitted condition now parts request disk a ready =
    let slots = parts.common.slots in
    let fault = refusal_in (mode_of parts.mode) condition slots request in
    ready_in parts.mode now parts.common (after_submit fault request slots) disk a (submit-same fault request slots)
    (λ e. no_write_submit fault request slots
    (λ none. taken_writes condition slots request (subst (λ (m : Mode). refusal_in (mode_of m) condition slots request ≡ None) e none)))
    ready

pub ready_taken : (now : Condition) (parts : DeviceParts) (ticket : ℕ) (disk : DiskIdentity) (a : List Content)
    → IsReady now parts disk a
    → IsReady now (with_slots parts (after_take ticket (slot_of ticket parts.common.slots) parts.common.slots)) disk a
ready_taken now parts ticket disk a ready =
    let slots = parts.common.slots in
    let slot = slot_of ticket slots in
    ready_in parts.mode now parts.common (after_take ticket slot slots) disk a (take-same ticket slot slots)
    (λ e. no_write_take ticket slot slots) ready

-- ---- for callers

-- What is given for each device is given whichever it is.
pub serial_each : (parts : DeviceParts) (ticket : ℕ) → is_in_flight ticket parts.common.slots ≡ true → (result : Result Reply ℕ)
    → result ≡ taken_by ticket (slot_of ticket parts.common.slots) → (condition : Condition) (moments : List Content)
    → IfOk result (λ reply. (w : Standing) → IsDevice w condition parts moments → IsSerial w ticket reply)
serial_each parts ticket there result same condition moments =
    by result (λ w is.
    subst (λ (r : Result Reply ℕ). IfOk r (IsSerial w ticket)) (sym same) (is_taken w condition parts moments is ticket there).1)
  where
    by : (r : Result Reply ℕ) → ((w : Standing) → IsDevice w condition parts moments → IfOk r (IsSerial w ticket))
        → IfOk r (λ reply. (w : Standing) → IsDevice w condition parts moments → IsSerial w ticket reply)
    by (Ok reply) serial = serial
    by (Err back) serial = tt
