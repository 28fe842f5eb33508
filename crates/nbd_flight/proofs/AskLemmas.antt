-- A request that came whole: what is handed in for it, and what is in flight then.
use Rattle.std.proofs.Common.{◌≡◌, ℕ, suc, ◌≤◌, ◌==◌, ◌||◌, Bool, true, false, if◌then◌else◌, List, [], ◌∷◌, ◌++◌, Option, None, Some, Result, Ok, Err, refl, sym, ◌∙◌, ap, subst, arith, append-nil}
use Rattle.std.specs.List.{list_any}
use Rattle.std.proofs.lemmas.Bool.{eq-eqb}
use Rattle.disk_model.specs.Disk.{Content}
use Rattle.disk_model.specs.Identity.{DiskIdentity}
use Rattle.device_model.specs.Progress as Model
use Rattle.device_model.specs.Progress.{Answer, Submit, event_result}
use Rattle.device_model.specs.Submission as submissions
use Rattle.device_model.specs.Submission.{Submission}
use Rattle.device_model.specs.Transcript.{BlockFormat}
use Rattle.request_slots.specs.Flight as slots
use Rattle.request_slots.specs.Flight.{is_in_flight, is_of, newly_slotted}
use Rattle.request_slots.specs.InFlight.{as_answer}
use Rattle.request_slots.specs.Submitting.{after_submit, answer_by, with_request}
use Rattle.request_slots.specs.declared.request.Request.{Request}
use Rattle.request_slots.specs.declared.slot.Slot.{Slot}
use Rattle.request_slots.specs.declared.submit_fault.SubmitFault.{SubmitFault}
use Rattle.request_slots.specs.declared.submit_fault.SubmitFault.TheVariants as SubmitFaults
use Rattle.device_parts.specs.declared.condition.Condition.{Condition}
use Rattle.device_parts.specs.declared.condition.Condition.TheVariants as Conditions
use Rattle.device_parts.specs.Device.{HasDone as HasDoneEvent, IsDone, Standing}
use Rattle.device.specs.declared.mode.DeviceParts.{DeviceParts}
use Rattle.device.specs.Calls.{StaysReady, Works}
use Rattle.device.specs.Device.{IsDevice, IsReady, any_mode, mode_of, with_slots}
use Rattle.device.specs.Run.{HasRun}
use Rattle.device.proofs.RunLemmas.{run_none, run_one}
use Rattle.device.proofs.TagsLemmas.{leaves_all}
use Rattle.nbd_model.specs.Message as message
use Rattle.nbd_model.specs.Message.{EIO, Kind, kind_of}
use Rattle.nbd_model.specs.Stream.{Message}
use Rattle.nbd_model.specs.Judged.{is_refused, refusal_bytes, submission_for, submission_of}
use Rattle.nbd_model.specs.declared.nbd_request.NbdRequest.{NbdRequest}
use Rattle.nbd_model.specs.Session.{Deed, Does, Flying, Moment, Part, flying_with, submit_to}
use Rattle.nbd_model.specs.Deeds.{error_in, tells_eio}
use Rattle.nbd_model.proofs.ErrorLemmas.{refusal_law}
use Rattle.stream_io.specs.Stream.{AddsPrefix}
use Rattle.nbd_flight.specs.declared.stop.Stop.TheVariants as Faults
use Rattle.nbd_flight.specs.declared.flight.Flight.{Flight}
use Rattle.nbd_flight.specs.declared.flight.Waiting.{Waiting}
use Rattle.nbd_flight.specs.declared.whole.Whole.{Whole}
use Rattle.nbd_flight.specs.declared.judging.Asked.{Asked}
use Rattle.nbd_flight.specs.declared.judging.Asked.TheVariants.{Read, Write, Flush, Disconnect, Refused}
use Rattle.nbd_flight.specs.Asking.{IsWhole, KeepsBytes, handed_for, handing, submitting}
use Rattle.nbd_flight.specs.Deeds.{HasDone, HasStopped, Scene, held_with}
use Rattle.nbd_flight.specs.Flight.{AreHeld, AreThose}
use Rattle.nbd_flight.specs.Judging.{asked_in, asked_of_kind}
use Rattle.nbd_flight.specs.Rounds.{HasMade, Stays, moment_of}
use Rattle.nbd_flight.proofs.DeedLemmas.{held_none, stopped_before}
use Rattle.nbd_flight.proofs.RoundLemmas.{those-append}
use Rattle.nbd_flight.proofs.ServiceLemmas.{or_false}

-- ---- what is handed in

kept_handed : (asked : Asked) (length : ℕ) (kept bytes : List ℕ) → KeepsBytes asked kept bytes → handed_for asked length kept ≡ handed_for asked length bytes
kept_handed (Read first count) length kept bytes same = refl
kept_handed (Write first count fua) length kept bytes same = ap (λ (l : List ℕ). Some (submissions.Write first count l fua)) same
kept_handed Flush length kept bytes same = refl
kept_handed Disconnect length kept bytes same = refl
kept_handed Refused length kept bytes same = refl

handed_asked : (b : BlockFormat) (m : Message) → handed_for (asked_in b m.request) m.request.length m.bytes ≡ submission_of b m
handed_asked b m = by (is_refused b m.request) (kind_of m.request)
  where
    by : (refused : Bool) (k : Kind) → handed_for (if refused then Refused else asked_of_kind b m.request k) m.request.length m.bytes
        ≡ (if refused then None else submission_for b m k)
    by true k = refl
    by false message.Read = refl
    by false message.Write = refl
    by false message.Disconnect = refl
    by false message.Flush = refl
    by false message.Unknown = refl

-- It is what the model hands in.
pub whole_handed : (b : BlockFormat) (blocks block_size : ℕ) (whole : Whole) (m : Message) → IsWhole blocks block_size whole m → b.blocks ≡ blocks
    → b.block_size ≡ block_size → handed_for whole.asked whole.request.length whole.bytes.items ≡ submission_of b m
whole_handed b blocks block_size whole m is same same_size =
    kept_handed whole.asked whole.request.length whole.bytes.items m.bytes is.bytes
    ∙ ap (λ (a : Asked). handed_for a whole.request.length m.bytes) (is.asked b same same_size)
    ∙ ap (λ (r : NbdRequest). handed_for (asked_in b m.request) r.length m.bytes) is.request ∙ handed_asked b m

-- ---- a submission

pub given_ticket : (fault : Option SubmitFault) (n ticket : ℕ) (request : Request)
    → ◌≡◌ {A = Result ℕ (Request × SubmitFault)} (Ok ticket) (answer_by fault n request) → (ticket ≡ n) × (fault ≡ None)
given_ticket None n ticket request same = (cc, refl)
given_ticket (Some fault) n ticket request same = absurd (cc)

-- A request that comes back was refused.
pub record IsRefused (fault : Option SubmitFault) : Type 0 where
  pub why : SubmitFault
  pub is : fault ≡ Some why

pub refused_back : (fault : Option SubmitFault) (n : ℕ) (request : Request) (back : Request × SubmitFault)
    → ◌≡◌ {A = Result ℕ (Request × SubmitFault)} (Err back) (answer_by fault n request) → IsRefused fault
refused_back None n request back same = absurd (cc)
refused_back (Some fault) n request back same = record { why = fault; is = refl }

module _ (w : Standing) (submission : Submission) (cookie : ℕ) (flying : List Flying) (taken : ℕ) (x y : Flight) (old new : Scene)
    (condition : Condition) (works : condition ≡ Conditions.Working) (same : new.moments ≡ old.moments) (told : new.held ≡ old.held) where
  abbrev answer : Answer
  answer = (event_result w.format w.state (Submit submission)).answer

  module _ (given : Answer) (is : IsDone any_mode w (Submit submission) given condition new.parts new.moments new.moments) where
    submit_done : HasDone w (Does (Submit submission) ∷ []) old new
    submit_done = record {
      run =
          let done = subst (λ (c : Condition). HasDoneEvent any_mode w (Submit submission) c new.parts new.moments new.moments) works is.done in
          subst (λ (m : List Content). HasRun w (Submit submission ∷ []) new.parts m new.moments) same
          (run_one w (Submit submission) new.parts new.moments new.moments done (leaves_all w _ refl));
      told = told ∙ sym (held_none old.held);
    }

  -- It gets a ticket,
  pub submit_made : (ticket : ℕ) (own : Waiting) → IsDone any_mode w (Submit submission) (Model.Ticket ticket) condition new.parts new.moments new.moments
      → own.ticket ≡ ticket → own.cookie ≡ cookie → y.waiting.items ≡ x.waiting.items ++ own ∷ [] → y.eio ≡ x.eio → AreThose x.waiting.items flying
      → HasMade w (submitting submission cookie w (moment_of w flying taken)) x y old new
  submit_made ticket own is own_ticket own_cookie pushed damage are =
      let r : Flying = record { number = taken; ticket = ticket; cookie = cookie } in
      let own_is : r ≡ record { number = taken; ticket = own.ticket; cookie = own.cookie } =
      ap (λ (t : ℕ). record { number = taken; ticket = t; cookie = cookie }) (sym own_ticket) ∙ ap (λ (c : ℕ). record { number = taken; ticket = own.ticket; cookie = c }) (sym own_cookie) in
      record {
        done = submit_done (Model.Ticket ticket) is;
        flying = subst (λ (a : Answer). AreThose y.waiting.items (flying_with (moment_of w flying taken) taken cookie a)) (sym is.answers)
            (subst (λ (l : List Waiting). AreThose l (flying ++ r ∷ [])) (sym pushed) (those-append x.waiting.items (own ∷ []) flying (r ∷ []) are (own_is, tt)));
        damage = damage ∙ sym (or_false x.eio);
      }

  flying-refused : (fault : SubmitFault) → flying_with (moment_of w flying taken) taken cookie (as_answer fault) ≡ flying
  flying-refused SubmitFaults.Broken = refl
  flying-refused SubmitFaults.ReadOnly = refl
  flying-refused (SubmitFaults.Range first count blocks) = refl
  flying-refused (SubmitFaults.Length have need) = refl
  flying-refused (SubmitFaults.SlotsFull slots) = refl

  -- or is refused.
  pub submit_refused : (fault : SubmitFault) → IsDone any_mode w (Submit submission) (as_answer fault) condition new.parts new.moments new.moments
      → y.waiting.items ≡ x.waiting.items → y.eio ≡ x.eio → AreThose x.waiting.items flying
      → HasMade w (submitting submission cookie w (moment_of w flying taken)) x y old new
  submit_refused fault is kept damage are = record {
    done = submit_done (as_answer fault) is;
    flying = subst (λ (a : Answer). AreThose y.waiting.items (flying_with (moment_of w flying taken) taken cookie a)) (sym is.answers)
        (subst (λ (l : List Flying). AreThose y.waiting.items l) (sym (flying-refused fault)) (subst (λ (l : List Waiting). AreThose l flying) (sym kept) are));
    damage = damage ∙ sym (or_false x.eio);
  }

-- ---- what is in flight then

any-push : (t : ℕ) (a : List Slot) (x : Slot) → list_any (is_of t) (a ++ x ∷ []) ≡ (list_any (is_of t) a || is_of t x)
any-push t [] x = or_false (is_of t x)
any-push t (y ∷ a) x = by (is_of t y) (any-push t a x)
  where
    by : (b : Bool) → list_any (is_of t) (a ++ x ∷ []) ≡ (list_any (is_of t) a || is_of t x)
        → (b || list_any (is_of t) (a ++ x ∷ [])) ≡ ((b || list_any (is_of t) a) || is_of t x)
    by true rest = refl
    by false rest = rest

held_pushed : (low : ℕ) (waiting : List Waiting) (own : Waiting) (request : Request) (flight : slots.Flight) → low ≤ flight.submitted
    → own.ticket ≡ suc flight.submitted → AreHeld low waiting flight → AreHeld low (waiting ++ own ∷ []) (with_request request flight)
held_pushed low [] own request flight high is are = (
  omega (arith, high, is),
  omega (arith, is),
  any-push own.ticket flight.slots (newly_slotted (suc flight.submitted) request)
      ∙ ap (λ (b : Bool). list_any (is_of own.ticket) flight.slots || b) (eq-eqb (suc flight.submitted) own.ticket (sym is)) ∙ or_true (list_any (is_of own.ticket) flight.slots),
  tt,
)
  where
    or_true : (b : Bool) → (b || true) ≡ true
    or_true true = refl
    or_true false = refl
held_pushed low (w ∷ waiting) own request flight high is are = (
  are.0,
  omega (arith, are.1),
  any-push w.ticket flight.slots (newly_slotted (suc flight.submitted) request)
      ∙ ap (λ (b : Bool). b || is_of w.ticket (newly_slotted (suc flight.submitted) request)) are.2,
  held_pushed w.ticket waiting own request flight are.1 is are.3,
)

module _ {D : Type 0} (identity : D → DiskIdentity) (moments : D → List Content) (condition now : Condition) (old new : DeviceParts) (first last : D)
    (request : Request) (x y : Flight) (works : Works identity moments condition old first) (same : now ≡ condition)
    (ready : StaysReady identity moments condition old new first last) (are : AreHeld 0 x.waiting.items old.common.slots) where
  now_works : Works identity moments now new last
  now_works = record {
    ready = subst (λ (c : Condition). IsReady c new (identity last) (moments last)) (sym same) (ready works.ready);
    is = same ∙ works.is;
  }

  pub stays_submitted : (fault : Option SubmitFault) (own : Waiting) → fault ≡ None → new ≡ with_slots old (after_submit fault request old.common.slots)
      → own.ticket ≡ suc old.common.slots.submitted → y.waiting.items ≡ x.waiting.items ++ own ∷ [] → Stays 1 identity moments now old new last y
  stays_submitted fault own none taken ticket pushed =
      let flight = with_request request old.common.slots in
      let is : new ≡ with_slots old flight = taken ∙ ap (λ (o : Option SubmitFault). with_slots old (after_submit o request old.common.slots)) none in
      let slots_is : new.common.slots ≡ flight = ap (λ (p : DeviceParts). p.common.slots) is in
      record {
        works = now_works;
        held = subst (AreHeld 0 y.waiting.items) (sym slots_is)
            (subst (λ (l : List Waiting). AreHeld 0 l flight) (sym pushed) (held_pushed 0 x.waiting.items own request old.common.slots (omega arith) ticket are));
        same_mode = ap (λ (p : DeviceParts). mode_of p.mode) is;
        blocks = ap (λ (f : slots.Flight). f.blocks) slots_is;
        block_size = ap (λ (f : slots.Flight). f.block_size) slots_is;
        submitted = let count = ap (λ (f : slots.Flight). f.submitted) slots_is in omega (arith, count);
      }

  pub stays_refused : (fault : Option SubmitFault) → IsRefused fault → new ≡ with_slots old (after_submit fault request old.common.slots)
      → y.waiting.items ≡ x.waiting.items → Stays 1 identity moments now old new last y
  stays_refused fault refused taken kept =
      let is : new ≡ with_slots old old.common.slots = taken ∙ ap (λ (o : Option SubmitFault). with_slots old (after_submit o request old.common.slots)) refused.is in
      let slots_is : new.common.slots ≡ old.common.slots = ap (λ (p : DeviceParts). p.common.slots) is in
      record {
        works = now_works;
        held = subst (AreHeld 0 y.waiting.items) (sym slots_is) (subst (λ (l : List Waiting). AreHeld 0 l old.common.slots) (sym kept) are);
        same_mode = ap (λ (p : DeviceParts). mode_of p.mode) is;
        blocks = ap (λ (f : slots.Flight). f.blocks) slots_is;
        block_size = ap (λ (f : slots.Flight). f.block_size) slots_is;
        submitted = let count = ap (λ (f : slots.Flight). f.submitted) slots_is in omega (arith, count);
      }

-- ---- one that came whole

module _ (w : Standing) (m : Message) (flying : List Flying) (taken : ℕ) (x y : Flight) (old new : Scene)
    (o : Option Submission) (is : o ≡ submission_of w.format.blocks m) where
  abbrev here : Moment
  here = moment_of w flying taken

  handing-is : (p : Option Submission) → o ≡ p → handing m w here ≡ submit_to w.format here m.request.cookie p
  handing-is p same = ap (submit_to w.format here m.request.cookie) (sym is ∙ same)

  -- It is handed in,
  pub ask_made : (submission : Submission) → o ≡ Some submission → HasMade w (submitting submission m.request.cookie w here) x y old new
      → HasMade w (handing m w here) x y old new
  ask_made submission same made = subst (λ (p : Part). HasMade w p x y old new) (sym (handing-is (Some submission) same)) made

  module _ (none : o ≡ None) (same_parts : new.parts ≡ old.parts) (same : new.moments ≡ old.moments) (device : IsDevice w Conditions.Working old.parts old.moments) where
    still : HasRun w [] new.parts old.moments new.moments
    still =
        subst (λ (p : DeviceParts). HasRun w [] p old.moments new.moments) (sym same_parts)
        (subst (λ (l : List Content). HasRun w [] old.parts old.moments l) (sym same) (run_none w old.parts old.moments device))

    -- or refused,
    pub ask_refused : new.held ≡ held_with (refusal_bytes m.request.cookie) old.held → y.waiting.items ≡ x.waiting.items → y.eio ≡ x.eio
        → AreThose x.waiting.items flying → HasMade w (handing m w here) x y old new
    ask_refused written kept damage are =
        subst (λ (p : Part). HasMade w p x y old new) (sym (handing-is None none))
        (record {
          done = record { run = still; told = written ∙ ap (λ (l : List ℕ). held_with l old.held) (sym (append-nil (refusal_bytes m.request.cookie))) };
          flying = subst (λ (l : List Waiting). AreThose l flying) (sym kept) are;
          damage = damage ∙ sym (or_false x.eio) ∙ ap (λ (b : Bool). x.eio || b)
              (sym (or_false (error_in (refusal_bytes m.request.cookie) == EIO) ∙ ap (λ (n : ℕ). n == EIO) (refusal_law m.request.cookie)));
        })

    -- and the refusal may be torn.
    pub ask_torn : AddsPrefix (refusal_bytes m.request.cookie) old.held new.held → HasStopped w (handing m w here).deeds Faults.Sink old new
    ask_torn written =
        subst (λ (p : Part). HasStopped w p.deeds Faults.Sink old new) (sym (handing-is None none))
        (record {
          made = [];
          number = taken;
          bytes = refusal_bytes m.request.cookie;
          rest = [];
          all = refl;
          run = still;
          told = subst (λ (h : Option (List ℕ)). AddsPrefix (refusal_bytes m.request.cookie) h new.held) (sym (held_none old.held)) written;
        })

-- Nothing is done.
pub nothing_done : (w : Standing) (deeds : List Deed) (old new : Scene) → IsDevice w Conditions.Working old.parts old.moments → new ≡ old
    → HasStopped w deeds Faults.Memory old new
nothing_done w deeds old new is same = subst (λ (x : Scene). HasStopped w deeds Faults.Memory old x) (sym same) (stopped_before w deeds old is)

-- What was made room for has counted the same damage.
pub made_from : (w : Standing) (p : Part) (x between y : Flight) (old new : Scene) → between.eio ≡ x.eio → HasMade w p between y old new → HasMade w p x y old new
made_from w p x between y old new same made = record {
  done = made.done;
  flying = made.flying;
  damage = made.damage ∙ ap (λ (b : Bool). b || tells_eio p.deeds) same;
}
