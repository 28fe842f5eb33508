-- The events that call no disk.
use Rattle.std.proofs.Common.{◌≡◌, ℕ, suc, Bool, List, None, Option, Some, refl, sym, ◌∙◌, ap, subst}
use Rattle.std.specs.Option.{option_or}
use Rattle.std.proofs.lemmas.Option.{none-some}
use Rattle.disk_model.specs.Disk.{Content}
use Rattle.disk_model.specs.Identity.{DiskIdentity}
use Rattle.disk_model.proofs.MomentsLemmas.{no_moment}
use Rattle.device_model.specs.Mode.{DeviceFormat, Direct}
use Rattle.device_model.specs.Progress as Model
use Rattle.device_model.specs.Submission as Submissions
use Rattle.device_model.specs.SubmissionLaws.{AreBlocks, IsFitting}
use Rattle.device_model.proofs.KeptLemmas.{accepted_law}
use Rattle.device_model.proofs.SubmissionLemmas.{result-working}
use Rattle.recovery_laws.proofs.EventLemmas.{close_law, event_law, step_law, write_law}
use Rattle.request_slots.specs.Flight.{Flight}
use Rattle.request_slots.specs.InFlight.{IsFlightOf, as_submission, submit_answer}
use Rattle.request_slots.specs.Submitting.{after_submit, fault_of}
use Rattle.request_slots.specs.declared.request.Request.{Request}
use Rattle.request_slots.specs.declared.request.Request.TheVariants.{Read, Write, Flush}
use Rattle.request_slots.specs.declared.submit_fault.SubmitFault.{SubmitFault}
use Rattle.request_slots.proofs.SubmitEventLemmas.{submit_is_told}
use Rattle.device_parts.specs.declared.condition.Condition.{Condition}
use Rattle.device_parts.specs.declared.condition.Condition.TheVariants as Conditions
use Rattle.device_parts.specs.Device.{IsDone, Standing}
use Rattle.device_parts.proofs.ReadyLemmas.{ready-same, submit-same}
use Rattle.device_parts.specs.declared.parts.Parts.{Parts}
use Rattle.recovery_device.specs.Answers.{EndLaw, RestLaw, own_refusal, refusal_of}
use Rattle.recovery_device.specs.Device.{IsReady, IsRecovering, QuietLaw, WritesNothing, in_recovery}
use Rattle.recovery_device.proofs.DoneLemmas.{done, only_done}
use Rattle.recovery_device.proofs.NoWriteLemmas.{no_write_submit}

-- ---- a submission

-- A request in a flight is judged by the same blocks in direct mode.
module _ (w : Standing) (parts : Parts) (a : List Content) (is : IsRecovering w Conditions.Working parts a) where
  abbrev f : DeviceFormat
  f = w.format

  abbrev s : Model.DeviceState
  s = w.state

  abbrev g : DeviceFormat
  g = record f { mode = Direct }

  blocks_there : (first count : ℕ) (bytes : List ℕ) → AreBlocks f first count bytes → AreBlocks g first count bytes
  blocks_there first count bytes are = record { some = are.some; there = are.there; size = are.size }

  fits : (submission : Submissions.Submission) → IsFitting f submission → IsFitting g submission
  fits (Submissions.Submission.Read first count buffer) are = blocks_there first count buffer are
  fits (Submissions.Submission.Write first count bytes fua) are = (refl, blocks_there first count bytes are.1)
  fits Submissions.Submission.Flush are = tt

  flight_there : IsFlightOf g parts.slots s.progress.requests
  flight_there = record {
    blocks = is.flight.blocks;
    block_size = is.flight.block_size;
    most = is.flight.most;
    submitted = is.flight.submitted;
    slots = is.flight.slots;
    each = λ k x there.
        let both = is.flight.each k x there in (
          both.0,
          record {
            submission = both.1.submission;
            fitting = fits both.1.submission both.1.fitting;
            request = both.1.request;
            given = both.1.given;
          },
        );
  }

  -- A request that is no write is submitted alike.
  same_submit : (request : Request) → WritesNothing request
      → Model.submit g s.progress (as_submission request) ≡ Model.submit f s.progress (as_submission request)
  same_submit (Read first count buffer) nothing = refl
  same_submit (Write first count bytes fua) nothing = absurd nothing
  same_submit Flush nothing = refl

  quiet_submitted : (request : Request) → WritesNothing request
      → IsDone in_recovery w (Model.Submit (as_submission request)) (submit_answer (fault_of parts.slots request) (suc parts.slots.submitted))
      Conditions.Working (record parts { slots = after_submit (fault_of parts.slots request) request parts.slots }) a a
  quiet_submitted request nothing =
      let event = Model.Submit (as_submission request) in
      let slots : Flight = after_submit (fault_of parts.slots request) request parts.slots in
      let told = submit_is_told g s.progress parts.slots request flight_there refl in
      let result : Model.event_result f s event ≡ Model.submit g s.progress (as_submission request) =
      result-working f s event is.condition_ ∙ sym (same_submit request nothing) in
      let own = subst (λ (x : Model.EventResult). IsFlightOf g slots x.progress.requests) (sym result) told.1 in
      let later = event_law f s event w.on w.entry is.device in
      let flight : IsFlightOf f slots (Model.after_event f s event).progress.requests = record {
        blocks = own.blocks;
        block_size = own.block_size;
        most = own.most;
        submitted = own.submitted;
        slots = own.slots;
        each = λ k x there. ((own.each k x there).0, (accepted_law f (Model.after_event f s event) later.reached k x there).0);
      } in
      record {
        answers = ap (λ (x : Model.EventResult). x.answer) result ∙ told.0;
        done = done w Conditions.Working parts a is event Conditions.Working (record parts { slots = slots }) a refl refl flight is.condition_;
      }

  -- A write is read only.
  write_submitted : (first count : ℕ) (bytes : List ℕ) (fua : Bool)
      → IsDone in_recovery w (Model.Submit (as_submission (Write first count bytes fua))) Model.ReadOnly Conditions.Working parts a a
  write_submitted first count bytes fua =
      only_done w Conditions.Working parts a is (Model.Submit (as_submission (Write first count bytes fua))) Model.ReadOnly
      (write_law f s w.on w.entry first count bytes fua is.device is.condition_) is.condition_

-- Where nothing is against a request, it is no write.
pub taken_writes : (condition : Condition) (flight : Flight) (request : Request) → refusal_of condition flight request ≡ None → WritesNothing request
taken_writes Conditions.Working flight (Read first count buffer) none = tt
taken_writes Conditions.Working flight (Write first count bytes fua) none = absurd (none-some _ (sym none))
taken_writes Conditions.Working flight Flush none = tt
taken_writes Conditions.Broken flight request none = absurd (none-some _ (sym none))

-- ---- for callers

-- What is kept once a request was submitted.
abbrev pub submitted_to : Condition → Request → Parts → Parts
submitted_to condition request parts =
    record parts { slots = after_submit (refusal_of condition parts.slots request) request parts.slots }

pub is_submitted : (w : Standing) (condition : Condition) (parts : Parts) (a : List Content) (request : Request) → IsRecovering w condition parts a
    → IsDone in_recovery w (Model.Submit (as_submission request)) (submit_answer (refusal_of condition parts.slots request) (suc parts.slots.submitted))
    condition (submitted_to condition request parts) a a
is_submitted w Conditions.Working parts a (Read first count buffer) is = quiet_submitted w parts a is (Read first count buffer) tt
is_submitted w Conditions.Working parts a (Write first count bytes fua) is = write_submitted w parts a is first count bytes fua
is_submitted w Conditions.Working parts a Flush is = quiet_submitted w parts a is Flush tt
is_submitted w Conditions.Broken parts a request is =
    let event = Model.Submit (as_submission request) in
    only_done w Conditions.Broken parts a is event Model.IsBroken
    (ap (λ (c : Model.Condition). Model.result_in w.format w.state c event) is.condition_) is.condition_

-- A request that is refused whatever its blocks are leaves all as it is,
pub refused_is : (condition : Condition) (request : Request) (parts : Parts) (fault : SubmitFault)
    → own_refusal condition request ≡ Some fault → submitted_to condition request parts ≡ parts
refused_is condition request parts fault own =
    ap (λ (o : Option SubmitFault). let p : Parts = record parts { slots = after_submit (option_or o (fault_of parts.slots request)) request parts.slots } in p) own

-- and any other is taken or refused by the slots.
pub passed_is : (condition : Condition) (request : Request) (parts : Parts) → own_refusal condition request ≡ None
    → submitted_to condition request parts ≡ record parts { slots = after_submit (fault_of parts.slots request) request parts.slots }
passed_is condition request parts own =
    ap (λ (o : Option SubmitFault). let p : Parts = record parts { slots = after_submit (option_or o (fault_of parts.slots request)) request parts.slots } in p) own

pub ready_submitted : (condition : Condition) (request : Request) (parts : Parts) (disk : DiskIdentity) (moments : List Content)
    → IsReady parts disk moments → IsReady (submitted_to condition request parts) disk moments
ready_submitted condition request parts disk moments ready =
    let fault = refusal_of condition parts.slots request in
    record {
      kept = ready-same parts (after_submit fault request parts.slots) disk moments (submit-same fault request parts.slots) ready.kept;
      no_write = no_write_submit fault request parts.slots (taken_writes condition parts.slots request) ready.no_write;
    }

pub quiet_law : QuietLaw
quiet_law w condition now parts flight moments event is own condition_is =
    done w condition parts moments is event now (record parts { slots = flight }) moments refl refl own condition_is

pub rest_law : RestLaw
rest_law w parts moments actor is = step_law w.format w.state w.on w.entry actor is.device is.condition_

pub end_law : EndLaw
end_law w parts moments is =
    let closed = close_law w.format w.state w.on w.entry is.device is.condition_ in
    record {
      answers = closed.0;
      changes = closed.1;
      closed = closed.2;
      through = record { opens = no_moment moments _; left = no_moment moments _ };
    }
