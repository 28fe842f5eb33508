-- A submission, its service to the end, and the taking of its reply, as one request that is run whole.
use Rattle.std.proofs.Common.{◌≡◌, ℕ, suc, List, [], ◌∷◌, ◌++◌, length, None, Option, Result, Ok, refl, sym, ◌∙◌, ap, subst}
use Rattle.std.proofs.lemmas.Option.{same_Some}
use Rattle.disk_model.specs.Disk.{Content}
use Rattle.disk_model.specs.Moments.{EachMoment}
use Rattle.disk_model.proofs.MomentsLemmas.{EachMoment-weaker}
use Rattle.device_model.specs.History.{Change, with_changes}
use Rattle.device_model.specs.Progress.{Answer, Event, NotDone, Replied, Submit, Take, Ticket, changes_of}
use Rattle.device_model.specs.Reply as ModelReply
use Rattle.device_model.specs.Request as Asks
use Rattle.device_model.specs.Script.{whole_events, whole_finish}
use Rattle.device_model.specs.Serial.{whole_reply}
use Rattle.device_model.specs.Submission.{Submission}
use Rattle.device_model.proofs.LoopLemmas.{whole_events-ticket}
use Rattle.device_model.proofs.ScriptLemmas.{history-after}
use Rattle.request_slots.specs.declared.reply.Reply.{Reply}
use Rattle.request_slots.specs.declared.request.Request.{Request}
use Rattle.request_slots.specs.declared.submit_fault.SubmitFault.{SubmitFault}
use Rattle.request_slots.specs.InFlight.{as_reply, as_submission, returned_in, submit_answer}
use Rattle.request_slots.specs.Submitting.{answer_by}
use Rattle.device_parts.specs.declared.condition.Condition.{Condition}
use Rattle.device_parts.specs.declared.condition.Condition.TheVariants.{Working}
use Rattle.device_parts.specs.Answers.{HasTaken, IsSerial}
use Rattle.device_parts.specs.Device.{Answers, HasDone, IsDone, Standing}
use Rattle.device.specs.declared.mode.DeviceParts.{DeviceParts}
use Rattle.device.specs.Calls.{Submits, refusal_to}
use Rattle.device.specs.Device.{IsDevice, any_mode, kind_of}
use Rattle.device.specs.Run.{HasFailed, HasRun, all_turns, standing_behind}
use Rattle.device_model.specs.Device.{IsLeftWithin}
use Rattle.device.proofs.RunLemmas.{failed_then, failed_wider, run_one, run_then}
use Rattle.device.proofs.TagsLemmas.{leaves_all}
use Rattle.mirror_laws.specs.WholeLaws.{RunsWhole}
use Rattle.mirror_core.specs.Stands.{RestsAs}
use Rattle.mirror_core.specs.Whole.{HasRunWhole, LeavesWhole, cells_on, request_on, whole_of}
use Rattle.mirror_core.proofs.ReturnedLemmas.{returned_now, taken_is, whole as whole_runs}
use Rattle.mirror_core.proofs.StandsLemmas.{flight, reached, some_sections, some_slots, works}

-- ---- one event that calls no disk

pub quiet_run : (w : Standing) (event : Event) (parts : DeviceParts) (a : List Content) → HasDone any_mode w event Working parts a a
    → HasRun w (event ∷ []) parts a a
quiet_run w event parts a done = run_one w event parts a a done (leaves_all w _ refl)

-- ---- all of it

-- What is replied is the reply, and the bytes.
record AreReplied (asked_for request : Asks.Request) (told reply : ModelReply.Reply) : Type 0 where
  asked_is : asked_for ≡ request
  told_is : told ≡ reply

replied : (asked_for request : Asks.Request) (told reply : ModelReply.Reply) (x y : List ℕ) → Replied asked_for told x ≡ Replied request reply y
    → AreReplied asked_for request told reply
replied asked_for request told reply x y same = record { asked_is = cc; told_is = cc }

-- What is replied is done.
not_done : (request : Asks.Request) (reply : ModelReply.Reply) (x : List ℕ) → NotDone ≡ Replied request reply x → ⊥
not_done request reply x same = cc

module _ (w : Standing) (sub : Submission) (old : DeviceParts) (a : List Content) (rests : RestsAs w old a) (begun : DeviceParts)
    (given : Answers w (Submit sub) (Ticket (suc (length w.state.progress.requests)))) (first : HasRun w (Submit sub ∷ []) begun a a) where
  abbrev ticket : ℕ
  ticket = suc (length w.state.progress.requests)

  abbrev pub next : Standing
  next = standing_behind w (Submit sub ∷ [])

  abbrev pub finished : List Event
  finished = whole_finish w.format ticket next.state

  abbrev pub done : Standing
  done = standing_behind next finished

  all : whole_events w.format sub w.state ≡ Submit sub ∷ (finished ++ Take ticket ∷ [])
  all = whole_events-ticket w.format w.state sub ticket (sym given)

  abbrev runs : RunsWhole w.format w.state (request_on sub w) (whole_of sub w)
  runs =
      whole_runs w.format w.state (reached w old a rests) (works w old a rests) rests.rests sub given
      (some_slots w old a rests) (some_sections w old a rests)

  -- What was made of its changes are some of the first,
  left_of : (b : List Content) → EachMoment a b (IsLeftWithin (kind_of w) w.entry w.state.history (changes_of w.format w.state (whole_of sub w)))
      → LeavesWhole w sub a b
  left_of b since =
      EachMoment-weaker (λ (c : Content) (is : IsLeftWithin (kind_of w) w.entry w.state.history (changes_of w.format w.state (whole_of sub w)) c).
      subst (λ (l : List Change). IsLeftWithin (kind_of w) w.entry w.state.history l c) runs.changes is) since

  -- also where the disk failed in its service.
  pub left_failed : (parts : DeviceParts) (b : List Content) → HasFailed next finished parts a b → LeavesWhole w sub a b
  left_failed parts b failed =
      let whole : HasFailed w (whole_of sub w) parts a b =
      subst (λ (l : List Event). HasFailed w l parts a b) (sym all)
      (failed_then w (Submit sub ∷ []) (finished ++ Take ticket ∷ []) begun parts a a b first
      (failed_wider next finished (Take ticket ∷ []) parts a b failed)) in
      left_of b whole.cut.since

  -- The reply of a request that was served to its end is there,
  pub there : (answer : Answer) → Answers done (Take ticket) answer → answer ≡ NotDone → ⊥
  there answer is none =
      let told = taken_is w.format w.state (reached w old a rests) (works w old a rests) rests.rests sub given
      (some_slots w old a rests) (some_sections w old a rests) in
      not_done _ _ _ (sym none ∙ sym is ∙ same_Some _ _ told)

  module _ (served taken : DeviceParts) (b : List Content) (second : HasRun next finished served a b) (third : HasRun done (Take ticket ∷ []) taken b b) where
    run : HasRun w (whole_of sub w) taken a b
    run =
        subst (λ (l : List Event). HasRun w l taken a b) (sym all)
        (run_then w (Submit sub ∷ []) (finished ++ Take ticket ∷ []) begun taken a a b first
        (run_then next finished (Take ticket ∷ []) served taken a b b second third))

    pub left_run : LeavesWhole w sub a b
    left_run = left_of b run.since

    -- and it is that of the request.
    pub run_is : (reply : Reply) (asked_for : Asks.Request) → Answers done (Take ticket) (Replied asked_for (as_reply reply) (returned_in reply))
        → IsSerial done ticket reply → HasRunWhole w sub reply taken b
    run_is reply asked_for answered serial =
        let told = same_Some _ _ (taken_is w.format w.state (reached w old a rests) (works w old a rests) rests.rests sub given
        (some_slots w old a rests) (some_sections w old a rests)) in
        let are = replied asked_for (request_on sub w) (as_reply reply) (whole_reply w.format (cells_on w) (request_on sub w)) (returned_in reply) runs.returned
        (sym answered ∙ told) in
        record {
          rests = record { device = run.device; mode = rests.mode; rests = runs.rests };
          history = history-after w.format w.state (whole_of sub w) ∙ ap (λ (l : List Change). with_changes l w.state.history) runs.changes;
          reply_ = are.told_is;
          returned =
              returned_now w.format w.state (reached w old a rests) (works w old a rests) rests.rests sub given serial.place serial.request
              (as_reply reply) (returned_in reply) serial.is serial.serial;
        }

-- ---- for callers

-- The ticket of a submission that is not refused.
pub ticket_is : (fault : Option SubmitFault) (n t : ℕ) (request : Request) (result : Result ℕ (Request × SubmitFault)) → fault ≡ None
    → result ≡ answer_by fault n request → result ≡ Ok t → t ≡ n
ticket_is fault n t request result none is ok =
    let same : ◌≡◌ {A = Result ℕ (Request × SubmitFault)} (Ok t) (Ok n) =
    sym ok ∙ is ∙ ap (λ (o : Option SubmitFault). answer_by o n request) none in cc

-- What the calls of a device do one after the other.
module _ (w : Standing) (request : Request) (condition : Condition) (old begun : DeviceParts) (a b : List Content) (working : condition ≡ Working)
    (none : refusal_to old condition request ≡ None) (rests : RestsAs w old a) (does : Submits request condition old begun a b) (same : b ≡ a)
    (t : ℕ) (counted : t ≡ suc old.common.slots.submitted) where
  abbrev sub : Submission
  sub = as_submission request

  abbrev k : ℕ
  k = length w.state.progress.requests

  abbrev pub here : Standing
  here = standing_behind w (Submit sub ∷ [])

  its_ticket : t ≡ suc k
  its_ticket = counted ∙ ap suc (flight w old a rests).submitted

  submits : IsDone any_mode w (Submit sub) (submit_answer (refusal_to old condition request) (suc old.common.slots.submitted)) condition begun b b
  submits = does w (subst (λ (c : Condition). IsDevice w c old a) (sym working) rests.device)

  gives : Answers w (Submit sub) (Ticket (suc k))
  gives =
      submits.answers ∙ ap (λ (o : Option SubmitFault). submit_answer o (suc old.common.slots.submitted)) none
      ∙ ap Ticket (sym counted ∙ its_ticket)

  first : HasRun w (Submit sub ∷ []) begun a a
  first =
      quiet_run w (Submit sub) begun a
      (subst (λ (m : List Content). HasDone any_mode w (Submit sub) Working begun m m) same
      (subst (λ (c : Condition). HasDone any_mode w (Submit sub) c begun b b) working submits.done))

  pub begun_device : IsDevice here Working begun b
  begun_device = subst (λ (m : List Content). IsDevice here Working begun m) (sym same) first.device

  -- The disk failed in its service.
  pub cut_left : (parts : DeviceParts) (d : List Content) → HasFailed here (all_turns t here) parts b d → LeavesWhole w sub a d
  cut_left parts d failed =
      left_failed w sub old a rests begun gives first parts d
      (subst (λ (n : ℕ). HasFailed here (all_turns n here) parts a d) its_ticket
      (subst (λ (m : List Content). HasFailed here (all_turns t here) parts m d) same failed))

  module _ (served : DeviceParts) (d : List Content) (serves : HasRun here (all_turns t here) served b d) where
    second : HasRun here (all_turns (suc k) here) served a d
    second =
        subst (λ (n : ℕ). HasRun here (all_turns n here) served a d) its_ticket
        (subst (λ (m : List Content). HasRun here (all_turns t here) served m d) same serves)

    abbrev pub at_end : Standing
    at_end = standing_behind here (all_turns t here)

    at_its_end : at_end ≡ done w sub old a rests begun gives first
    at_its_end = ap (λ (n : ℕ). standing_behind here (all_turns n here)) its_ticket

    pub served_device : (c : Condition) → c ≡ Working → IsDevice at_end c served d
    served_device c works = subst (λ (x : Condition). IsDevice at_end x served d) (sym works) serves.device

    -- Its reply is there.
    pub is_there : Answers at_end (Take t) NotDone → ⊥
    is_there answers =
        there w sub old a rests begun gives first NotDone
        (subst (λ (n : ℕ). Answers (standing_behind here (all_turns n here)) (Take n) NotDone) its_ticket answers) refl

    module _ (reply : Reply) (c : Condition) (still : c ≡ Working) (taken : DeviceParts) (e : List Content) (untouched : e ≡ d)
        (has : HasTaken any_mode at_end t (Ok reply) c taken e) where
      has_at : HasTaken any_mode (done w sub old a rests begun gives first) (suc k) (Ok reply) Working taken d
      has_at =
          subst (λ (n : ℕ). HasTaken any_mode (standing_behind here (all_turns n here)) n (Ok reply) Working taken d) its_ticket
          (subst (λ (m : List Content). HasTaken any_mode at_end t (Ok reply) Working taken m) untouched
          (subst (λ (x : Condition). HasTaken any_mode at_end t (Ok reply) x taken e) still has))

      third : HasRun (done w sub old a rests begun gives first) (Take (suc k) ∷ []) taken d d
      third = quiet_run (done w sub old a rests begun gives first) (Take (suc k)) taken d has_at.done

      pub all_left : LeavesWhole w sub a e
      all_left =
          subst (λ (m : List Content). LeavesWhole w sub a m) (sym untouched)
          (left_run w sub old a rests begun gives first served taken d second third)

      pub all_run : IsSerial at_end t reply → HasRunWhole w sub reply taken e
      all_run serial =
          subst (λ (m : List Content). HasRunWhole w sub reply taken m) (sym untouched)
          (run_is w sub old a rests begun gives first served taken d second third reply has_at.taken.0 has_at.taken.1
          (subst (λ (n : ℕ). IsSerial (standing_behind here (all_turns n here)) n reply) its_ticket serial))
