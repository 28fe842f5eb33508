-- A line that prints nothing does nothing to the history.
use Rattle.std.proofs.Common.{◌≡◌, ◌≢◌, ◌⊎◌, ℕ, zero, suc, Bool, true, false, not, leb, if◌then◌else◌}
use Rattle.std.proofs.Common.{List, [], ◌∷◌, ◌++◌, length, Option, Some, None, sym, ◌∙◌, ap, inl, inr, refl}
use Rattle.std.specs.Option.{option_or}
use Rattle.device_model.specs.History.{Change, cells_now}
use Rattle.device_model.specs.Journal.{JournalCounts, commit, place, settle}
use Rattle.device_model.specs.Mode.{DeviceFormat}
use Rattle.device_model.specs.Progress.{Progress, DeviceState, Condition, Working, Broken, Closed, Event}
use Rattle.device_model.specs.Progress.{Submit, Serve, Step, Take, Actor, Commit, Place, Settle, Clean}
use Rattle.device_model.specs.Progress.{Recalc, Answer, Ticket, ReadOnly, SlotsFull, EventResult, in_flight}
use Rattle.device_model.specs.Progress.{form_refusal, slots_refusal, submit_by, with_block, answer_by}
use Rattle.device_model.specs.Progress.{serve_with, serve_unheld, serve_by, serve_asked, serve, step_journal}
use Rattle.device_model.specs.Progress.{step_regions, step, take_by, take_asked, take_reply, journal_with}
use Rattle.device_model.specs.Progress.{in_modes, is_used, result_in, condition_after, event_result}
use Rattle.device_model.specs.Progress.{after_event, after_events, answers, changes_of}
use Rattle.device_model.specs.Mode.{is_bitmap, is_journal, is_recovery}
use Rattle.device_model.specs.Regions.{RegionCounts, clean, recalculate}
use Rattle.device_model.specs.Reply.{Reply, Bytes, TagFault}
use Rattle.device_model.specs.Request.{Request, Read, Write, Flush, Asked, RequestState, asked_of, held_by}
use Rattle.device_model.specs.Request.{Unfinished, Finished, Taken, Dropped}
use Rattle.device_model.specs.Script.{Ask, Skip, AskLine, ServeLine, TakeLine, StepLine, answer_text}
use Rattle.device_model.specs.Script.{ask_fault, last_answer, line_outcome, line_events}
use Rattle.device_model.specs.Script.{reply_text, submission_of, told_text, whole_events, whole_finish}
use Rattle.device_model.specs.Submission.{Submission}
use Rattle.device_model.proofs.AskLemmas.{ask_fault-none}
use Rattle.device_model.proofs.LoopLemmas.{after-ask, answer-ask, answer-whole, line-condition}
use Rattle.device_model.proofs.LoopLemmas.{with_all_finished}
use Rattle.device_model.proofs.SubmissionLemmas.{form_refusal-fits, result-working}
use Rattle.script_text.specs.Laws.{QuietLineLaw}

-- ---- what changes nothing

take_by-changes : (p : Progress) (k : ℕ) (a : Asked) (state : RequestState) → (take_by p k a state).changes ≡ []
take_by-changes p k a Unfinished = refl
take_by-changes p k a Finished = refl
take_by-changes p k a Taken = refl
take_by-changes p k a Dropped = refl

take_asked-changes : (p : Progress) (k : ℕ) (asked : Option Asked) → (take_asked p k asked).changes ≡ []
take_asked-changes p k None = refl
take_asked-changes p k (Some a) = take_by-changes p k a a.state

take_reply-changes : (p : Progress) (ticket : ℕ) → (take_reply p ticket).changes ≡ []
take_reply-changes p zero = refl
take_reply-changes p (suc k) = take_asked-changes p k (asked_of p.requests (suc k))

take-changes : (f : DeviceFormat) (s : DeviceState) (c : Condition) (ticket : ℕ)
    → (result_in f s c (Take ticket)).changes ≡ []
take-changes f s Working ticket = take_reply-changes s.progress ticket
take-changes f s Broken ticket = take_reply-changes s.progress ticket
take-changes f s Closed ticket = refl

submit_by-changes : (f : DeviceFormat) (p : Progress) (submission : Submission) (refusal : Option Answer)
    → (submit_by f p submission refusal).changes ≡ []
submit_by-changes f p submission (Some answer) = refl
submit_by-changes f p submission None = refl

submit-changes : (f : DeviceFormat) (s : DeviceState) (c : Condition) (submission : Submission)
    → (result_in f s c (Submit submission)).changes ≡ []
submit-changes f s Working submission =
    submit_by-changes f s.progress submission
    (option_or (form_refusal f submission) (slots_refusal f s.progress.requests))
submit-changes f s Broken submission = refl
submit-changes f s Closed submission = refl

step_journal-changes : (p : Progress) (found : Option JournalCounts) → (step_journal p found).changes ≡ []
step_journal-changes p None = refl
step_journal-changes p (Some j) = refl

step_regions-changes : (p : Progress) (found : Option RegionCounts) → (step_regions p found).changes ≡ []
step_regions-changes p None = refl
step_regions-changes p (Some c) = refl

actor-changes : (f : DeviceFormat) (p : Progress) (actor : Actor) → (step f p actor).changes ≡ []
actor-changes f p Commit = step_journal-changes p (in_modes (is_journal f.mode) (commit f.sections p.journal))
actor-changes f p Place = step_journal-changes p (in_modes (is_journal f.mode) (place p.journal))
actor-changes f p Settle = step_journal-changes p (in_modes (is_journal f.mode) (settle p.journal))
actor-changes f p Clean =
    step_regions-changes p (in_modes (is_bitmap f.mode) (clean f.regions (is_used f p.requests) p.regions))
actor-changes f p Recalc =
    step_regions-changes p (in_modes (not (is_recovery f.mode)) (recalculate f.regions p.regions))

step-changes : (f : DeviceFormat) (s : DeviceState) (c : Condition) (actor : Actor)
    → (result_in f s c (Step actor)).changes ≡ []
step-changes f s Working actor = actor-changes f s.progress actor
step-changes f s Broken actor = refl
step-changes f s Closed actor = refl

one_event : (changes : List Change) → changes ≡ [] → changes ++ [] ≡ []
one_event changes none = ap (λ (done : List Change). done ++ []) none

-- ---- a device that broke or was closed

ended-condition : (c : Condition) (event : Event) → c ≢ Working → condition_after c event ≢ Working
ended-condition Working event ended = absurd (ended refl)
ended-condition Broken (Submit submission) ended = ended
ended-condition Broken event ended = λ is. absurd (cc)
ended-condition Closed (Submit submission) ended = ended
ended-condition Closed event ended = λ is. absurd (cc)

ended-changes : (f : DeviceFormat) (s : DeviceState) (c : Condition) (event : Event) → c ≢ Working
    → (result_in f s c event).changes ≡ []
ended-changes f s Working event ended = absurd (ended refl)
ended-changes f s Broken (Take ticket) ended = take_reply-changes s.progress ticket
ended-changes f s Broken event ended = refl
ended-changes f s Closed event ended = refl

-- It does nothing to the history, and does not work again.
nothing_more : (f : DeviceFormat) (s : DeviceState) (events : List Event) → s.condition ≢ Working
    → (changes_of f s events ≡ []) × ((after_events f s events).condition ≢ Working)
nothing_more f s [] ended = (refl, ended)
nothing_more f s (event ∷ events) ended =
    let first = ended-changes f s s.condition event ended in
    let rest = nothing_more f (after_event f s event) events (ended-condition s.condition event ended) in
    let changes = changes_of f (after_event f s event) events in
    (ap (λ (done : List Change). done ++ changes) first ∙ rest.0, rest.1)

-- ---- what has a text

read_told : (first count : ℕ) (reply : Reply) → reply_text (Read first count) reply ≢ []
read_told first count (Bytes bytes) none = absurd (cc)
read_told first count (TagFault block stored computed) none = absurd (cc)

reply_told : (request : Request) (reply : Reply) → reply_text request reply ≢ []
reply_told (Read first count) reply none = read_told first count reply none
reply_told (Write first blocks fua) reply none = absurd (cc)
reply_told Flush reply none = absurd (cc)

take_by_told : (p : Progress) (k : ℕ) (a : Asked) (state : RequestState)
    → answer_text (take_by p k a state).answer ≢ []
take_by_told p k a Unfinished none = absurd (cc)
take_by_told p k a Finished none = reply_told a.request a.reply none
take_by_told p k a Taken none = absurd (cc)
take_by_told p k a Dropped none = absurd (cc)

take_asked_told : (p : Progress) (k : ℕ) (asked : Option Asked) → answer_text (take_asked p k asked).answer ≢ []
take_asked_told p k None none = absurd (cc)
take_asked_told p k (Some a) none = take_by_told p k a a.state none

take_reply_told : (p : Progress) (ticket : ℕ) → answer_text (take_reply p ticket).answer ≢ []
take_reply_told p zero none = absurd (cc)
take_reply_told p (suc k) none = take_asked_told p k (asked_of p.requests (suc k)) none

take_told : (f : DeviceFormat) (s : DeviceState) (c : Condition) (ticket : ℕ)
    → answer_text (result_in f s c (Take ticket)).answer ≢ []
take_told f s Working ticket none = take_reply_told s.progress ticket none
take_told f s Broken ticket none = take_reply_told s.progress ticket none
take_told f s Closed ticket none = absurd (cc)

served_told : (state : RequestState) → answer_text (answer_by state) ≢ []
served_told Unfinished none = absurd (cc)
served_told Finished none = absurd (cc)
served_told Taken none = absurd (cc)
served_told Dropped none = absurd (cc)

module _ (f : DeviceFormat) (s : DeviceState) (k : ℕ) where
  serve_with_told : (a : Asked) (journal : Option JournalCounts)
      → answer_text (serve_with f s k a journal).answer ≢ []
  serve_with_told a None none = absurd (cc)
  serve_with_told a (Some j) none = served_told (with_block f (cells_now f.blocks.tag s.history) a).state none

  serve_unheld_told : (a : Asked) (held : Option ℕ) → answer_text (serve_unheld f s k a held).answer ≢ []
  serve_unheld_told a (Some ticket) none = absurd (cc)
  serve_unheld_told a None none = serve_with_told a (journal_with f s.progress.journal a a.request) none

  serve_by_told : (a : Asked) (state : RequestState) → answer_text (serve_by f s k a state).answer ≢ []
  serve_by_told a Unfinished none = serve_unheld_told a (held_by s.progress.requests k a.request) none
  serve_by_told a Finished none = absurd (cc)
  serve_by_told a Taken none = absurd (cc)
  serve_by_told a Dropped none = absurd (cc)

  serve_asked_told : (asked : Option Asked) → answer_text (serve_asked f s k asked).answer ≢ []
  serve_asked_told None none = absurd (cc)
  serve_asked_told (Some a) none = serve_by_told a a.state none

serve_told : (f : DeviceFormat) (s : DeviceState) (ticket : ℕ) → answer_text (serve f s ticket).answer ≢ []
serve_told f s zero none = absurd (cc)
serve_told f s (suc k) none = serve_asked_told f s k (asked_of s.progress.requests (suc k)) none

-- A serve that prints nothing does nothing.
quiet_serve : (f : DeviceFormat) (s : DeviceState) (c : Condition) (ticket : ℕ)
    → answer_text (result_in f s c (Serve ticket)).answer ≡ [] → (result_in f s c (Serve ticket)).changes ≡ []
quiet_serve f s Working ticket none = absurd (serve_told f s ticket none)
quiet_serve f s Broken ticket none = refl
quiet_serve f s Closed ticket none = refl

-- ---- a request that is run to its end

-- What a submission is answered that has blocks.
data SubmitAnswer (answer : Answer) : Type 0 where
  Given : (ticket : ℕ) → answer ≡ Ticket ticket → SubmitAnswer answer
  Protected : answer ≡ ReadOnly → SubmitAnswer answer
  Full : answer ≡ SlotsFull → SubmitAnswer answer

module _ (f : DeviceFormat) (s : DeviceState) (submission : Submission) (works : s.condition ≡ Working) where
  abbrev answer_by_refusal : Option Answer → Answer
  answer_by_refusal refusal = (submit_by f s.progress submission refusal).answer

  answer_is : (form : Option Answer) → form_refusal f submission ≡ form
      → (event_result f s (Submit submission)).answer
      ≡ answer_by_refusal (option_or form (slots_refusal f s.progress.requests))
  answer_is form is =
      ap (λ (result : EventResult). result.answer) (result-working f s (Submit submission) works)
      ∙ ap (λ (x : Option Answer). answer_by_refusal (option_or x (slots_refusal f s.progress.requests))) is

  submit_answer : (form_refusal f submission ≡ Some ReadOnly) ⊎ (form_refusal f submission ≡ None)
      → SubmitAnswer (event_result f s (Submit submission)).answer
  submit_answer (inl read_only) = Protected (answer_is (Some ReadOnly) read_only)
  submit_answer (inr fits) = by (leb f.slots (in_flight s.progress.requests)) refl
    where
      by : (full : Bool) → leb f.slots (in_flight s.progress.requests) ≡ full
          → SubmitAnswer (event_result f s (Submit submission)).answer
      by true is =
          Full (answer_is None fits
          ∙ ap (λ (full : Bool). answer_by_refusal (if full then Some SlotsFull else None)) is)
      by false is =
          Given (suc (length s.progress.requests)) (answer_is None fits
          ∙ ap (λ (full : Bool). answer_by_refusal (if full then Some SlotsFull else None)) is)

  -- The last answer, by what the submission is answered.
  abbrev last_by : Answer → Option Answer
  last_by answer =
      let next = after_event f s (Submit submission) in
      last_answer (answers f s (Submit submission ∷ elim answer [
        | Ticket ticket ↦ whole_finish f ticket next ++ Take ticket ∷ []
        | _ ↦ []
      ]))

  whole_told : SubmitAnswer (event_result f s (Submit submission)).answer
      → told_text (last_answer (answers f s (whole_events f submission s))) ≢ []
  whole_told (Given ticket is) none =
      let next = after_event f s (Submit submission) in
      let last = after_events f next (whole_finish f ticket next) in
      take_told f last last.condition ticket
      (sym (ap told_text (answer-whole f s submission ticket (sym is))) ∙ none)
  whole_told (Protected is) none =
      let last = ap (λ (x : Answer). told_text (last_by x)) is in
      absurd (let text = sym (ap answer_text is) ∙ sym last ∙ none in cc)
  whole_told (Full is) none =
      let last = ap (λ (x : Answer). told_text (last_by x)) is in
      absurd (let text = sym (ap answer_text is) ∙ sym last ∙ none in cc)

form_of : (f : DeviceFormat) (ask : Ask) → ask_fault f ask ≡ None
    → let submission = submission_of f.blocks.block_size ask in
    (form_refusal f submission ≡ Some ReadOnly) ⊎ (form_refusal f submission ≡ None)
form_of f ask runnable = elim (ask_fault-none f ask runnable) [
  | inl read_only ↦ inl read_only
  | inr fits ↦ inr (form_refusal-fits f (submission_of f.blocks.block_size ask) fits)
]

working_or_not : (c : Condition) → (c ≡ Working) ⊎ (c ≢ Working)
working_or_not Working = inl refl
working_or_not Broken = inr (λ is. absurd (cc))
working_or_not Closed = inr (λ is. absurd (cc))

-- The request of a line is submitted on a device that works, since no line ends one.
still_works : (f : DeviceFormat) (s : DeviceState) (ask : Ask) → s.condition ≡ Working
    → (with_all_finished f s).condition ≡ Working
still_works f s ask works = elim (working_or_not (with_all_finished f s).condition) [
  | inl is ↦ is
  | inr ended ↦
      let t = with_all_finished f s in
      let more = nothing_more f t (whole_events f (submission_of f.blocks.block_size ask) t) ended in
      let same = line-condition f s (AskLine false ask) ∙ works in
      absurd (more.1 (sym (ap (λ (u : DeviceState). u.condition) (after-ask f s ask)) ∙ same))
]

ask_told : (f : DeviceFormat) (s : DeviceState) (ask : Ask) → s.condition ≡ Working → ask_fault f ask ≡ None
    → (line_outcome f s (AskLine false ask)).text ≢ []
ask_told f s ask works runnable none =
    let t = with_all_finished f s in
    let submission = submission_of f.blocks.block_size ask in
    let t_works = still_works f s ask works in
    whole_told f t submission t_works (submit_answer f t submission t_works (form_of f ask runnable))
    (sym (ap told_text (answer-ask f s ask)) ∙ none)

-- ---- for callers

pub quiet_line : QuietLineLaw
quiet_line f s Skip runnable none = refl
quiet_line f s (AskLine true ask) runnable none =
    one_event _ (submit-changes f s s.condition (submission_of f.blocks.block_size ask))
quiet_line f s (AskLine false ask) runnable none = elim (working_or_not s.condition) [
  | inl works ↦ absurd (ask_told f s ask works runnable none)
  | inr ended ↦ (nothing_more f s (line_events f s (AskLine false ask)) ended).0
]
quiet_line f s (ServeLine ticket) runnable none = one_event _ (quiet_serve f s s.condition ticket none)
quiet_line f s (TakeLine ticket) runnable none = one_event _ (take-changes f s s.condition ticket)
quiet_line f s (StepLine actor) runnable none = one_event _ (step-changes f s s.condition actor)
