-- The write that is under way, at each moment; and devices that are broken.
use Rattle.std.proofs.Common.{◌≡◌, ◌≢◌, ◌⊎◌, inl, inr, ℕ, zero, suc, ◌+◌, ◌<◌, ◌≤◌, Bool, true, false, List, [], ◌∷◌, ◌++◌, length, take, get_or, if◌then◌else◌, Option, None, Some, slice_get, refl, sym, ◌∙◌, ap, subst}
use Rattle.image_model.specs.Cells.{Cell}
use Rattle.device_model.specs.History.{BlockWrite, History, Change, Begun, Written, Flushed, with_changes}
use Rattle.device_model.specs.Journal.{JournalCounts}
use Rattle.device_model.specs.Mode.{DeviceFormat, is_recovery}
use Rattle.device_model.specs.Progress.{Progress, Condition, Working, Broken, Closed, DeviceState, opened_device, Event, Submit, Serve, Step, Take, Close, FailedServe, FailedStep, FailedClose, Actor, Commit, Place, Settle, Clean, Recalc, Answer, IsBroken, EventResult, IsHistoryWithin, only_answers, block_changes, is_flushed_by, serve_with, serve_unheld, serve_by, serve_asked, serve, journal_with, first_begun, submit_by, step_journal, step_regions, step, take_by, take_asked, take_reply, working_result, broken_result, result_in, condition_after, event_result, after_event, after_events}
use Rattle.device_model.specs.Regions.{RegionCounts}
use Rattle.device_model.specs.Reply.{Reply}
use Rattle.device_model.specs.Request.{Request, Read, Write, Flush, Asked, RequestState, Unfinished, Finished, Taken, Dropped, is_unfinished, held_by, writes_of, front_of}
use Rattle.device_model.specs.RequestLaws.{IsReached}
use Rattle.device_model.specs.MomentLaws.{IsNextWrite, PendingLaw, WithinLaw, QuietLaw, BrokenLaw}
use Rattle.device_model.specs.Submission.{Submission}
use Rattle.device_model.proofs.EventLemmas.{writes-first_begun, writes-closed, Serves, IsServing, IsServing-opened, IsServing-reached, IsServing-event}
use Rattle.device_model.proofs.HistoryLemmas.{flushed-le-opened, flushed-le-with_changes}
use Rattle.device_model.proofs.RequestLemmas.{write_at, block_writes-more}
use Rattle.device_model.proofs.SerialLemmas.{in_state}
use Rattle.device_model.proofs.SubmissionLemmas.{refusal}

-- The write is the next one of the unfinished request at place k.
record IsNextAt (s : DeviceState) (k : ℕ) (write : BlockWrite) : Type 0 where
  asked : Asked
  there : slice_get s.progress.requests k ≡ Some asked
  unfinished : is_unfinished asked.state ≡ true
  is : writes_of (suc k) (front_of (suc asked.served) asked.request) ≡ writes_of (suc k) (front_of asked.served asked.request) ++ write ∷ []

next-write : (s : DeviceState) (k : ℕ) (event : Event) (write : BlockWrite) → (event ≡ Serve (suc k)) ⊎ (event ≡ FailedServe (suc k)) → IsNextAt s k write → IsNextWrite s event write
next-write s k event write serves next = record { place = k; serves = serves; asked = next.asked; there = next.there; unfinished = next.unfinished; is = next.is }

-- What a serve does to the history: nothing, a flush, or the next write, which may be flushed by it.
data ServeChanges (s : DeviceState) (k : ℕ) (changes : List Change) : Type 0 where
  NoChange : changes ≡ [] → ServeChanges s k changes
  OneFlush : changes ≡ Flushed ∷ [] → ServeChanges s k changes
  OneWrite : (write : BlockWrite) (fua : Bool) → IsNextAt s k write → changes ≡ Begun write ∷ Written write ∷ (if fua then Flushed ∷ [] else []) → ServeChanges s k changes

module _ (f : DeviceFormat) (base : ℕ → Cell) (s : DeviceState) (serving : Serves f base Working s.history s.progress) (k : ℕ) where
  block-changes : (r : Request) (given : List ℕ) (n : ℕ) (reply : Reply) (got : List ℕ) → slice_get s.progress.requests k ≡ Some (in_state r given n reply got Unfinished)
      → ServeChanges s k (block_changes (suc k) (in_state r given n reply got Unfinished) r)
  block-changes (Read first count) given n reply got there = NoChange refl
  block-changes Flush given n reply got there = OneFlush refl
  block-changes (Write first blocks fua) given n reply got there =
      let a = in_state (Write first blocks fua) given n reply got Unfinished in
      let below : n < length blocks = (serving.stands.each k a there).0 refl in
      OneWrite (write_at (suc k) (first + n) (get_or blocks n [])) (is_flushed_by a blocks fua)
      (record { asked = a; there = there; unfinished = refl; is = block_writes-more (suc k) first blocks n below }) refl

  serve_with-changes : (a : Asked) → slice_get s.progress.requests k ≡ Some (record a { state = Unfinished }) → (j : Option JournalCounts) → ServeChanges s k (serve_with f s k (record a { state = Unfinished }) j).changes
  serve_with-changes a there None = NoChange refl
  serve_with-changes a there (Some j) = block-changes a.request a.given a.served a.reply a.got there

  serve_unheld-changes : (a : Asked) → slice_get s.progress.requests k ≡ Some (record a { state = Unfinished }) → (held : Option ℕ) → ServeChanges s k (serve_unheld f s k (record a { state = Unfinished }) held).changes
  serve_unheld-changes a there (Some ticket) = NoChange refl
  serve_unheld-changes a there None = serve_with-changes a there (journal_with f s.progress.journal (record a { state = Unfinished }) a.request)

  serve_by-changes : (a : Asked) (state : RequestState) → slice_get s.progress.requests k ≡ Some (record a { state = state }) → ServeChanges s k (serve_by f s k (record a { state = state }) state).changes
  serve_by-changes a Unfinished there = serve_unheld-changes a there (held_by s.progress.requests k a.request)
  serve_by-changes a Finished there = NoChange refl
  serve_by-changes a Taken there = NoChange refl
  serve_by-changes a Dropped there = NoChange refl

  serve_asked-changes : (asked : Option Asked) → slice_get s.progress.requests k ≡ asked → ServeChanges s k (serve_asked f s k asked).changes
  serve_asked-changes None is = NoChange refl
  serve_asked-changes (Some a) is = serve_by-changes a a.state is

-- What an event does to the history. A write that is only begun leaves the device broken.
pub data EventChanges (s : DeviceState) (event : Event) (changes : List Change) : Type 0 where
  Nothing : changes ≡ [] → EventChanges s event changes
  AFlush : changes ≡ Flushed ∷ [] → EventChanges s event changes
  AWrite : (write : BlockWrite) (fua : Bool) → IsNextWrite s event write → changes ≡ Begun write ∷ Written write ∷ (if fua then Flushed ∷ [] else []) → EventChanges s event changes
  ABegun : (write : BlockWrite) → IsNextWrite s event write → condition_after Working event ≡ Broken → changes ≡ Begun write ∷ [] → EventChanges s event changes

serve-event : (s : DeviceState) (k : ℕ) (changes : List Change) → ServeChanges s k changes → EventChanges s (Serve (suc k)) changes
serve-event s k changes (NoChange is) = Nothing is
serve-event s k changes (OneFlush is) = AFlush is
serve-event s k changes (OneWrite write fua next is) = AWrite write fua (next-write s k (Serve (suc k)) write (inl refl) next) is

failed-event : (s : DeviceState) (k : ℕ) (changes : List Change) → ServeChanges s k changes → EventChanges s (FailedServe (suc k)) (first_begun changes)
failed-event s k changes (NoChange is) = Nothing (ap first_begun is)
failed-event s k changes (OneFlush is) = Nothing (ap first_begun is)
failed-event s k changes (OneWrite write fua next is) = ABegun write (next-write s k (FailedServe (suc k)) write (inr refl) next) refl (ap first_begun is)

-- ---- the changes of each event

step_journal-changes : (p : Progress) (j : Option JournalCounts) → (step_journal p j).changes ≡ []
step_journal-changes p None = refl
step_journal-changes p (Some j) = refl

step_regions-changes : (p : Progress) (c : Option RegionCounts) → (step_regions p c).changes ≡ []
step_regions-changes p None = refl
step_regions-changes p (Some c) = refl

step-changes : (f : DeviceFormat) (p : Progress) (actor : Actor) → (step f p actor).changes ≡ []
step-changes f p Commit = step_journal-changes p _
step-changes f p Place = step_journal-changes p _
step-changes f p Settle = step_journal-changes p _
step-changes f p Clean = step_regions-changes p _
step-changes f p Recalc = step_regions-changes p _

take_by-changes : (p : Progress) (k : ℕ) (a : Asked) (state : RequestState) → (take_by p k a state).changes ≡ []
take_by-changes p k a Unfinished = refl
take_by-changes p k a Finished = refl
take_by-changes p k a Taken = refl
take_by-changes p k a Dropped = refl

take_asked-changes : (p : Progress) (k : ℕ) (asked : Option Asked) → (take_asked p k asked).changes ≡ []
take_asked-changes p k None = refl
take_asked-changes p k (Some a) = take_by-changes p k a a.state

take-changes : (p : Progress) (ticket : ℕ) → (take_reply p ticket).changes ≡ []
take-changes p zero = refl
take-changes p (suc k) = take_asked-changes p k (slice_get p.requests k)

submit-changes : (f : DeviceFormat) (p : Progress) (submission : Submission) (refused : Option Answer) → (submit_by f p submission refused).changes ≡ []
submit-changes f p submission None = refl
submit-changes f p submission (Some answer) = refl

pub broken-changes : (p : Progress) (event : Event) → (broken_result p event).changes ≡ []
broken-changes p (Take ticket) = take-changes p ticket
broken-changes p event = refl

close-changes : (s : DeviceState) (t : Bool) → EventChanges s Close (if t then [] else Flushed ∷ [])
close-changes s true = Nothing refl
close-changes s false = AFlush refl

module _ (f : DeviceFormat) (base : ℕ → Cell) where
  pub working-changes : (s : DeviceState) (event : Event) → Serves f base Working s.history s.progress → EventChanges s event (working_result f s event).changes
  working-changes s (Submit submission) serving = Nothing (submit-changes f s.progress submission (refusal f s.progress submission))
  working-changes s (Serve zero) serving = Nothing refl
  working-changes s (Serve (suc k)) serving =
      serve-event s k (serve f s (suc k)).changes (serve_asked-changes f base s serving k (slice_get s.progress.requests k) refl)
  working-changes s (Step actor) serving = Nothing (step-changes f s.progress actor)
  working-changes s (Take ticket) serving = Nothing (take-changes s.progress ticket)
  working-changes s Close serving = close-changes s (is_recovery f.mode)
  working-changes s (FailedServe zero) serving = Nothing refl
  working-changes s (FailedServe (suc k)) serving =
      failed-event s k (serve f s (suc k)).changes (serve_asked-changes f base s serving k (slice_get s.progress.requests k) refl)
  working-changes s (FailedStep actor) serving = Nothing refl
  working-changes s FailedClose serving = Nothing refl

  -- ---- what is under way

  pending-after : (s : DeviceState) (event : Event) (changes : List Change) → EventChanges s event changes → s.history.pending ≡ None
      → condition_after Working event ≢ Broken → (with_changes changes s.history).pending ≡ None
  pending-after s event changes (Nothing is) none open_still = ap (λ (l : List Change). (with_changes l s.history).pending) is ∙ none
  pending-after s event changes (AFlush is) none open_still = ap (λ (l : List Change). (with_changes l s.history).pending) is ∙ none
  pending-after s event changes (AWrite write fua next is) none open_still = ap (λ (l : List Change). (with_changes l s.history).pending) is ∙ by fua
    where
      by : (fua : Bool) → (with_changes (Begun write ∷ Written write ∷ (if fua then Flushed ∷ [] else [])) s.history).pending ≡ None
      by true = refl
      by false = refl
  pending-after s event changes (ABegun write next breaks is) none open_still = absurd (open_still breaks)

  IsResting : DeviceState → Type 0
  IsResting s = s.condition ≢ Broken → s.history.pending ≡ None

  resting-in : (c : Condition) (s : DeviceState) (event : Event) → Serves f base c s.history s.progress → (c ≢ Broken → s.history.pending ≡ None)
      → condition_after c event ≢ Broken → (with_changes (result_in f s c event).changes s.history).pending ≡ None
  resting-in Working s event serving none open_still =
      pending-after s event (working_result f s event).changes (working-changes s event serving) (none (λ same. cc)) open_still
  resting-in Broken s event serving none open_still = absurd (open_still (stays_broken event))
    where
      stays_broken : (event : Event) → condition_after Broken event ≡ Broken
      stays_broken (FailedServe ticket) = refl
      stays_broken (FailedStep actor) = refl
      stays_broken FailedClose = refl
      stays_broken Close = refl
      stays_broken event = refl
  resting-in Closed s event serving none open_still = none (λ same. cc)

  resting-events : (s : DeviceState) (events : List Event) → IsServing f base s → IsResting s → IsResting (after_events f s events)
  unfolding IsResting
  resting-events s [] serving rests = rests
  resting-events s (event ∷ events) serving rests =
      resting-events (after_event f s event) events (IsServing-event f base s event serving) (resting-in s.condition s event serving rests)

  -- ---- at each moment

  Within : DeviceState → Event → History → Type 0
  Within s event h = (h.pending ≡ None) ⊎ ((write : BlockWrite) × (h.pending ≡ Some write) × IsNextWrite s event write)

  within-write : (s : DeviceState) (event : Event) (write : BlockWrite) (fua : Bool) (kept : ℕ) → IsNextWrite s event write → s.history.pending ≡ None
      → Within s event (with_changes (take kept (Begun write ∷ Written write ∷ (if fua then Flushed ∷ [] else []))) s.history)
  unfolding Within
  within-write s event write fua zero next none = inl none
  within-write s event write fua (suc zero) next none = inr (write, refl, next)
  within-write s event write true (suc (suc zero)) next none = inl refl
  within-write s event write false (suc (suc zero)) next none = inl refl
  within-write s event write true (suc (suc (suc kept))) next none = by kept
    where
      by : (n : ℕ) → Within s event (with_changes (Begun write ∷ Written write ∷ Flushed ∷ take n []) s.history)
      by zero = inl refl
      by (suc n) = inl refl
  within-write s event write false (suc (suc (suc kept))) next none = inl refl

  within-none : (s : DeviceState) (event : Event) (kept : ℕ) → s.history.pending ≡ None → Within s event (with_changes (take kept []) s.history)
  unfolding Within
  within-none s event zero none = inl none
  within-none s event (suc kept) none = inl none

  within-changes : (s : DeviceState) (event : Event) (changes : List Change) (kept : ℕ) → EventChanges s event changes → s.history.pending ≡ None
      → Within s event (with_changes (take kept changes) s.history)
  unfolding Within
  within-changes s event changes kept (Nothing is) none = subst (λ (l : List Change). Within s event (with_changes (take kept l) s.history)) (sym is) (within-none s event kept none)
  within-changes s event changes kept (AFlush is) none = subst (λ (l : List Change). Within s event (with_changes (take kept l) s.history)) (sym is) (by kept)
    where
      by : (kept : ℕ) → Within s event (with_changes (take kept (Flushed ∷ [])) s.history)
      by zero = inl none
      by (suc zero) = inl none
      by (suc (suc kept)) = inl none
  within-changes s event changes kept (AWrite write fua next is) none =
      subst (λ (l : List Change). Within s event (with_changes (take kept l) s.history)) (sym is) (within-write s event write fua kept next none)
  within-changes s event changes kept (ABegun write next breaks is) none = subst (λ (l : List Change). Within s event (with_changes (take kept l) s.history)) (sym is) (by kept)
    where
      by : (kept : ℕ) → Within s event (with_changes (take kept (Begun write ∷ [])) s.history)
      by zero = inl none
      by (suc zero) = inr (write, refl, next)
      by (suc (suc kept)) = inr (write, refl, next)

  within-in : (c : Condition) (s : DeviceState) (event : Event) (kept : ℕ) → Serves f base c s.history s.progress → s.history.pending ≡ None → c ≢ Broken
      → Within s event (with_changes (take kept (result_in f s c event).changes) s.history)
  within-in Working s event kept serving none open_still = within-changes s event (working_result f s event).changes kept (working-changes s event serving) none
  within-in Broken s event kept serving none open_still = absurd (open_still refl)
  within-in Closed s event kept serving none open_still = within-none s event kept none

-- ---- what is flushed

-- No more is flushed than was written, whatever the events.
pub flushed-le-events : (f : DeviceFormat) (s : DeviceState) (events : List Event) → s.history.flushed ≤ length s.history.writes
    → (after_events f s events).history.flushed ≤ length (after_events f s events).history.writes
flushed-le-events f s [] within = within
flushed-le-events f s (event ∷ events) within =
    flushed-le-events f (after_event f s event) events (flushed-le-with_changes (event_result f s event).changes s.history within)

pub flushed-le-reached : (f : DeviceFormat) (s : DeviceState) → IsReached f s → s.history.flushed ≤ length s.history.writes
flushed-le-reached f s reached =
    let opened = opened_device reached.base reached.next reached.set_bits reached.awaiting in
    subst (λ (t : DeviceState). t.history.flushed ≤ length t.history.writes) (sym reached.is) (flushed-le-events f opened reached.events (flushed-le-opened reached.base))

-- Nor is it at a moment of an event.
pub flushed-le-within : (f : DeviceFormat) (s : DeviceState) (event : Event) (h : History) → s.history.flushed ≤ length s.history.writes → IsHistoryWithin f s event h
    → h.flushed ≤ length h.writes
flushed-le-within f s event h small within =
    subst (λ (g : History). g.flushed ≤ length g.writes) (sym within.is) (flushed-le-with_changes (take within.kept (event_result f s event).changes) s.history small)

-- ---- the laws

pub pending_law : PendingLaw
unfolding IsResting
pending_law f s reached =
    let opened = opened_device reached.base reached.next reached.set_bits reached.awaiting in
    let rests = resting-events f reached.base opened reached.events (IsServing-opened f reached.base reached.next reached.set_bits reached.awaiting) (λ open_still. refl) in
    subst (λ (t : DeviceState). t.condition ≢ Broken → t.history.pending ≡ None) (sym reached.is) rests

pub within_law : WithinLaw
unfolding Within
within_law f s event h reached open_still within =
    subst (Within f s.history.base s event) (sym within.is)
    (within-in f s.history.base s.condition s event within.kept (IsServing-reached f s reached) (pending_law f s reached open_still) open_still)

pub quiet_law : QuietLaw
quiet_law f s event other = by s.condition
  where
    working : (event : Event) → ((ticket : ℕ) → event ≢ Serve ticket) → (with_changes (working_result f s event).changes s.history).writes ≡ s.history.writes
    working (Submit submission) other = ap (λ (l : List Change). (with_changes l s.history).writes) (submit-changes f s.progress submission (refusal f s.progress submission))
    working (Serve ticket) other = absurd (other ticket refl)
    working (Step actor) other = ap (λ (l : List Change). (with_changes l s.history).writes) (step-changes f s.progress actor)
    working (Take ticket) other = ap (λ (l : List Change). (with_changes l s.history).writes) (take-changes s.progress ticket)
    working Close other = writes-closed (is_recovery f.mode) s.history
    working (FailedServe ticket) other = writes-first_begun (serve f s ticket).changes s.history
    working (FailedStep actor) other = refl
    working FailedClose other = refl

    by : (c : Condition) → (with_changes (result_in f s c event).changes s.history).writes ≡ s.history.writes
    by Working = working event other
    by Broken = ap (λ (l : List Change). (with_changes l s.history).writes) (broken-changes s.progress event)
    by Closed = refl

pub broken_law : BrokenLaw
broken_law f s event breaks =
    let is : event_result f s event ≡ broken_result s.progress event = ap (λ (c : Condition). result_in f s c event) breaks in
    record {
      condition = ap (λ (c : Condition). condition_after c event) breaks ∙ stays event;
      changes = ap (λ (r : EventResult). r.changes) is ∙ broken-changes s.progress event;
      takes = λ ticket same. is ∙ ap (broken_result s.progress) same ∙ ap (working_result f s) (sym same);
      others = λ other. is ∙ says event other;
    }
  where
    stays : (event : Event) → condition_after Broken event ≡ Broken
    stays (FailedServe ticket) = refl
    stays (FailedStep actor) = refl
    stays FailedClose = refl
    stays Close = refl
    stays event = refl

    says : (event : Event) → ((ticket : ℕ) → event ≢ Take ticket) → broken_result s.progress event ≡ only_answers s.progress IsBroken
    says (Take ticket) other = absurd (other ticket refl)
    says event other = refl
