-- Events of a device in direct mode, one by one.
use Rattle.std.proofs.Common.{◌≡◌, ◌≢◌, inl, inr, ℕ, zero, suc, ◌+◌, ◌<◌, Bool, true, false, if◌then◌else◌, refl, sym, ◌∙◌, ap, subst, arith, Option, Some, None, option_map, List, [], ◌∷◌, length, map, get_or, find, take, slice_get}
use Rattle.std.specs.List.{range_with_len}
use Rattle.std.specs.Option.{option_or}
use Rattle.std.proofs.lemmas.Bool.{cases_Bool, true≢false, false_from_ne_true}
use Rattle.std.proofs.lemmas.Option.{none-some, same_Some}
use Rattle.image_model.specs.Geometry.{regions}
use Rattle.device_model.specs.History.{BlockWrite, Change, Begun, Written, Flushed, with_changes}
use Rattle.device_model.specs.Mode.{Mode, DeviceFormat, is_recovery}
use Rattle.device_model.specs.Progress.{Progress, Condition, Working, Broken, Closed, DeviceState, Event, Submit, Serve, Step, Take, Close, FailedServe, FailedStep, FailedClose, Actor, Commit, Place, Settle, Clean, Recalc, Answer, Idle, Did, IsBroken, IsClosed, EventResult, only_answers, submit_by, form_refusal, slots_refusal, is_flushed_by, block_changes, journal_with, first_begun, serve, serve_with, serve_unheld, serve_by, serve_asked, step_regions, take_by, take_asked, working_result, result_in, event_result, after_event}
use Rattle.device_model.specs.Journal.{SectionCounts, JournalCounts, as_committed, commit_all}
use Rattle.device_model.specs.Regions.{RegionCounts, recalculated_region, least_region}
use Rattle.device_model.specs.Request.{Request, Read, Write, Flush, Asked, RequestState, Unfinished, Finished, Taken, Dropped, is_unfinished, is_to_serve, asked_of, held_by}
use Rattle.device_model.specs.SubmissionLaws.{IsInRange}
use Rattle.device_model.specs.RequestLaws.{requests_of}
use Rattle.device_model.specs.Serial.{serial_cells}
use Rattle.device_model.proofs.SerialLemmas.{IsServedPart}
use Rattle.device_model.proofs.KeptLemmas.{accepted_law}
use Rattle.device_model.proofs.SubmissionLemmas.{result-working}
use Rattle.device_model.proofs.MomentLemmas.{broken-changes}
use Rattle.place_model.specs.Format.{DiskFormat}
use Rattle.place_model.specs.Blocks.{IsBlockWrite}
use Rattle.journal_laws.specs.EventLaws.{IsServed, next_write}
use Rattle.direct_model.specs.DirectDisk.{DirectDisk}
use Rattle.direct_laws.specs.Device.{IsDirectDevice, after_changes}
use Rattle.direct_laws.specs.EventLaws.{QuietLaw, IsQuiet, QuietEventsLaw, UnservedLaw, HeldLaw, ServedLaw, ServeReadLaw, after_block, ServeWriteLaw, ServeFlushLaw, CloseLaw, IdleLaw, RecalcIdleLaw, RecalcLaw, FailedWriteLaw}
use Rattle.direct_laws.proofs.CountLemmas.{direct}
use Rattle.direct_laws.proofs.DeviceLemmas.{mode-is, blocks-is, block_size-is, event_keeps, serving-works}

-- After an event with these changes the disk is the one after them.
keeps_by : (f : DeviceFormat) (s : DeviceState) (event : Event) (d : DirectDisk) (changes : List Change) → IsDirectDevice f s d → (event_result f s event).changes ≡ changes
    → IsDirectDevice f (after_event f s event) (after_changes changes d)
keeps_by f s event d changes is e = subst (λ (xs : List Change). IsDirectDevice f (after_event f s event) (after_changes xs d)) e (event_keeps f s event d is)

pub quiet_law : QuietLaw
quiet_law f s event d is none = keeps_by f s event d [] is none

-- ---- quiet events

submit-none : (f : DeviceFormat) (p : Progress) (submission : _) (o : Option Answer) → (submit_by f p submission o).changes ≡ []
submit-none f p submission None = refl
submit-none f p submission (Some answer) = refl

regions-none : (p : Progress) (o : Option RegionCounts) → (step_regions p o).changes ≡ []
regions-none p None = refl
regions-none p (Some c) = refl

take_state-none : (p : Progress) (k : ℕ) (a : Asked) (state : RequestState) → (take_by p k a state).changes ≡ []
take_state-none p k a Unfinished = refl
take_state-none p k a Finished = refl
take_state-none p k a Taken = refl
take_state-none p k a Dropped = refl

take-none : (p : Progress) (k : ℕ) (o : Option Asked) → (take_asked p k o).changes ≡ []
take-none p k None = refl
take-none p k (Some a) = take_state-none p k a a.state

module _ (d : DiskFormat) (s : DeviceState) where
  working-none : (event : Event) → IsQuiet event → (working_result (direct d) s event).changes ≡ []
  working-none (Submit submission) quiet = submit-none (direct d) s.progress submission (option_or (form_refusal (direct d) submission) (slots_refusal (direct d) s.progress.requests))
  working-none (Serve ticket) quiet = absurd quiet
  working-none (Step Commit) quiet = refl
  working-none (Step Place) quiet = refl
  working-none (Step Settle) quiet = refl
  working-none (Step Clean) quiet = refl
  working-none (Step Recalc) quiet = regions-none s.progress _
  working-none (Take zero) quiet = refl
  working-none (Take (suc k)) quiet = take-none s.progress k (asked_of s.progress.requests (suc k))
  working-none Close quiet = absurd quiet
  working-none (FailedServe ticket) quiet = absurd quiet
  working-none (FailedStep actor) quiet = refl
  working-none FailedClose quiet = refl

  event-none : (event : Event) → IsQuiet event → (c : Condition) → (result_in (direct d) s c event).changes ≡ []
  event-none event quiet Working = working-none event quiet
  event-none event quiet Broken = broken-changes s.progress event
  event-none event quiet Closed = refl

pub quiet_events_law : QuietEventsLaw
quiet_events_law f s event d is quiet =
    quiet_law f s event d is (subst (λ (x : DeviceFormat). (event_result x s event).changes ≡ []) (sym is.format) (event-none d.format s event quiet s.condition))

-- ---- what is not served

module _ (f : DeviceFormat) (s : DeviceState) where
  state-none : (k : ℕ) (a : Asked) (state : RequestState) → is_unfinished state ≡ false → (serve_by f s k a state).changes ≡ []
  state-none k a Unfinished over = absurd (true≢false over)
  state-none k a Finished over = refl
  state-none k a Taken over = refl
  state-none k a Dropped over = refl

  asked-none : (k : ℕ) (o : Option Asked) → is_to_serve o ≡ false → (serve_asked f s k o).changes ≡ []
  asked-none k None over = refl
  asked-none k (Some a) over = state-none k a a.state over

  serve-none : (ticket : ℕ) → is_to_serve (asked_of s.progress.requests ticket) ≡ false → (serve f s ticket).changes ≡ []
  serve-none zero over = refl
  serve-none (suc k) over = asked-none k (asked_of s.progress.requests (suc k)) over

  unserved-none : (ticket : ℕ) → is_to_serve (asked_of s.progress.requests ticket) ≡ false → (c : Condition) → (result_in f s c (Serve ticket)).changes ≡ []
  unserved-none ticket over Working = serve-none ticket over
  unserved-none ticket over Broken = refl
  unserved-none ticket over Closed = refl

  held_state-none : (k by : ℕ) (a : Asked) → held_by s.progress.requests k a.request ≡ Some by → (state : RequestState) → (serve_by f s k a state).changes ≡ []
  held_state-none k by a held Unfinished = ap (λ (o : Option ℕ). (serve_unheld f s k a o).changes) held
  held_state-none k by a held Finished = refl
  held_state-none k by a held Taken = refl
  held_state-none k by a held Dropped = refl

  held-none : (k by : ℕ) (a : Asked) → slice_get s.progress.requests k ≡ Some a → held_by s.progress.requests k a.request ≡ Some by → (c : Condition) → (result_in f s c (Serve (suc k))).changes ≡ []
  held-none k by a there held Working = ap (λ (o : Option Asked). (serve_asked f s k o).changes) there ∙ held_state-none k by a held a.state
  held-none k by a there held Broken = refl
  held-none k by a there held Closed = refl

pub unserved_law : UnservedLaw
unserved_law f s d ticket is over = quiet_law f s (Serve ticket) d is (unserved-none f s ticket over s.condition)

pub held_law : HeldLaw
held_law f s d k by a is there held = quiet_law f s (Serve (suc k)) d is (held-none f s k by a there held s.condition)

-- ---- what is served

-- Without a section nothing is to be committed.
committed-none : (j : JournalCounts) → j.sections ≡ [] → commit_all j ≡ j
committed-none j none =
    ap (λ (sections : List SectionCounts). let c : JournalCounts = record j { sections = map as_committed sections } in c) none
    ∙ ap (λ (sections : List SectionCounts). let c : JournalCounts = record j { sections = sections } in c) (sym none)

module _ (d : DiskFormat) (s : DeviceState) (unused : s.progress.journal.sections ≡ []) (k : ℕ) (a : Asked) where
  room : (r : Request) → journal_with (direct d) s.progress.journal a r ≡ Some s.progress.journal
  room (Read first count) = refl
  room (Write first blocks fua) = refl
  room Flush = ap (λ (j : JournalCounts). Some j) (committed-none s.progress.journal unused)

  serve-is : IsServed s k a → serve (direct d) s (suc k) ≡ serve_with (direct d) s k a (Some s.progress.journal)
  serve-is is =
      let f = direct d in
      ap (serve_asked f s k) is.there ∙ ap (serve_by f s k a) is.unfinished ∙ ap (serve_unheld f s k a) is.unheld ∙ ap (serve_with f s k a) (room a.request)

module _ (f : DeviceFormat) (s : DeviceState) (d : DirectDisk) (k : ℕ) (a : Asked) (is : IsDirectDevice f s d) (asked : IsServed s k a) where
  in_format : serve f s (suc k) ≡ serve_with f s k a (Some s.progress.journal)
  in_format = subst (λ (x : DeviceFormat). serve x s (suc k) ≡ serve_with x s k a (Some s.progress.journal)) (sym is.format) (serve-is d.format s is.unused k a asked)

  served_is : event_result f s (Serve (suc k)) ≡ serve_with f s k a (Some s.progress.journal)
  served_is = result-working f s (Serve (suc k)) asked.works ∙ in_format

  module _ (request : Request) (e : a.request ≡ request) where
    pub served-changes : (event_result f s (Serve (suc k))).changes ≡ block_changes (suc k) a request
    served-changes = ap (λ (result : EventResult). result.changes) served_is ∙ ap (block_changes (suc k) a) e

    pub failed-changes : (event_result f s (FailedServe (suc k))).changes ≡ first_begun (block_changes (suc k) a request)
    failed-changes =
        ap (λ (result : EventResult). result.changes) (result-working f s (FailedServe (suc k)) asked.works)
        ∙ ap (λ (result : EventResult). first_begun result.changes) in_format ∙ ap (λ (r : Request). first_begun (block_changes (suc k) a r)) e

pub served_law : ServedLaw
served_law f s d k a is asked = served_is f s d k a is asked

pub serve_read_law : ServeReadLaw
serve_read_law f s d k a first count is asked e = keeps_by f s (Serve (suc k)) d [] is (served-changes f s d k a is asked (Read first count) e)

pub serve_flush_law : ServeFlushLaw
serve_flush_law f s d k a is asked e = keeps_by f s (Serve (suc k)) d (Flushed ∷ []) is (served-changes f s d k a is asked Flush e)

pub close_law : CloseLaw
close_law f s d is works =
    keeps_by f s Close d (Flushed ∷ []) is
    (ap (λ (result : EventResult). result.changes) (result-working f s Close works) ∙ ap (λ (m : Mode). if is_recovery m then [] else Flushed ∷ []) (mode-is f d.format is.format))

-- ---- a write

get_or-there : (xs : List (List ℕ)) (n : ℕ) → n < length xs → slice_get xs n ≡ Some (get_or xs n [])
get_or-there [] n low = absurd (omega (arith, low))
get_or-there (x ∷ xs) zero low = refl
get_or-there (x ∷ xs) (suc n) low = get_or-there xs n (omega (arith, low))

module _ (f : DeviceFormat) (s : DeviceState) (d : DirectDisk) (k : ℕ) (a : Asked) (first : ℕ) (blocks : List (List ℕ)) (fua : Bool) (is : IsDirectDevice f s d) (asked : IsServed s k a)
    (e : a.request ≡ Write first blocks fua) where
  below : a.served < length blocks
  below =
      let part : IsServedPart f (serial_cells f 1 s.history.base (take k (requests_of s.progress.requests))) a a.request = (serving-works f s is.reached asked.works).stands.each k a asked.there in
      (subst (IsServedPart f (serial_cells f 1 s.history.base (take k (requests_of s.progress.requests))) a) e part).0 (ap is_unfinished asked.unfinished)

  pub next_is_block : IsBlockWrite d.geometry (next_write k first blocks a.served)
  next_is_block =
      let range = subst (IsInRange f) e (accepted_law f s is.reached k a asked.there).1 in
      record {
        block = let low = below in omega (arith, range.1, blocks-is f d.format is.format);
        bytes = range.2 a.served (get_or blocks a.served []) (get_or-there blocks a.served below) ∙ block_size-is f d.format is.format;
      }

  changes_are : (t : Bool) (write : BlockWrite) → after_changes (Begun write ∷ Written write ∷ (if t then Flushed ∷ [] else [])) d ≡ after_block t write d
  changes_are true write = refl
  changes_are false write = refl

  served_write : IsDirectDevice f (after_event f s (Serve (suc k))) (after_block (is_flushed_by a blocks fua) (next_write k first blocks a.served) d)
  served_write =
      subst (IsDirectDevice f (after_event f s (Serve (suc k)))) (changes_are (is_flushed_by a blocks fua) (next_write k first blocks a.served))
      (keeps_by f s (Serve (suc k)) d (block_changes (suc k) a (Write first blocks fua)) is (served-changes f s d k a is asked (Write first blocks fua) e))

  pub failed_write : (event_result f s (FailedServe (suc k))).changes ≡ Begun (next_write k first blocks a.served) ∷ []
  failed_write = failed-changes f s d k a is asked (Write first blocks fua) e

pub serve_write_law : ServeWriteLaw
serve_write_law f s d k a first blocks fua is asked e = (next_is_block f s d k a first blocks fua is asked e, served_write f s d k a first blocks fua is asked e)

pub failed_write_law : FailedWriteLaw
failed_write_law f s d k a first blocks fua is asked e =
    let changes = failed_write f s d k a first blocks fua is asked e in (
      ap (λ (xs : List Change). with_changes xs s.history) changes,
      keeps_by f s (FailedServe (suc k)) d (Begun (next_write k first blocks a.served) ∷ []) is changes,
    )

-- ---- steps

idle_one : (d : DiskFormat) (s : DeviceState) (actor : Actor) → actor ≢ Recalc → working_result (direct d) s (Step actor) ≡ only_answers s.progress Idle
idle_one d s Commit other = refl
idle_one d s Place other = refl
idle_one d s Settle other = refl
idle_one d s Clean other = refl
idle_one d s Recalc other = absurd (other refl)

pub idle_law : IdleLaw
idle_law f s d actor is works other =
    result-working f s (Step actor) works
    ∙ subst (λ (x : DeviceFormat). working_result x s (Step actor) ≡ only_answers s.progress Idle) (sym is.format) (idle_one d.format s actor other)

find-none : (p : ℕ → Bool) (from count : ℕ) → ((r : ℕ) → p r ≡ false) → find p (range_with_len from count) ≡ None
find-none p from zero fails = refl
find-none p from (suc count) fails = rw (fails from) (find-none p (from + 1) count fails)

recalc_one : (d : DiskFormat) (s : DeviceState) → ((r : ℕ) → s.progress.regions.awaiting r ≡ false) → working_result (direct d) s (Step Recalc) ≡ only_answers s.progress Idle
recalc_one d s rests =
    ap (λ (o : Option ℕ). step_regions s.progress (option_map (λ (r : ℕ). recalculated_region r s.progress.regions) o))
    (find-none s.progress.regions.awaiting 0 (direct d).regions rests)

pub recalc_idle_law : RecalcIdleLaw
recalc_idle_law f s d is works none =
    result-working f s (Step Recalc) works
    ∙ subst (λ (x : DeviceFormat). working_result x s (Step Recalc) ≡ only_answers s.progress Idle) (sym is.format)
    (recalc_one d.format s (λ r. false_from_ne_true (s.progress.regions.awaiting r) (λ waits. let may = is.awaiting r waits in true≢false (sym may.to_recalculate ∙ none may.block may.inside))))

-- The first number that passes is in the range, and passes.
find-range : (p : ℕ → Bool) (from count r : ℕ) → find p (range_with_len from count) ≡ Some r → (r < from + count) × (p r ≡ true)
find-range p from zero r e = absurd (none-some r e)
find-range p from (suc count) r e = elim (cases_Bool (p from)) [
  | inl passes ↦
      let same : from ≡ r = same_Some from r (rw passes at e) in
      (omega arith, ap p (sym same) ∙ passes)
  | inr fails ↦
      let later = find-range p (from + 1) count r (rw fails at e) in
      (omega (arith, later.0), later.1)
]

-- The one that is taken, where one is.
abbrev Takes : DiskFormat → DeviceState → EventResult → Type 0
Takes d s result = (region : ℕ) × (region < regions d.geometry) × (s.progress.regions.awaiting region ≡ true)
    × (result ≡ step_regions s.progress (Some (recalculated_region region s.progress.regions)))

abbrev answer_of : EventResult → Answer
answer_of result = result.answer

module _ (d : DiskFormat) (s : DeviceState) where
  recalc_by : (o : Option ℕ) → least_region (regions d.geometry) s.progress.regions.awaiting ≡ o
      → (step_regions s.progress (option_map (λ (r : ℕ). recalculated_region r s.progress.regions) o)).answer ≡ Did
      → Takes d s (step_regions s.progress (option_map (λ (r : ℕ). recalculated_region r s.progress.regions) o))
  recalc_by None e did = absurd (let wrong : Idle ≡ Did = did in cc)
  recalc_by (Some r) e did = let found = find-range s.progress.regions.awaiting 0 (regions d.geometry) r e in (r, omega (arith, found.0), found.1, refl)

  recalc_in : (c : Condition) → (result_in (direct d) s c (Step Recalc)).answer ≡ Did → Takes d s (result_in (direct d) s c (Step Recalc))
  recalc_in Working did = recalc_by (least_region (regions d.geometry) s.progress.regions.awaiting) refl did
  recalc_in Broken did = absurd (let wrong : IsBroken ≡ Did = did in cc)
  recalc_in Closed did = absurd (let wrong : IsClosed ≡ Did = did in cc)

pub recalc_law : RecalcLaw
recalc_law f s d is did =
    let e : f ≡ direct d.format = is.format in
    subst (λ (x : DeviceFormat). Takes d.format s (event_result x s (Step Recalc))) (sym e)
    (recalc_in d.format s s.condition (sym (ap (λ (x : DeviceFormat). (event_result x s (Step Recalc)).answer) e) ∙ did))
