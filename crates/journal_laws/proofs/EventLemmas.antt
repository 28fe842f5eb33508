-- Events of a device in journal mode.
use Rattle.std.proofs.Common.{◌≡◌, ℕ, zero, suc, ◌+◌, Bool, true, false, not, if◌then◌else◌, refl, sym, ◌∙◌, ap, subst, Option, Some, None, option_map, List, [], ◌∷◌}
use Rattle.std.specs.Option.{is_some, option_or}
use Rattle.std.proofs.lemmas.Bool.{true≢false, false≢true}
use Rattle.device_model.specs.History.{History, Change, Written, Flushed, with_change, with_changes, Begun}
use Rattle.device_model.specs.Journal.{SectionCounts, JournalCounts, put, commit, commit_all, place, settle}
use Rattle.device_model.specs.Mode.{Mode, DeviceFormat, is_journal, is_bitmap, is_recovery}
use Rattle.device_model.specs.Progress.{Progress, DeviceState, Condition, Working, Broken, Closed, Event, Submit, Serve, Step, Take, Close, FailedServe, FailedStep, FailedClose, Actor, Commit, Place, Settle, Clean, Recalc, Answer, NoRoom, Did, Idle, IsBroken, IsClosed, EventResult, in_modes, submit, submit_by, form_refusal, slots_refusal, is_flushed_by, block_changes, journal_with, serve, serve_with, serve_by, serve_unheld, serve_asked, first_begun, step_journal, step_regions, take_by, take_asked, take_reply, working_result, broken_result, result_in, event_result, after_event, is_used}
use Rattle.device_model.specs.Submission.{Submission}
use Rattle.device_model.specs.Regions.{RegionCounts, clean, recalculate}
use Rattle.device_model.specs.Request.{Request, Read, Write, Flush, Asked, RequestState, Unfinished, Finished, Taken, Dropped, asked_of}
use Rattle.device_model.specs.RoomLaws.{commits}
use Rattle.device_model.specs.Script.{is_did}
use Rattle.disk_model.specs.Disk.{Image}
use Rattle.place_model.specs.Format.{DiskFormat}
use Rattle.place_model.specs.Left.{IsLeftInJournal}
use Rattle.place_model.proofs.LeftLemmas.{journal_pending_law}
use Rattle.journal_model.specs.HistoryOf.{entry_of_write}
use Rattle.journal_model.specs.JournaledDisk.{JournaledDisk}
use Rattle.journal_model.specs.Ring.{JournalRing, has_room, with_put}
use Rattle.journal_laws.specs.Device.{IsJournalOf, IsJournalDevice}
use Rattle.journal_laws.specs.EventLaws.{FailedServeLaw, FailedLeftLaw, HasNextBlock, IsServed, next_write, NoRoomLaw, ServeWriteLaw, ServesFlushed, ServeFlushedLaw, ServeFlushLaw, ServeReadLaw, StepCommitLaw, StepPlaceLaw, StepSettleLaw, IdleLaw, QuietLaw, IsQuiet, QuietEventsLaw, CloseLaw}
use Rattle.journal_laws.proofs.FormatLemmas.{mode-is}
use Rattle.journal_laws.proofs.CommitLemmas.{idle_commit_law, commit_law}
use Rattle.journal_laws.proofs.PutLemmas.{has_room_law, put_law}
use Rattle.journal_laws.proofs.StepLemmas.{flush_law, flush_write_law, commits_law, place_law, idle_place_law, settle_law, idle_settle_law}

none_of : {A : Type 0} (o : Option A) → is_some o ≡ false → o ≡ None
none_of None e = refl
none_of (Some x) e = absurd (true≢false e)

some_of : {A : Type 0} (o : Option A) → is_some o ≡ true → (x : A) × (o ≡ Some x)
some_of None e = absurd (false≢true e)
some_of (Some x) e = (x, refl)

-- What an event's result keeps.
abbrev Keeps : DeviceFormat → DeviceState → JournaledDisk → JournalRing → EventResult → Type 0
Keeps f s d r result = IsJournalOf f (with_changes result.changes s.history) result.progress.journal d r

-- ---- serve

-- What an event gives on a device that works.
works : (f : DeviceFormat) (s : DeviceState) (event : Event) → s.condition ≡ Working → event_result f s event ≡ working_result f s event
works f s event is = ap (λ (c : Condition). result_in f s c event) is

serve_is : (f : DeviceFormat) (s : DeviceState) (k : ℕ) (a : Asked) (request : Request) → IsServed s k a → a.request ≡ request
    → serve f s (suc k) ≡ serve_with f s k a (journal_with f s.progress.journal a request)
serve_is f s k a request is e =
    ap (serve_asked f s k) is.there ∙ ap (serve_by f s k a) is.unfinished ∙ ap (serve_unheld f s k a) is.unheld
    ∙ ap (λ (x : Request). serve_with f s k a (journal_with f s.progress.journal a x)) e

-- What a serve keeps, it keeps of the device.
serve_keeps : (f : DeviceFormat) (s : DeviceState) (k : ℕ) (a : Asked) (request : Request) (j : JournalCounts) (d : JournaledDisk) (r : JournalRing) → IsServed s k a → a.request ≡ request
    → journal_with f s.progress.journal a request ≡ Some j → IsJournalOf f (with_changes (block_changes (suc k) a request) s.history) j d r
    → IsJournalDevice f (after_event f s (Serve (suc k))) d r
serve_keeps f s k a request j d r is e put_is kept =
    subst (Keeps f s d r) (sym (works f s (Serve (suc k)) is.works ∙ serve_is f s k a request is e ∙ ap (serve_with f s k a) put_is))
    (subst (λ (x : Request). IsJournalOf f (with_changes (block_changes (suc k) a x) s.history) j d r) (sym e) kept)

module _ (f : DeviceFormat) (s : DeviceState) (d : JournaledDisk) (r : JournalRing) (k : ℕ) (a : Asked) (first : ℕ) (blocks : List (List ℕ)) (fua : Bool)
    (is : IsJournalDevice f s d r) (asked : IsServed s k a) (request : a.request ≡ Write first blocks fua) where
  abbrev j : JournalCounts
  j = s.progress.journal

  abbrev counts_with : List SectionCounts → JournalCounts
  counts_with sections = record { next = s.progress.journal.next; sections = sections }

  abbrev counts_if : Bool → List SectionCounts → JournalCounts
  counts_if t sections = if t then commit_all (counts_with sections) else counts_with sections

  -- In journal mode the journal has the block where the counts have room.
  journal_is : journal_with f s.progress.journal a (Write first blocks fua)
      ≡ option_map (counts_if (is_flushed_by a blocks fua)) (put f.sections f.entries (first + a.served) s.progress.journal.sections)
  journal_is =
      ap (λ (m : Mode). if is_journal m then option_map (counts_if (is_flushed_by a blocks fua)) (put f.sections f.entries (first + a.served) j.sections) else Some j) (mode-is f d.format is.format)

  pub no_room : has_room r ≡ false → (event_result f s (Serve (suc k))).answer ≡ NoRoom
  no_room full =
      let none = none_of (put f.sections f.entries (first + a.served) j.sections) (has_room_law f s.history j d r (first + a.served) is ∙ full) in
      ap (λ (result : EventResult). result.answer) (works f s (Serve (suc k)) asked.works ∙ serve_is f s k a (Write first blocks fua) asked request
      ∙ ap (serve_with f s k a) (journal_is ∙ ap (option_map (counts_if (is_flushed_by a blocks fua))) none))

  abbrev changes_if : Bool → List Change
  changes_if t = Begun (next_write k first blocks a.served) ∷ Written (next_write k first blocks a.served) ∷ (if t then Flushed ∷ [] else [])

  -- Where it is put, this is what is to be kept.
  served_by : (sections : List SectionCounts) (d' : JournaledDisk) (r' : JournalRing) (t : Bool) → put f.sections f.entries (first + a.served) s.progress.journal.sections ≡ Some sections
      → is_flushed_by a blocks fua ≡ t
      → IsJournalOf f (with_changes (changes_if t) s.history) (counts_if t sections) d' r' → IsJournalDevice f (after_event f s (Serve (suc k))) d' r'
  served_by sections d' r' t told e kept =
      serve_keeps f s k a (Write first blocks fua) (counts_if (is_flushed_by a blocks fua) sections) d' r' asked request
      (journal_is ∙ ap (option_map (counts_if (is_flushed_by a blocks fua))) told)
      (subst (λ (u : Bool). IsJournalOf f (with_changes (changes_if u) s.history) (counts_if u sections) d' r') (sym e) kept)

  put_some : has_room r ≡ true → (sections : List SectionCounts) × (put f.sections f.entries (first + a.served) s.progress.journal.sections ≡ Some sections)
  put_some room = some_of (put f.sections f.entries (first + a.served) j.sections) (has_room_law f s.history j d r (first + a.served) is ∙ room)

  -- A serve that fails has begun with the write.
  pub failed_serve : has_room r ≡ true
      → (after_event f s (FailedServe (suc k))).history ≡ with_change s.history (Begun (next_write k first blocks a.served))
  failed_serve room =
      let some = put_some room in
      let result = serve_is f s k a (Write first blocks fua) asked request
      ∙ ap (serve_with f s k a) (journal_is ∙ ap (option_map (counts_if (is_flushed_by a blocks fua))) some.1) in
      ap (λ (x : EventResult). with_changes x.changes s.history) (works f s (FailedServe (suc k)) asked.works)
      ∙ ap (λ (x : EventResult). with_changes (first_begun x.changes) s.history) result
      ∙ ap (λ (x : Request). with_changes (first_begun (block_changes (suc k) a x)) s.history) request

  module _ (next : HasNextBlock f s first blocks a.served) (room : has_room r ≡ true) where
    pub serve_write : is_flushed_by a blocks fua ≡ false
        → IsJournalDevice f (after_event f s (Serve (suc k))) d (with_put (entry_of_write d (next_write k first blocks a.served)) r)
    serve_write e =
        let some = put_some room in
        served_by some.0 d (with_put (entry_of_write d (next_write k first blocks a.served)) r) false some.1 e
        (put_law f s.history j some.0 d r (next_write k first blocks a.served) is next.idle next.inside next.whole some.1).1

    pub serve_flushed : is_flushed_by a blocks fua ≡ true → ServesFlushed f s d r k (next_write k first blocks a.served)
    serve_flushed e =
        let write = next_write k first blocks a.served in
        let some = put_some room in
        record {
          sections = some.0;
          put_is = (put_law f s.history j some.0 d r write is next.idle next.inside next.whole some.1).0;
          done = λ n d' r' now none.
              served_by some.0 d' r' true some.1 e
              (subst (λ (after : JournalCounts). IsJournalOf f (with_change (with_change s.history (Written write)) Flushed) after d' r')
              (commits_law f (with_change s.history (Begun write)) (counts_with some.0) n d' r' now none)
              (flush_write_law f s.history (commits f.sections n (counts_with some.0)) d' r' write now none));
        }

pub no_room_law : NoRoomLaw
no_room_law f s d r k a first blocks fua is asked request full = no_room f s d r k a first blocks fua is asked request full

pub serve_write_law : ServeWriteLaw
serve_write_law f s d r k a first blocks fua is asked request next room e = serve_write f s d r k a first blocks fua is asked request next room e

pub serve_flushed_law : ServeFlushedLaw
serve_flushed_law f s d r k a first blocks fua is asked request next room e = serve_flushed f s d r k a first blocks fua is asked request next room e

pub failed_serve_law : FailedServeLaw
failed_serve_law f s d r k a first blocks fua is asked request room = failed_serve f s d r k a first blocks fua is asked request room

pub serve_flush_law : ServeFlushLaw
serve_flush_law f s k a n d' r' asked request idle now none =
    serve_keeps f s k a Flush (commit_all s.progress.journal) d' r' asked request refl
    (subst (λ (after : JournalCounts). IsJournalOf f (with_change s.history Flushed) after d' r') (commits_law f s.history s.progress.journal n d' r' now none)
    (flush_law f s.history (commits f.sections n s.progress.journal) d' r' now none idle))

pub serve_read_law : ServeReadLaw
serve_read_law f s d r k a first count is asked request = serve_keeps f s k a (Read first count) s.progress.journal d r asked request refl is

-- ---- steps

step-did : (p : Progress) (o : Option JournalCounts) → (step_journal p o).answer ≡ Did → (j : JournalCounts) × (o ≡ Some j)
step-did p None e = absurd (false≢true (ap (λ (a : Answer). is_did (Some a)) e))
step-did p (Some j) e = (j, refl)

step-idle : (p : Progress) (o : Option JournalCounts) → (step_journal p o).answer ≡ Idle → o ≡ None
step-idle p None e = refl
step-idle p (Some j) e = absurd (true≢false (ap (λ (a : Answer). is_did (Some a)) e))

stepped : (f : DeviceFormat) (s : DeviceState) (d : JournaledDisk) (r : JournalRing) (o : Option JournalCounts) (j : JournalCounts) → o ≡ Some j → IsJournalOf f s.history j d r
    → Keeps f s d r (step_journal s.progress o)
stepped f s d r o j e is = subst (λ (x : Option JournalCounts). Keeps f s d r (step_journal s.progress x)) (sym e) is

-- A device that is broken or closed does not answer that it did something.
did_works : (f : DeviceFormat) (s : DeviceState) (actor : Actor) → (event_result f s (Step actor)).answer ≡ Did → s.condition ≡ Working
did_works f s actor did = by_condition s.condition refl
  where
    by_condition : (c : Condition) → s.condition ≡ c → s.condition ≡ Working
    by_condition Working e = e
    by_condition Broken e = absurd (let wrong : IsBroken ≡ Did = sym (ap (λ (c : Condition). (result_in f s c (Step actor)).answer) e) ∙ did in cc)
    by_condition Closed e = absurd (let wrong : IsClosed ≡ Did = sym (ap (λ (c : Condition). (result_in f s c (Step actor)).answer) e) ∙ did in cc)

-- In journal mode a step of the journal is what the counts say.
module _ (f : DeviceFormat) (s : DeviceState) (d : JournaledDisk) (r : JournalRing) (is : IsJournalDevice f s d r) (work : s.condition ≡ Working) where
  in_journal : (o : Option JournalCounts) → step_journal s.progress (in_modes (is_journal f.mode) o) ≡ step_journal s.progress o
  in_journal o = ap (λ (m : Mode). step_journal s.progress (in_modes (is_journal m) o)) (mode-is f d.format is.format)

  commit-is : event_result f s (Step Commit) ≡ step_journal s.progress (commit f.sections s.progress.journal)
  commit-is = works f s (Step Commit) work ∙ in_journal (commit f.sections s.progress.journal)

  place-is : event_result f s (Step Place) ≡ step_journal s.progress (place s.progress.journal)
  place-is = works f s (Step Place) work ∙ in_journal (place s.progress.journal)

  settle-is : event_result f s (Step Settle) ≡ step_journal s.progress (settle s.progress.journal)
  settle-is = works f s (Step Settle) work ∙ in_journal (settle s.progress.journal)

abbrev answer_of : EventResult → Answer
answer_of result = result.answer

pub step_commit_law : StepCommitLaw
step_commit_law f s d r bytes is did are =
    let e = commit-is f s d r is (did_works f s Commit did) in
    let some = step-did s.progress (commit f.sections s.progress.journal) (sym (ap answer_of e) ∙ did) in
    let both = commit_law f s.history s.progress.journal some.0 d r bytes is some.1 are in
    (both.0, subst (Keeps f s _ _) (sym e) (stepped f s _ _ (commit f.sections s.progress.journal) some.0 some.1 both.1))

pub step_place_law : StepPlaceLaw
step_place_law f s d r is did =
    let e = place-is f s d r is (did_works f s Place did) in
    let some = step-did s.progress (place s.progress.journal) (sym (ap answer_of e) ∙ did) in
    let both = place_law f s.history s.progress.journal some.0 d r is some.1 in
    (both.0, subst (Keeps f s _ _) (sym e) (stepped f s _ _ (place s.progress.journal) some.0 some.1 both.1))

pub step_settle_law : StepSettleLaw
step_settle_law f s d r is did =
    let e = settle-is f s d r is (did_works f s Settle did) in
    let some = step-did s.progress (settle s.progress.journal) (sym (ap answer_of e) ∙ did) in
    subst (Keeps f s _ _) (sym e) (stepped f s _ _ (settle s.progress.journal) some.0 some.1 (settle_law f s.history s.progress.journal some.0 d r is some.1))

pub idle_law : IdleLaw
idle_law f s d r is work =
    let j = s.progress.journal in
    let commits_ = idle_commit_law f s.history j d r is in
    let places = idle_place_law f s.history j d r is in
    let answer = λ (o : Option JournalCounts). (step_journal s.progress o).answer in
    let of_commit = ap answer_of (commit-is f s d r is work) in
    let of_place = ap answer_of (place-is f s d r is work) in
    let of_settle = ap answer_of (settle-is f s d r is work) in
    record {
      none_opened = λ none. of_commit ∙ ap answer (commits_.0 none);
      commit_idle = λ idle. commits_.1 (step-idle s.progress (commit f.sections j) (sym of_commit ∙ idle));
      all_placed = λ all. of_place ∙ ap answer (places.0 all);
      place_idle = λ idle. places.1 (step-idle s.progress (place j) (sym of_place ∙ idle));
      settle_idle = λ idle. idle_settle_law f s.history j d r is (step-idle s.progress (settle j) (sym of_settle ∙ idle));
    }

-- ---- the others

pub quiet_law : QuietLaw
quiet_law f s event d r is none same =
    subst (λ (changes : List Change). IsJournalOf f (with_changes changes s.history) (event_result f s event).progress.journal d r) (sym none)
    (subst (λ (j : JournalCounts). IsJournalOf f s.history j d r) (sym same) is)

abbrev IsSame : Progress → EventResult → Type 0
IsSame p result = (result.changes ≡ []) × (result.progress.journal ≡ p.journal)

submit-same : (f : DeviceFormat) (p : Progress) (submission : Submission) → IsSame p (submit f p submission)
submit-same f p submission = by_refusal (option_or (form_refusal f submission) (slots_refusal f p.requests))
  where
    by_refusal : (o : Option Answer) → IsSame p (submit_by f p submission o)
    by_refusal None = (refl, refl)
    by_refusal (Some answer) = (refl, refl)

take-same : (p : Progress) (k : ℕ) (o : Option Asked) → IsSame p (take_asked p k o)
take-same p k None = (refl, refl)
take-same p k (Some a) = by_state a.state
  where
    by_state : (state : RequestState) → IsSame p (take_by p k a state)
    by_state Unfinished = (refl, refl)
    by_state Finished = (refl, refl)
    by_state Taken = (refl, refl)
    by_state Dropped = (refl, refl)

reply-same : (p : Progress) (ticket : ℕ) → IsSame p (take_reply p ticket)
reply-same p zero = (refl, refl)
reply-same p (suc k) = take-same p k (asked_of p.requests (suc k))

regions-same : (p : Progress) (o : Option RegionCounts) → IsSame p (step_regions p o)
regions-same p None = (refl, refl)
regions-same p (Some c) = (refl, refl)

working-same : (f : DeviceFormat) (s : DeviceState) (event : Event) → IsQuiet event → IsSame s.progress (working_result f s event)
working-same f s (Submit submission) quiet = submit-same f s.progress submission
working-same f s (Serve ticket) quiet = absurd quiet
working-same f s (Step Commit) quiet = absurd quiet
working-same f s (Step Place) quiet = absurd quiet
working-same f s (Step Settle) quiet = absurd quiet
working-same f s (Step Clean) quiet = regions-same s.progress (in_modes (is_bitmap f.mode) (clean f.regions (is_used f s.progress.requests) s.progress.regions))
working-same f s (Step Recalc) quiet = regions-same s.progress (in_modes (not (is_recovery f.mode)) (recalculate f.regions s.progress.regions))
working-same f s (Take ticket) quiet = reply-same s.progress ticket
working-same f s Close quiet = absurd quiet
working-same f s (FailedServe ticket) quiet = absurd quiet
working-same f s (FailedStep actor) quiet = (refl, refl)
working-same f s FailedClose quiet = (refl, refl)

broken-same : (p : Progress) (event : Event) → IsSame p (broken_result p event)
broken-same p (Take ticket) = reply-same p ticket
broken-same p (Submit submission) = (refl, refl)
broken-same p (Serve ticket) = (refl, refl)
broken-same p (Step actor) = (refl, refl)
broken-same p Close = (refl, refl)
broken-same p (FailedServe ticket) = (refl, refl)
broken-same p (FailedStep actor) = (refl, refl)
broken-same p FailedClose = (refl, refl)

event-same : (f : DeviceFormat) (s : DeviceState) (event : Event) (c : Condition) → IsQuiet event → IsSame s.progress (result_in f s c event)
event-same f s event Working quiet = working-same f s event quiet
event-same f s event Broken quiet = broken-same s.progress event
event-same f s event Closed quiet = (refl, refl)

pub quiet_events_law : QuietEventsLaw
quiet_events_law f s event d r is quiet =
    let same = event-same f s event s.condition quiet in
    quiet_law f s event d r is same.0 same.1

pub close_law : CloseLaw
close_law f s j' d' r' work idle is none =
    let closed = flush_law f s.history j' d' r' is none idle in
    let changes : (event_result f s Close).changes ≡ Flushed ∷ [] =
    ap (λ (result : EventResult). result.changes) (works f s Close work) ∙ ap (λ (m : Mode). if is_recovery m then [] else Flushed ∷ []) (mode-is f d'.format is.format) in
    subst (λ (xs : List Change). IsJournalOf f (with_changes xs s.history) j' d' r') (sym changes) closed

-- ---- a disk that fails

-- What a serve that fails has begun is nothing, or one write.
begun_left : (d : DiskFormat) (h : History) (changes : List Change) (image : Image) → h.pending ≡ None → IsLeftInJournal d h image → IsLeftInJournal d (with_changes (first_begun changes) h) image
begun_left d h [] image idle left = left
begun_left d h (Begun write ∷ changes) image idle left = journal_pending_law d h write image idle left
begun_left d h (Written write ∷ changes) image idle left = left
begun_left d h (Flushed ∷ changes) image idle left = left

pub failed_left_law : FailedLeftLaw
failed_left_law f s ticket d image idle left = by_condition s.condition
  where
    by_condition : (c : Condition) → IsLeftInJournal d (with_changes (result_in f s c (FailedServe ticket)).changes s.history) image
    by_condition Working = begun_left d s.history (serve f s ticket).changes image idle left
    by_condition Broken = left
    by_condition Closed = left
