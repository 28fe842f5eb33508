-- The counts of a device in direct mode through each event: no section is used, and no region begins to await.
use Rattle.std.proofs.Common.{◌≡◌, inl, inr, ℕ, zero, suc, ◌==◌, Bool, true, false, if◌then◌else◌, refl, sym, ◌∙◌, ap, subst, Option, Some, None, option_map, [], map}
use Rattle.std.specs.Option.{option_or}
use Rattle.std.proofs.lemmas.Bool.{cases_Bool, false≢true}
use Rattle.device_model.specs.Journal.{JournalCounts, as_committed}
use Rattle.device_model.specs.Mode.{Direct, DeviceFormat}
use Rattle.device_model.specs.Progress.{Progress, Condition, Working, Broken, Closed, DeviceState, Event, Submit, Serve, Step, Take, Close, FailedServe, FailedStep, FailedClose, Commit, Place, Settle, Clean, Recalc, Answer, Idle, EventResult, only_answers, submit_by, form_refusal, slots_refusal, is_flushed_by, journal_with, regions_with, serve_with, serve_unheld, serve_by, serve_asked, step_regions, take_by, take_asked, take_reply, working_result, broken_result, result_in, event_result}
use Rattle.device_model.specs.Regions.{with_region, recalculated_region, written_back, least_region}
use Rattle.device_model.specs.Request.{Request, Read, Write, Flush, Asked, RequestState, Unfinished, Finished, Taken, Dropped, asked_of, held_by}
use Rattle.place_model.specs.Format.{DiskFormat}
use Rattle.place_model.specs.Opened.{device_format}

-- What an event leaves: no section, and no region awaits that did not.
pub record KeepsCounts (p : Progress) (result : EventResult) : Type 0 where
  pub unused : result.progress.journal.sections ≡ []
  pub awaiting : (region : ℕ) → result.progress.regions.awaiting region ≡ true → p.regions.awaiting region ≡ true

-- A region that is recalculated awaits no more.
with_region-before : (r : ℕ) (awaiting : ℕ → Bool) (region : ℕ) → with_region r false awaiting region ≡ true → awaiting region ≡ true
with_region-before r awaiting region is = elim (cases_Bool (region == r)) [
  | inl here ↦ absurd (false≢true (sym (ap (λ (t : Bool). if t then false else awaiting region) here) ∙ is))
  | inr other ↦ sym (ap (λ (t : Bool). if t then false else awaiting region) other) ∙ is
]

module _ (d : DiskFormat) where
  abbrev pub direct : DeviceFormat
  direct = device_format Direct d

  module _ (s : DeviceState) (unused : s.progress.journal.sections ≡ []) where
    abbrev Keeps : EventResult → Type 0
    Keeps result = KeepsCounts s.progress result

    answers : (answer : Answer) → Keeps (only_answers s.progress answer)
    answers answer = record { unused = unused; awaiting = λ region is. is }

    -- ---- serve

    regions_if : (t : Bool) (r region : ℕ) → (if t then recalculated_region r s.progress.regions else s.progress.regions).awaiting region ≡ true → s.progress.regions.awaiting region ≡ true
    regions_if true r region is = with_region-before r s.progress.regions.awaiting region is
    regions_if false r region is = is

    back_if : (t : Bool) (region : ℕ) → (if t then written_back s.progress.regions else s.progress.regions).awaiting region ≡ true → s.progress.regions.awaiting region ≡ true
    back_if true region is = is
    back_if false region is = is

    regions_with-before : (a : Asked) (request : Request) (region : ℕ) → (regions_with direct s.progress a request).awaiting region ≡ true → s.progress.regions.awaiting region ≡ true
    regions_with-before a (Read first count) region is = regions_if _ _ region is
    regions_with-before a (Write first blocks fua) region is = back_if (is_flushed_by a blocks fua) region is
    regions_with-before a Flush region is = is

    -- A request always has room.
    pub journal_some : (a : Asked) (request : Request) → (j : JournalCounts) × (journal_with direct s.progress.journal a request ≡ Some j) × (j.sections ≡ [])
    journal_some a (Read first count) = (s.progress.journal, refl, unused)
    journal_some a (Write first blocks fua) = (s.progress.journal, refl, unused)
    journal_some a Flush = (record s.progress.journal { sections = map as_committed s.progress.journal.sections }, refl, ap (map as_committed) unused)

    served : (k : ℕ) (a : Asked) → Keeps (serve_with direct s k a (journal_with direct s.progress.journal a a.request))
    served k a =
        let some = journal_some a a.request in
        subst (λ (o : Option JournalCounts). Keeps (serve_with direct s k a o)) (sym some.1)
        (record { unused = some.2; awaiting = λ region is. regions_with-before a a.request region is })

    unheld : (k : ℕ) (a : Asked) (o : Option ℕ) → Keeps (serve_unheld direct s k a o)
    unheld k a (Some ticket) = answers _
    unheld k a None = served k a

    by_state : (k : ℕ) (a : Asked) (state : RequestState) → Keeps (serve_by direct s k a state)
    by_state k a Unfinished = unheld k a (held_by s.progress.requests k a.request)
    by_state k a Finished = answers _
    by_state k a Taken = answers _
    by_state k a Dropped = answers _

    asked : (k : ℕ) (o : Option Asked) → Keeps (serve_asked direct s k o)
    asked k None = answers _
    asked k (Some a) = by_state k a a.state

    -- ---- the others

    submitted : (submission : _) (o : Option Answer) → Keeps (submit_by direct s.progress submission o)
    submitted submission None = record { unused = unused; awaiting = λ region is. is }
    submitted submission (Some answer) = answers answer

    recalculated : (o : Option ℕ) → Keeps (step_regions s.progress (option_map (λ (r : ℕ). recalculated_region r s.progress.regions) o))
    recalculated None = answers Idle
    recalculated (Some r) = record { unused = unused; awaiting = λ region is. with_region-before r s.progress.regions.awaiting region is }

    take_state : (k : ℕ) (a : Asked) (state : RequestState) → Keeps (take_by s.progress k a state)
    take_state k a Unfinished = answers _
    take_state k a Finished = record { unused = unused; awaiting = λ region is. is }
    take_state k a Taken = answers _
    take_state k a Dropped = answers _

    take_one : (k : ℕ) (o : Option Asked) → Keeps (take_asked s.progress k o)
    take_one k None = answers _
    take_one k (Some a) = take_state k a a.state

    taken : (ticket : ℕ) → Keeps (take_reply s.progress ticket)
    taken zero = answers _
    taken (suc k) = take_one k (asked_of s.progress.requests (suc k))

    working : (event : Event) → Keeps (working_result direct s event)
    working (Submit submission) = submitted submission (option_or (form_refusal direct submission) (slots_refusal direct s.progress.requests))
    working (Serve zero) = answers _
    working (Serve (suc k)) = asked k (asked_of s.progress.requests (suc k))
    working (Step Commit) = answers Idle
    working (Step Place) = answers Idle
    working (Step Settle) = answers Idle
    working (Step Clean) = answers Idle
    working (Step Recalc) = recalculated (least_region direct.regions s.progress.regions.awaiting)
    working (Take ticket) = taken ticket
    working Close = record { unused = unused; awaiting = λ region is. is }
    working (FailedServe ticket) = record { unused = unused; awaiting = λ region is. is }
    working (FailedStep actor) = answers _
    working FailedClose = record { unused = unused; awaiting = λ region is. is }

    broken : (event : Event) → Keeps (broken_result s.progress event)
    broken (Take ticket) = taken ticket
    broken (Submit submission) = answers _
    broken (Serve ticket) = answers _
    broken (Step actor) = answers _
    broken Close = answers _
    broken (FailedServe ticket) = answers _
    broken (FailedStep actor) = answers _
    broken FailedClose = answers _

    in_condition : (c : Condition) (event : Event) → Keeps (result_in direct s c event)
    in_condition Working event = working event
    in_condition Broken event = broken event
    in_condition Closed event = answers _

    pub counts_kept : (event : Event) → KeepsCounts s.progress (event_result direct s event)
    counts_kept event = in_condition s.condition event
