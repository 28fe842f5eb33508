-- The steps of the actors, the end of a device, and the events that call no disk.
use Rattle.std.proofs.Common.{◌≡◌, if◌then◌else◌, List, [], ◌∷◌, Option, None, Some, refl, sym, ◌∙◌, ap, subst}
use Rattle.disk_model.specs.Disk.{Content, EachImage}
use Rattle.disk_model.specs.Moments.{HasNow}
use Rattle.disk_model.proofs.MomentsLemmas.{content_at_end}
use Rattle.device_model.specs.History.{Change, Flushed, with_change, with_changes}
use Rattle.device_model.specs.Journal.{JournalCounts, commit, place, settle}
use Rattle.device_model.specs.Mode.{DeviceFormat, is_journal, is_bitmap, is_recovery}
use Rattle.device_model.specs.Progress as Model
use Rattle.device_model.specs.Regions.{clean}
use Rattle.place_model.specs.Format.{DiskFormat}
use Rattle.place_model.specs.Left.{IsLeftInJournal}
use Rattle.direct_laws.specs.MomentLaws.{IsLeftNow}
use Rattle.journal_model.specs.JournaledDisk.{JournaledDisk}
use Rattle.journal_model.specs.Ring.{next_batch}
use Rattle.journal_model.specs.Steps.{after_commit, after_place, after_settle}
use Rattle.journal_ring.specs.declared.ring.Moved.{Moved}
use Rattle.journal_ring.specs.declared.ring.Moved.TheVariants as JournalMoves
use Rattle.request_slots.specs.Flight.{Flight}
use Rattle.request_slots.specs.InFlight.{IsFlightOf}
use Rattle.device_parts.specs.declared.condition.Condition.TheVariants as Conditions
use Rattle.device_parts.specs.declared.parts.Parts.{Parts}
use Rattle.device_parts.specs.Answers.{moved_answer}
use Rattle.journal_mode.specs.Closing.{HasClosed}
use Rattle.journal_mode.specs.Commits.{CommitsAs}
use Rattle.journal_mode.specs.Moves.{PlacesAs, SettlesAs}
use Rattle.journal_mode.specs.Journal.{PlacedRing}
use Rattle.journal_mode.specs.Standing.{IsLeftThrough, JournalStanding, StandsAs, TagsPlaced}
use Rattle.recalculation.specs.declared.recalculating.Recalculation.{Recalculation}
use Rattle.tag_store.specs.Store.{Store}
use Rattle.journal_device.specs.Answers.{moved_as}
use Rattle.journal_device.specs.Device.{IsOverDisk, JournaledStanding, QuietLaw, kind_on, standing_of, standing_on}
use Rattle.journal_device.specs.Recalculating.{HasStepped}
use Rattle.journal_device.proofs.RecalcLemmas.{recalc_did, recalc_idle}
use Rattle.journal_device.proofs.OverDisk.{EndsOver, IsAfter, IsDoneOver, done_on}
use Rattle.journal_device.proofs.DoneLemmas.{broken_done, only_done, quiet_done, stands_now, working_done, working-is}
use Rattle.journal_device.proofs.KindLemmas.{left_now, left_through, standing_now}

-- ---- a device that works

module _ (w : JournaledStanding) (parts : Parts) (journal : PlacedRing) (recalculation : Recalculation) (a : List Content) (is : IsOverDisk w Conditions.Working parts journal recalculation a) where
  abbrev f : DeviceFormat
  f = w.format

  abbrev s : Model.DeviceState
  s = w.state

  abbrev y : JournalStanding
  y = standing_of w

  -- ---- steps

  -- A step that did something to the counts of the journal,
  pub step_did : (actor : Model.Actor) (counts : JournalCounts) (d : JournaledDisk) (new : Parts) (p : PlacedRing) (b : List Content)
      → Model.event_result f s (Model.Step actor) ≡ Model.only_answers (record s.progress { journal = counts }) Model.Did → d.format ≡ w.disk.format
      → new.slots ≡ parts.slots → new.maker ≡ parts.maker → StandsAs (record { format = f; history = s.history; counts = counts; disk = d }) p new.tags b
      → TagsPlaced w.disk d parts.tags new.tags a b → IsLeftThrough y a b
      → IsDoneOver w (Model.Step actor) Model.Did Conditions.Working new p recalculation a b
  step_did actor counts d new p b told same slots maker stands gives m = record {
    answers = ap (λ (x : Model.EventResult). x.answer) told;
    done = working_done w parts journal recalculation a is (Model.Step actor) (Model.only_answers (record s.progress { journal = counts }) Model.Did) told is.condition_ d same new p b
        (subst (λ (x : Flight). IsFlightOf f x s.progress.requests) (sym slots) is.flight) maker refl stands gives 0 s.history refl m;
  }

  -- and one that found nothing to do.
  pub step_idle : (actor : Model.Actor) (new : Parts) (p : PlacedRing) (b : List Content) → Model.event_result f s (Model.Step actor) ≡ Model.only_answers s.progress Model.Idle
      → new.slots ≡ parts.slots → new.maker ≡ parts.maker → StandsAs y p new.tags b → TagsPlaced w.disk w.disk parts.tags new.tags a b → IsLeftThrough y a b
      → IsDoneOver w (Model.Step actor) Model.Idle Conditions.Working new p recalculation a b
  step_idle actor new p b told slots maker stands gives m = record {
    answers = ap (λ (x : Model.EventResult). x.answer) told;
    done = working_done w parts journal recalculation a is (Model.Step actor) (Model.only_answers s.progress Model.Idle) told is.condition_ w.disk refl new p b
        (subst (λ (x : Flight). IsFlightOf f x s.progress.requests) (sym slots) is.flight) maker refl stands gives 0 s.history refl m;
  }

  -- One in which the disk fails leaves the history.
  pub step_failed : (actor : Model.Actor) (new : Parts) (p : PlacedRing) (b : List Content) → new.slots ≡ parts.slots → new.maker ≡ parts.maker → IsLeftThrough y a b
      → IsAfter w (Model.FailedStep actor) Conditions.Broken new p recalculation a b
  step_failed actor new p b slots maker m =
      broken_done w parts journal recalculation a is (Model.FailedStep actor) (Model.only_answers s.progress Model.DiskFailed) (working-is w parts journal recalculation a is (Model.FailedStep actor)) (ap Model.after_failure is.condition_) new p recalculation b
      (subst (λ (x : Flight). IsFlightOf f x s.progress.requests) (sym slots) is.flight) maker (standing_now y journal parts.tags a (stands_now w parts journal recalculation a is)) m

  -- What the journal has to do, in journal mode.
  pub journal_step : (actor : Model.Actor) (found : Option JournalCounts) → Model.step f s.progress actor ≡ Model.step_journal s.progress (Model.in_modes (is_journal f.mode) found)
      → (o : Option JournalCounts) → found ≡ o → Model.event_result f s (Model.Step actor) ≡ Model.step_journal s.progress o
  journal_step actor found steps o is_o =
      working-is w parts journal recalculation a is (Model.Step actor) ∙ steps ∙ ap (λ (x : DeviceFormat). Model.step_journal s.progress (Model.in_modes (is_journal x.mode) found)) is.format
      ∙ ap (Model.step_journal s.progress) is_o

  -- What a commit, a place or a settle did.
  abbrev pub Steps : Model.Actor → Moved → Parts → PlacedRing → List Content → Type 0
  Steps actor moved new p b = IsDoneOver w (Model.Step actor) (moved_answer (moved_as moved)) Conditions.Working new p recalculation a b

  -- A commit leaves the store.
  pub commit_step : (moved : Moved) (p : PlacedRing) (b : List Content) → CommitsAs moved y journal p parts.tags a b → IsLeftThrough y a b → Steps Model.Commit moved parts p b
  commit_step JournalMoves.Did p b has m =
      step_did Model.Commit has.counts (after_commit w.disk (next_batch journal.ring) has.bytes) parts p b
      (journal_step Model.Commit (commit f.sections s.progress.journal) refl (Some has.counts) has.counts_are) refl refl refl has.stands has.gives m
  commit_step JournalMoves.Idle p b has m =
      step_idle Model.Commit parts p b (journal_step Model.Commit (commit f.sections s.progress.journal) refl None has.none) refl refl has.stands has.gives m

  pub place_step : (moved : Moved) (new : Parts) (p : PlacedRing) (b : List Content) → new.slots ≡ parts.slots → new.maker ≡ parts.maker
      → PlacesAs moved y p parts.tags new.tags a b → IsLeftThrough y a b → Steps Model.Place moved new p b
  place_step JournalMoves.Did new p b slots maker has m =
      step_did Model.Place has.counts (after_place w.disk) new p b (journal_step Model.Place (place s.progress.journal) refl (Some has.counts) has.counts_are) refl slots maker has.stands has.gives m
  place_step JournalMoves.Idle new p b slots maker has m =
      step_idle Model.Place new p b (journal_step Model.Place (place s.progress.journal) refl None has.none) slots maker has.stands has.gives m

  pub settle_step : (moved : Moved) (new : Parts) (p : PlacedRing) (b : List Content) → new.slots ≡ parts.slots → new.maker ≡ parts.maker
      → SettlesAs moved y p parts.tags new.tags a b → IsLeftThrough y a b → Steps Model.Settle moved new p b
  settle_step JournalMoves.Did new p b slots maker has m =
      step_did Model.Settle has.counts (after_settle w.disk) new p b (journal_step Model.Settle (settle s.progress.journal) refl (Some has.counts) has.counts_are) refl slots maker has.stands has.gives m
  settle_step JournalMoves.Idle new p b slots maker has m =
      step_idle Model.Settle new p b (journal_step Model.Settle (settle s.progress.journal) refl None has.none) slots maker has.stands has.gives m

  -- The last actor has nothing to do.
  pub clean_step : IsDoneOver w (Model.Step Model.Clean) Model.Idle Conditions.Working parts journal recalculation a a
  clean_step =
      only_done w Conditions.Working parts journal recalculation a is (Model.Step Model.Clean) Model.Idle
      (working-is w parts journal recalculation a is (Model.Step Model.Clean)
      ∙ ap (λ (x : DeviceFormat). Model.step_regions s.progress (Model.in_modes (is_bitmap x.mode) (clean f.regions (Model.is_used f s.progress.requests) s.progress.regions))) is.format) refl

  -- ---- the end

  -- All is flushed by a close.
  close_flushes : (Model.event_result w.format w.state Model.Close).changes ≡ Flushed ∷ []
  close_flushes =
      ap (λ (x : Model.EventResult). x.changes) (working-is w parts journal recalculation a is Model.Close) ∙ ap (λ (x : DeviceFormat). if is_recovery x.mode then [] else Flushed ∷ []) is.format

  -- Where it ends with the journal,
  pub close_done : (new : Parts) (p : PlacedRing) (b : List Content) → HasClosed y p parts.tags new.tags a b → IsLeftThrough y a b → EndsOver w Model.Close Model.IsClosed a b
  close_done new p b closed m = record {
    answers = ap (λ (x : Model.EventResult). x.answer) (working-is w parts journal recalculation a is Model.Close);
    through = left_through w.disk.format w.entry is.opened is.no_bitmap f s Model.Close 0 s.history refl m;
    left = subst (λ (xs : List Change). IsLeftNow (kind_on w.disk.format) w.entry (with_changes xs s.history) b) (sym close_flushes)
        (left_now w.disk.format w.entry is.opened is.no_bitmap (with_change s.history Flushed) b
        (subst (λ (d : DiskFormat). HasNow (EachImage (IsLeftInJournal d (with_change s.history Flushed))) b) closed.format
        (standing_now (record { format = f; history = with_change s.history Flushed; counts = closed.counts; disk = closed.disk }) p new.tags b closed.stands)));
  }

  -- and where the disk fails in that.
  pub close_failed : (b : List Content) → IsLeftThrough y a b → EndsOver w Model.FailedClose Model.DiskFailed a b
  close_failed b m =
      let told = working-is w parts journal recalculation a is Model.FailedClose in
      record {
        answers = ap (λ (x : Model.EventResult). x.answer) told;
        through = left_through w.disk.format w.entry is.opened is.no_bitmap f s Model.FailedClose 0 s.history refl m;
        left = subst (λ (x : Model.EventResult). IsLeftNow (kind_on w.disk.format) w.entry (with_changes x.changes s.history) b) (sym told)
            (left_now w.disk.format w.entry is.opened is.no_bitmap s.history b (content_at_end m (standing_now y journal parts.tags a (stands_now w parts journal recalculation a is))));
      }

-- A recalculation, by what it did.
pub recalc_step : {A : Type 0} (w : JournaledStanding) (parts : Parts) (journal : PlacedRing) (recalculation new : Recalculation) (last : Store) (moments : A → List Content) (first final : A) (moved : Moved)
    → IsOverDisk w Conditions.Working parts journal recalculation (moments first) → last.geometry ≡ parts.tags.geometry
    → HasStepped moved parts.maker recalculation new parts.tags last moments first final
    → IsDoneOver w (Model.Step Model.Recalc) (moved_answer (moved_as moved)) Conditions.Working (record parts { tags = last }) journal new (moments first) (moments final)
recalc_step w parts journal recalculation new last moments first final JournalMoves.Did is same has =
    recalc_did w parts journal recalculation (moments first) is has.region has.least new last (moments final) same has.steps
recalc_step w parts journal recalculation new last moments first final JournalMoves.Idle is same has =
    subst (λ (r : Recalculation). IsDoneOver w (Model.Step Model.Recalc) Model.Idle Conditions.Working (record parts { tags = last }) journal r (moments first) (moments final)) (sym has.recalc_)
    (subst (λ (x : Store). IsDoneOver w (Model.Step Model.Recalc) Model.Idle Conditions.Working (record parts { tags = x }) journal recalculation (moments first) (moments final)) (sym has.store_)
    (subst (λ (b : List Content). IsDoneOver w (Model.Step Model.Recalc) Model.Idle Conditions.Working parts journal recalculation (moments first) b) (sym (ap moments has.disk))
    (recalc_idle w parts journal recalculation (moments first) is has.none)))

-- ---- for callers

pub quiet_kept_law : QuietLaw
quiet_kept_law w condition device flight moments event is none counts regions own same =
    let new : Parts = record device.parts { slots = flight } in
    done_on w is.disk is.format event condition new device.state.journal device.state.recalculation moments moments
    (quiet_done (standing_on w is.disk) condition device.parts device.state.journal device.state.recalculation moments is.over event new none own refl refl counts regions same)
