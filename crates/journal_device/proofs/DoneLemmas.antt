-- After a call the device is the one after its event.
use Rattle.std.proofs.Common.{◌≡◌, ℕ, Bool, ◌++◌, List, [], ◌∷◌, length, take, None, Some, refl, sym, ◌∙◌, ap, subst, arith}
use Rattle.std.proofs.lemmas.List.{take_all}
use Rattle.disk_model.specs.Disk.{Content, EachImage}
use Rattle.disk_model.specs.Moments.{EachMoment, HasNow, content_now}
use Rattle.disk_model.proofs.MomentsLemmas.{content_at_end, no_moment}
use Rattle.device_model.specs.History.{Change, History, with_changes}
use Rattle.device_model.specs.Journal.{JournalCounts}
use Rattle.device_model.specs.Regions.{RegionCounts}
use Rattle.device_model.specs.Mode.{DeviceFormat}
use Rattle.device_model.specs.Progress as Model
use Rattle.device_model.proofs.ReachedLemmas.{IsReached-event}
use Rattle.device_model.proofs.SubmissionLemmas.{result-working}
use Rattle.place_model.specs.Format.{DiskFormat}
use Rattle.place_model.specs.Left.{IsLeftInJournal}
use Rattle.direct_laws.specs.MomentLaws.{IsLeftNow, IsLeftThrough}
use Rattle.direct_laws.proofs.DeviceLemmas.{idle-works}
use Rattle.journal_model.specs.JournaledDisk.{JournaledDisk}
use Rattle.recalculate_laws.specs.Formats.{AwaitsWork, IsFormatOf}
use Rattle.recalculate_laws.proofs.FormatsLemmas.{own_format_law}
use Rattle.recalculate_laws.proofs.PlacingLemmas.{placing_law}
use Rattle.recalculation.specs.declared.recalculating.Recalculation.{Recalculation}
use Rattle.recalculation.specs.Position.{CanBeWritten}
use Rattle.recalculation.specs.Recalculation.{IsRecalculationOf}
use Rattle.request_slots.specs.InFlight.{IsFlightOf}
use Rattle.tag_store.specs.Store.{Store, given_tags}
use Rattle.device_parts.specs.declared.condition.Condition.{Condition}
use Rattle.device_parts.specs.declared.condition.Condition.TheVariants as Conditions
use Rattle.device_parts.specs.declared.parts.Parts.{Parts}
use Rattle.device_parts.specs.Device.{condition_of}
use Rattle.journal_mode.specs.Journal.{PlacedRing}
use Rattle.journal_mode.specs.Standing.{JournalStanding, StandsAs, TagsPlaced}
use Rattle.journal_device.specs.Device.{IsOverDisk, IsWorking, JournaledStanding, awaiting_in, kind_on, standing_of, standing_then}
use Rattle.journal_device.proofs.OverDisk.{IsAfter, IsDoneOver}
use Rattle.journal_device.proofs.KindLemmas.{blocks_then, format_then, left_now, left_through, now_from, rule_then, standing_now}

-- ---- what is told

-- A disk that told its content tells it later.
pub record IsTold (moments : List Content) : Type 0 where
  pub content : Content
  pub is : content_now moments ≡ Some content

told_behind : (since before : List Content) (c : Content) → content_now before ≡ Some c → IsTold (since ++ before)
told_behind [] before c told = record { content = c; is = told }
told_behind (x ∷ since) before c told = record { content = x; is = refl }

pub told_then : {P : Content → Type 0} (a b : List Content) (c : Content) → content_now a ≡ Some c → EachMoment a b P → IsTold b
told_then a b c told moments = subst IsTold (sym moments.grows) (told_behind moments.since a c told)

-- ---- what a call keeps of a device that works

-- The regions that await stay where a call of the journal tells the tags that its store gives then.
pub working_then : (y z : JournalStanding) (awaiting : ℕ → Bool) (old new : PlacedRing) (recalculation : Recalculation) (store last : Store) (a b : List Content) → z.disk.format ≡ y.disk.format
    → IsWorking y awaiting old recalculation store a → StandsAs z new last b → TagsPlaced y.disk z.disk store last a b → IsWorking z awaiting new recalculation last b
working_then y z awaiting old new recalculation store last a b same is stands gives = record {
  stands = stands;
  keeps = placing_law y.disk z.disk awaiting (given_tags store) (given_tags last) a b same is.keeps gives (λ c told. stands.placed.cells.now c told);
  work = subst (λ (x : DiskFormat). AwaitsWork x awaiting) (sym same) is.work;
  recalc_ = subst (λ (x : DiskFormat). IsRecalculationOf x.superblock x.geometry awaiting recalculation) (sym same) is.recalc_;
  written = subst (λ (x : DiskFormat). CanBeWritten x.superblock) (sym same) is.written;
}

-- ---- an event that is done

module _ (w : JournaledStanding) (condition : Condition) (parts : Parts) (journal : PlacedRing) (recalculation : Recalculation) (a : List Content) (is : IsOverDisk w condition parts journal recalculation a) where
  -- The disk has its own format.
  pub own_format : IsFormatOf w.disk.format w.disk.format
  own_format = own_format_law w.disk.format is.no_bitmap

  -- Where a call leaves the device's disk in its format, the requests and the rule, the event is done.
  pub done : (event : Model.Event) (d : JournaledDisk) (now : Condition) (new : Parts) (j : PlacedRing) (r : Recalculation) (b : List Content) → IsFormatOf w.disk.format d.format
      → IsFlightOf w.format new.slots (Model.after_event w.format w.state event).progress.requests → new.maker ≡ parts.maker
      → (Model.after_event w.format w.state event).condition ≡ condition_of now
      → (now ≡ Conditions.Working → IsWorking (standing_of (standing_then w event d)) (awaiting_in (standing_then w event d)) j r new.tags b)
      → IsLeftThrough (kind_on w.disk.format) w.entry w.format w.state event a b
      → IsLeftNow (kind_on w.disk.format) w.entry (Model.after_event w.format w.state event).history b
      → IsAfter w event now new j r a b
  done event d now new j r b same flight maker condition_is works through left =
      let told = told_then a b is.told is.is_told through.opens in
      record {
        disk = d;
        format = same;
        device = record {
          reached = IsReached-event w.format w.state event is.reached;
          format = is.format ∙ sym (format_then w.disk.format d.format same);
          no_bitmap = same.no_bitmap;
          opened = blocks_then w.disk.format d.format same w.entry is.opened;
          flight = flight;
          rule = maker ∙ is.rule ∙ sym (rule_then w.disk.format d.format same);
          condition_ = condition_is;
          told = told.content;
          is_told = told.is;
          works = works;
          left = now_from w.disk.format d.format same w.entry (Model.after_event w.format w.state event).history b left;
        };
        through = through;
      }

  -- So is one that changes nothing of the history, and calls no disk.
  pub quiet_done : (event : Model.Event) (new : Parts) → (Model.event_result w.format w.state event).changes ≡ []
      → IsFlightOf w.format new.slots (Model.after_event w.format w.state event).progress.requests → new.maker ≡ parts.maker → new.tags ≡ parts.tags
      → (Model.event_result w.format w.state event).progress.journal ≡ w.state.progress.journal
      → (Model.event_result w.format w.state event).progress.regions ≡ w.state.progress.regions
      → (Model.after_event w.format w.state event).condition ≡ w.state.condition → IsAfter w event condition new journal recalculation a a
  quiet_done event new none flight maker tags counts regions same =
      let history : w.state.history ≡ (Model.after_event w.format w.state event).history = sym (ap (λ (xs : List Change). with_changes xs w.state.history) none) in
      done event w.disk condition new journal recalculation a own_format flight maker (same ∙ is.condition_)
      (λ works.
      subst (λ (h : History). IsWorking (record (standing_of (standing_then w event w.disk)) { history = h }) (awaiting_in (standing_then w event w.disk)) journal recalculation new.tags a) history
      (subst (λ (j : JournalCounts). IsWorking (record (standing_of w) { counts = j }) (awaiting_in (standing_then w event w.disk)) journal recalculation new.tags a) (sym counts)
      (subst (λ (c : RegionCounts). IsWorking (standing_of w) c.awaiting journal recalculation new.tags a) (sym regions)
      (subst (λ (x : Store). IsWorking (standing_of w) (awaiting_in w) journal recalculation x a) (sym tags) (is.works works)))))
      (record { opens = no_moment a _; left = no_moment a _ })
      (subst (λ (h : History). IsLeftNow (kind_on w.disk.format) w.entry h a) history is.left)

  -- So is one that only answers.
  pub only_done : (event : Model.Event) (answer : Model.Answer) → Model.event_result w.format w.state event ≡ Model.only_answers w.state.progress answer
      → (Model.after_event w.format w.state event).condition ≡ w.state.condition → IsDoneOver w event answer condition parts journal recalculation a a
  only_done event answer told same = record {
    answers = ap (λ (x : Model.EventResult). x.answer) told;
    done = quiet_done event parts (ap (λ (x : Model.EventResult). x.changes) told)
        (subst (λ (x : Model.EventResult). IsFlightOf w.format parts.slots x.progress.requests) (sym told) is.flight) refl refl
        (ap (λ (x : Model.EventResult). x.progress.journal) told) (ap (λ (x : Model.EventResult). x.progress.regions) told) same;
  }

-- ---- a device that works

module _ (w : JournaledStanding) (parts : Parts) (journal : PlacedRing) (recalculation : Recalculation) (a : List Content) (is : IsOverDisk w Conditions.Working parts journal recalculation a) where
  abbrev f : DeviceFormat
  f = w.format

  abbrev s : Model.DeviceState
  s = w.state

  pub works_now : IsWorking (standing_of w) (awaiting_in w) journal recalculation parts.tags a
  works_now = is.works refl

  pub stands_now : StandsAs (standing_of w) journal parts.tags a
  stands_now = works_now.stands

  pub idle_now : s.history.pending ≡ None
  idle_now = idle-works f s is.reached is.condition_

  pub working-is : (event : Model.Event) → Model.event_result f s event ≡ Model.working_result f s event
  working-is event = result-working f s event is.condition_

  -- What the journal stands for after a result.
  abbrev pub standing_with : Model.EventResult → JournaledDisk → JournalStanding
  standing_with x d = record { format = w.format; history = with_changes x.changes w.state.history; counts = x.progress.journal; disk = d }

  -- An event that leaves the device working, and whose images are left by some of its changes.
  pub left_done : (event : Model.Event) (x : Model.EventResult) → Model.event_result f s event ≡ x → (Model.after_event f s event).condition ≡ Model.Working
      → (d : JournaledDisk) → d.format ≡ w.disk.format → (new : Parts) (j : PlacedRing) (r : Recalculation) (b : List Content)
      → IsFlightOf f new.slots x.progress.requests → new.maker ≡ parts.maker
      → IsWorking (standing_with x d) x.progress.regions.awaiting j r new.tags b → (kept : ℕ) (h : History) → h ≡ with_changes (take kept x.changes) s.history → EachMoment a b (EachImage (IsLeftInJournal w.disk.format h))
      → IsAfter w event Conditions.Working new j r a b
  left_done event x told works d same new j r b flight maker working kept h within m =
      let now = subst (λ (y : DiskFormat). HasNow (EachImage (IsLeftInJournal y (with_changes x.changes s.history))) b) same (standing_now (standing_with x d) j new.tags b working.stands) in
      done w Conditions.Working parts journal recalculation a is event d Conditions.Working new j r b
      (subst (IsFormatOf w.disk.format) (sym same) (own_format w Conditions.Working parts journal recalculation a is))
      (subst (λ (y : Model.EventResult). IsFlightOf f new.slots y.progress.requests) (sym told) flight) maker works
      (λ _. subst (λ (y : Model.EventResult). IsWorking (standing_with y d) y.progress.regions.awaiting j r new.tags b) (sym told) working)
      (left_through w.disk.format w.entry is.opened is.no_bitmap f s event kept h (within ∙ ap (λ (y : Model.EventResult). with_changes (take kept y.changes) s.history) (sym told)) m)
      (subst (λ (y : Model.EventResult). IsLeftNow (kind_on w.disk.format) w.entry (with_changes y.changes s.history) b) (sym told)
      (left_now w.disk.format w.entry is.opened is.no_bitmap (with_changes x.changes s.history) b now))

  -- So is one that takes no region out of those that await.
  pub working_done : (event : Model.Event) (x : Model.EventResult) → Model.event_result f s event ≡ x → (Model.after_event f s event).condition ≡ Model.Working
      → (d : JournaledDisk) → d.format ≡ w.disk.format → (new : Parts) (j : PlacedRing) (b : List Content)
      → IsFlightOf f new.slots x.progress.requests → new.maker ≡ parts.maker → x.progress.regions.awaiting ≡ s.progress.regions.awaiting
      → StandsAs (standing_with x d) j new.tags b → TagsPlaced w.disk d parts.tags new.tags a b
      → (kept : ℕ) (h : History) → h ≡ with_changes (take kept x.changes) s.history → EachMoment a b (EachImage (IsLeftInJournal w.disk.format h))
      → IsAfter w event Conditions.Working new j recalculation a b
  working_done event x told works d same new j b flight maker awaiting stands gives kept h within m =
      left_done event x told works d same new j recalculation b flight maker
      (subst (λ (regions : ℕ → Bool). IsWorking (standing_with x d) regions j recalculation new.tags b) (sym awaiting)
      (working_then (standing_of w) (standing_with x d) (awaiting_in w) journal j recalculation parts.tags new.tags a b same works_now stands gives))
      kept h within m

  -- All changes of an event are some of them.
  pub ended_through : (event : Model.Event) (x : Model.EventResult) → Model.event_result f s event ≡ x → {b : List Content}
      → EachMoment a b (EachImage (IsLeftInJournal w.disk.format (with_changes x.changes s.history))) → IsLeftThrough (kind_on w.disk.format) w.entry f s event a b
  ended_through event x told m =
      left_through w.disk.format w.entry is.opened is.no_bitmap f s event (length x.changes) (with_changes x.changes s.history)
      (ap (λ (xs : List Change). with_changes xs s.history) (sym (take_all (length x.changes) x.changes (omega arith)))
      ∙ ap (λ (y : Model.EventResult). with_changes (take (length x.changes) y.changes) s.history) (sym told)) m

  -- Nothing is told of the journal and the regions of a device that is broken.
  pub not_working : {P : Type 0} → Conditions.Broken ≡ Conditions.Working → P
  not_working same = absurd (subst (λ (c : Condition). elim c as (λ _. Type 0) [ Conditions.Working ↦ ⊥ | Conditions.Broken ↦ Unit {0} ]) same tt)

  -- An event in which the disk fails, whose images are left by its history.
  pub broken_done : (event : Model.Event) (x : Model.EventResult) → Model.event_result f s event ≡ x → (Model.after_event f s event).condition ≡ Model.Broken
      → (new : Parts) (j : PlacedRing) (r : Recalculation) (b : List Content) → IsFlightOf f new.slots x.progress.requests → new.maker ≡ parts.maker
      → HasNow (EachImage (IsLeftInJournal w.disk.format (with_changes x.changes s.history))) a
      → EachMoment a b (EachImage (IsLeftInJournal w.disk.format (with_changes x.changes s.history)))
      → IsAfter w event Conditions.Broken new j r a b
  broken_done event x told broken new j r b flight maker now m =
      done w Conditions.Working parts journal recalculation a is event w.disk Conditions.Broken new j r b (own_format w Conditions.Working parts journal recalculation a is)
      (subst (λ (y : Model.EventResult). IsFlightOf f new.slots y.progress.requests) (sym told) flight) maker broken
      (λ same. not_working same) (ended_through event x told m)
      (subst (λ (y : Model.EventResult). IsLeftNow (kind_on w.disk.format) w.entry (with_changes y.changes s.history) b) (sym told)
      (left_now w.disk.format w.entry is.opened is.no_bitmap (with_changes x.changes s.history) b (content_at_end m now)))
