-- What a step does: a bit is cleared, a region is recalculated, or nothing is done.
use Rattle.std.proofs.Common.{◌≡◌, ℕ, ◌<◌, ◌&&◌, not, Bool, true, false, List, [], Option, Some, None, refl, sym, ◌∙◌, ap, subst}
use Rattle.std.proofs.lemmas.Bool.{and_parts}
use Rattle.disk_model.specs.Disk.{Content}
use Rattle.disk_model.specs.Identity.{DiskIdentity}
use Rattle.image_model.specs.Geometry.{Geometry, region_of, regions}
use Rattle.device_model.specs.Cut.{all_writes}
use Rattle.device_model.specs.History.{Change, with_changes}
use Rattle.device_model.specs.Mode.{DeviceFormat}
use Rattle.device_model.specs.Progress as Model
use Rattle.device_model.specs.Regions.{RegionCounts, least_region}
use Rattle.device_model.proofs.SubmissionLemmas.{result-working}
use Rattle.bitmap_model.specs.BitmapDisk.{BitmapDisk}
use Rattle.bitmap_model.specs.Steps.{after_recalculation, with_clear}
use Rattle.bitmap_laws.specs.CallLaws.{StandsThrough}
use Rattle.bitmap_laws.specs.EventLaws.{may_be_cleared}
use Rattle.bitmap_laws.specs.ServeLaws.{KeepsDevice}
use Rattle.bitmap_laws.proofs.EventLemmas.{clean_idle_law, clean_law, quiet_events_law, recalc_idle_law, recalc_law}
use Rattle.bitmap_laws.proofs.LeastLemmas.{least_found, least_law}
use Rattle.request_slots.specs.Flight.{Flight}
use Rattle.request_slots.specs.InFlight.{IsFlightOf}
use Rattle.device_model.specs.declared.actor.Actor.TheVariants as Actors
use Rattle.device_parts.specs.declared.condition.Condition.TheVariants as Conditions
use Rattle.device_parts.specs.declared.parts.Parts.{Parts}
use Rattle.device_parts.specs.Device.{Standing}
use Rattle.bitmap_mode.specs.Cleaning.{is_held, may_be_cleaned}
use Rattle.bitmap_mode.specs.declared.spans.RegionSpan.{RegionSpan}
use Rattle.bitmap_mode.specs.Reading.{IsTaken, StandsInTaking}
use Rattle.bitmap_mode.specs.Standing.{Leaves, StandsAs, StandsIn}
use Rattle.bitmap_mode.specs.States.{HasCounts, States, counts_cleaned, counts_of, least_awaiting, may_be_clean}
use Rattle.device_model.specs.Regions.{recalculated_region}
use Rattle.bitmap_mode.proofs.DeviceLemmas.{clean_chosen, cleaned, recalculated, recalculated_chosen}
use Rattle.bitmap_device.specs.Answers.{is_held_by, is_to_clean, least_to_clean, steps_left}
use Rattle.bitmap_device.specs.Device.{BitmapStanding, IsOverDisk, IsReady, KeepsTagsBy, kept, marked_on, standing_on}
use Rattle.recalculation.proofs.StepLemmas.{regions_fewer}
use Rattle.bitmap_device.proofs.HeldLemmas.{held_is_used}
use Rattle.bitmap_device.proofs.OverDisk.{IsAfter, IsDoneOver, done, not_working, only_done, stands, stands_with, still, works}
use Rattle.bitmap_device.proofs.TagLemmas.{tags_through, tags_unwritten}

-- ---- what is chosen, and how many are left

-- The least region that no span has is the one that no request holds.
pub least_held : (parts : Parts) (s : States) (held : List RegionSpan) → ((region : ℕ) → is_held held region ≡ is_held_by s.geometry parts.slots region)
    → (o : Option ℕ) → o ≡ least_region (regions s.geometry) (may_be_cleaned (counts_of s) (is_held held)) → o ≡ least_to_clean parts s
least_held parts s held same o is =
    is ∙ least_law (regions s.geometry) (may_be_cleaned (counts_of s) (is_held held)) (is_to_clean parts s)
    (λ region low. ap (λ (t : Bool). may_be_clean (counts_of s) region && not t) (same region))

-- It is one of the regions, its bit is set, and it needs none.
pub record IsToClean (s : States) (region : ℕ) : Type 0 where
  pub low : region < regions s.geometry
  pub rests : may_be_clean (counts_of s) region ≡ true
  pub is_set : (counts_of s).set_bits region ≡ true

pub chosen_rests : (s : States) (held : ℕ → Bool) (region : ℕ) (o : Option ℕ) → o ≡ least_region (regions s.geometry) (may_be_cleaned (counts_of s) held) → o ≡ Some region → IsToClean s region
chosen_rests s held region o is e =
    let c = counts_of s in
    let found = least_found (regions s.geometry) (may_be_cleaned c held) region (sym is ∙ e) in
    let rests = (and_parts (may_be_clean c region) (not (held region)) found.1).0 in
    record { low = found.0; rests = rests; is_set = set_first (c.set_bits region) (c.awaiting region) (c.fresh region) rests }
  where
    set_first : (set awaits fresh : Bool) → (set && not awaits && not fresh) ≡ true → set ≡ true
    set_first true awaits fresh e = refl
    set_first false awaits fresh e = e

pub clean_fewer : (old new : States) (region : ℕ) → IsToClean old region → new.geometry ≡ old.geometry → HasCounts new old.geometry (counts_cleaned region old)
    → steps_left Actors.Clean new < steps_left Actors.Clean old
clean_fewer old new region is same counts =
    subst (λ (g : Geometry). steps_left Actors.Clean (record new { geometry = g }) < steps_left Actors.Clean old) (sym same)
    (regions_fewer old.geometry (counts_of old).set_bits (counts_of new).set_bits region is.low is.is_set counts.set_bits)

pub recalc_fewer : (old new : States) (region : ℕ) → least_awaiting old ≡ Some region → new.geometry ≡ old.geometry → HasCounts new old.geometry (recalculated_region region (counts_of old))
    → steps_left Actors.Recalc new < steps_left Actors.Recalc old
recalc_fewer old new region least same counts =
    let found = least_found (regions old.geometry) (counts_of old).awaiting region least in
    subst (λ (g : Geometry). steps_left Actors.Recalc (record new { geometry = g }) < steps_left Actors.Recalc old) (sym same)
    (regions_fewer old.geometry (counts_of old).awaiting (counts_of new).awaiting region found.0 found.1 counts.awaiting)

-- ---- the events

regions_requests : (p : Model.Progress) (o : Option RegionCounts) → (Model.step_regions p o).progress.requests ≡ p.requests
regions_requests p None = refl
regions_requests p (Some c) = refl

regions_changes : (p : Model.Progress) (o : Option RegionCounts) → (Model.step_regions p o).changes ≡ []
regions_changes p None = refl
regions_changes p (Some c) = refl

module _ (w : BitmapStanding) (parts : Parts) (states : States) (a : List Content) (is : IsOverDisk w Conditions.Working parts states a) where
  abbrev f : DeviceFormat
  f = w.format

  abbrev s : Model.DeviceState
  s = w.state

  abbrev d : BitmapDisk
  d = w.disk

  works_now : s.condition ≡ Model.Working
  works_now = works w parts states a is

  -- A step that did something is done,
  did : (actor : Model.Actor) (then_ : BitmapDisk) (new : Parts) (now : States) (b : List Content) → (Model.after_event f s (Model.Step actor)).progress.requests ≡ s.progress.requests
      → (Model.event_result f s (Model.Step actor)).answer ≡ Model.Did → KeepsDevice f s (Model.Step actor) w.entry d then_ a b → then_.format ≡ d.format
      → new.slots ≡ parts.slots → new.maker ≡ parts.maker → StandsAs then_ (marked_on w) now new.tags b
      → IsDoneOver w (Model.Step actor) Model.Did Conditions.Working new now a b
  did actor then_ new now b requests answer keeps same slots maker has = record {
    answers = answer;
    done = done w Conditions.Working parts states a is (Model.Step actor) then_ Conditions.Working new now b keeps same
        (subst (λ (x : Flight). IsFlightOf f x (Model.after_event f s (Model.Step actor)).progress.requests) (sym slots)
        (rw requests is.flight)) maker works_now (λ _. has);
  }

  failed-requests : (actor : Model.Actor) → (Model.after_event f s (Model.FailedStep actor)).progress.requests ≡ s.progress.requests
  failed-requests actor = ap (λ (x : Model.EventResult). x.progress.requests) (result-working f s (Model.FailedStep actor) works_now)

  -- and so is one in which the disk fails.
  failed : (actor : Model.Actor) (then_ : BitmapDisk) (new : Parts) (now : States) (b : List Content) → KeepsDevice f s (Model.FailedStep actor) w.entry d then_ a b → then_.format ≡ d.format
      → new.slots ≡ parts.slots → new.maker ≡ parts.maker → IsAfter w (Model.FailedStep actor) Conditions.Broken new now a b
  failed actor then_ new now b keeps same slots maker =
      done w Conditions.Working parts states a is (Model.FailedStep actor) then_ Conditions.Broken new now b keeps same
      (subst (λ (x : Flight). IsFlightOf f x (Model.after_event f s (Model.FailedStep actor)).progress.requests) (sym slots)
      (rw (failed-requests actor) is.flight)) maker (ap Model.after_failure works_now) (λ broken. not_working broken)

  -- ---- a clean

  module _ (disk : DiskIdentity) (ready : IsReady parts states disk a) where
    there : d.geometry ≡ states.geometry
    there = (stands w parts states a is).geometry ∙ sym ready.geometry

    region_of-is : f.region_of ≡ region_of states.geometry
    region_of-is = ap (λ (x : DeviceFormat). x.region_of) is.device.format ∙ ap (λ (g : Geometry). region_of g) there

    to_clean : (o : Option ℕ) → o ≡ least_to_clean parts states → least_region (regions d.geometry) (may_be_cleared d (Model.is_used f s.progress.requests)) ≡ o
    to_clean o least = clean_chosen d states there (stands w parts states a is).regions_ (is_held_by states.geometry parts.slots) (Model.is_used f s.progress.requests) o
        (λ r low. held_is_used f states.geometry parts.slots s.progress.requests is.flight region_of-is r) least

    pub clean_idle : None ≡ least_to_clean parts states → IsDoneOver w (Model.Step Model.Clean) Model.Idle Conditions.Working parts states a a
    clean_idle least = only_done w parts states a is (Model.Step Model.Clean) Model.Idle (clean_idle_law f s d is.device works_now (to_clean None least)) works_now

    module _ (region : ℕ) (least : Some region ≡ least_to_clean parts states) (b : List Content) (through : StandsIn (λ x. with_clear x region) states parts.tags a b) where
      through_clear : StandsThrough (with_clear d region) (marked_on w) a b
      through_clear = through d (marked_on w) (stands w parts states a is)

      clean-requests : (Model.after_event f s (Model.Step Model.Clean)).progress.requests ≡ s.progress.requests
      clean-requests = ap (λ (x : Model.EventResult). x.progress.requests) (result-working f s (Model.Step Model.Clean) works_now) ∙ regions_requests s.progress _

      pub clean_done : (now : States) → Leaves (λ x. with_clear x region) states now parts.tags parts.tags a b → IsDoneOver w (Model.Step Model.Clean) Model.Did Conditions.Working parts now a b
      clean_done now leaves =
          let chosen = to_clean (Some region) least in
          did Model.Clean (with_clear d region) parts now b clean-requests (clean_law f s d region is.device works_now chosen).2
          (cleaned f s d w.entry (marked_on w) is.device is.opened states parts.tags a b works_now region chosen through_clear).0 refl refl refl
          (leaves d (marked_on w) (stands w parts states a is))

      pub clean_failed : (now : States) → IsAfter w (Model.FailedStep Model.Clean) Conditions.Broken parts now a b
      clean_failed now =
          failed Model.Clean (with_clear d region) parts now b
          (cleaned f s d w.entry (marked_on w) is.device is.opened states parts.tags a b works_now region (to_clean (Some region) least) through_clear).1 refl refl refl

  -- ---- a recalculation

  module _ (disk : DiskIdentity) (ready : IsReady parts states disk a) where
    awaits_least : (o : Option ℕ) → o ≡ least_awaiting states → least_region (regions d.geometry) d.awaiting ≡ o
    awaits_least o least = recalculated_chosen d states (there disk ready) (stands w parts states a is).regions_ o least

    pub recalc_idle : None ≡ least_awaiting states → IsDoneOver w (Model.Step Model.Recalc) Model.Idle Conditions.Working parts states a a
    recalc_idle least = only_done w parts states a is (Model.Step Model.Recalc) Model.Idle (recalc_idle_law f s d is.device works_now (awaits_least None least)) works_now

    module _ (new : Parts) (now : States) (b : List Content) (slots : new.slots ≡ parts.slots) (maker : new.maker ≡ parts.maker) (through : StandsInTaking parts.maker states parts.tags a b) where
      through_taking : StandsThrough d (marked_on w) a b
      through_taking = through d (marked_on w) (stands_with w parts states a is ready.geometry)

      recalc-requests : (Model.after_event f s (Model.Step Model.Recalc)).progress.requests ≡ s.progress.requests
      recalc-requests = ap (λ (x : Model.EventResult). x.progress.requests) (result-working f s (Model.Step Model.Recalc) works_now) ∙ regions_requests s.progress _

      pub recalc_done : (region : ℕ) → Some region ≡ least_awaiting states → IsTaken parts.maker region states now parts.tags new.tags a b
          → IsDoneOver w (Model.Step Model.Recalc) Model.Did Conditions.Working new now a b
      recalc_done region least taken =
          let chosen = awaits_least (Some region) least in
          let has = taken d (marked_on w) (stands_with w parts states a is ready.geometry) in
          did Model.Recalc (after_recalculation d region) new now b recalc-requests (recalc_law f s d region is.device works_now chosen).2
          (recalculated f s d w.entry (marked_on w) is.device is.opened now new.tags a b works_now region chosen through_taking has) refl slots maker has

      pub recalc_failed : IsAfter w (Model.FailedStep Model.Recalc) Conditions.Broken new now a b
      recalc_failed = still w Conditions.Working parts states a is (Model.FailedStep Model.Recalc) Conditions.Broken new now b
          (quiet_events_law f s (Model.FailedStep Model.Recalc) d is.device tt) through_taking
          (subst (λ (x : Flight). IsFlightOf f x (Model.after_event f s (Model.FailedStep Model.Recalc)).progress.requests) (sym slots)
          (rw (failed-requests Model.Recalc) is.flight)) maker (ap Model.after_failure works_now) (λ broken. not_working broken)

-- ---- the tags

-- No step begins a write.
step_writes : (w : Standing) (actor : Model.Actor) (o : Option RegionCounts) → Model.event_result w.format w.state (Model.Step actor) ≡ Model.step_regions w.state.progress o
    → all_writes (Model.after_event w.format w.state (Model.Step actor)).history ≡ all_writes w.state.history
step_writes w actor o e =
    ap (λ (x : Model.EventResult). all_writes (with_changes x.changes w.state.history)) e
    ∙ ap (λ (xs : List Change). all_writes (with_changes xs w.state.history)) (regions_changes w.state.progress o)

-- Those are kept while a bit is cleared,
pub clean_tags : (parts : Parts) (states : States) (disk : DiskIdentity) (a b : List Content) → IsReady parts states disk a → (region : ℕ) → Some region ≡ least_to_clean parts states
    → StandsIn (λ x. with_clear x region) states parts.tags a b → KeepsTagsBy (Model.Step Model.Clean) (kept parts states) a b
clean_tags parts states disk a b ready region least through w is =
    let v = standing_on w is.disk in
    let works_then = works v parts states a is.over in
    tags_through w Conditions.Working (kept parts states) a is (Model.Step Model.Clean) (with_clear is.disk region) refl
    (clean_law w.format w.state is.disk region is.over.device works_then (to_clean v parts states a is.over disk ready (Some region) least)).3
    a b (through is.disk (marked_on v) (stands v parts states a is.over))

-- and while a region is recalculated.
pub recalc_tags : (parts : Parts) (states : States) (disk : DiskIdentity) (a b : List Content) → IsReady parts states disk a
    → StandsInTaking parts.maker states parts.tags a b → KeepsTagsBy (Model.Step Model.Recalc) (kept parts states) a b
recalc_tags parts states disk a b ready through w is =
    let v = standing_on w is.disk in
    tags_unwritten w Conditions.Working (kept parts states) a is (Model.Step Model.Recalc)
    (step_writes w Model.Recalc _ (result-working w.format w.state (Model.Step Model.Recalc) (works v parts states a is.over)))
    is.disk refl is.over.device.history a b (through is.disk (marked_on v) (stands_with v parts states a is.over ready.geometry))
