-- A device whose regions are recalculated: before a read, and by a step.
use Rattle.std.proofs.Common.{◌≡◌, ℕ, ◌<◌, Bool, true, false, not, ◌&&◌, is_some, refl, sym, ◌∙◌, ap, subst, Option, Some, None, List}
use Rattle.disk_model.specs.Disk.{Content, EachImage}
use Rattle.disk_model.specs.Identity.{DiskIdentity}
use Rattle.disk_model.specs.Moments.{EachMoment}
use Rattle.disk_model.proofs.MomentsLemmas.{EachMoment-kept, EachMoment-then, EachMoment-weaker}
use Rattle.image_model.specs.Geometry.{Geometry, region_of, regions}
use Rattle.image_model.specs.Superblock.{Superblock}
use Rattle.image_model.proofs.Regions.{region_of-lt}
use Rattle.device_model.specs.Mode.{DeviceFormat}
use Rattle.device_model.specs.Progress as Model
use Rattle.device_model.specs.Regions.{least_region, with_region}
use Rattle.place_model.specs.Left.{IsLeftInJournal}
use Rattle.journal_laws.proofs.PromiseLemmas.{standing_left_law}
use Rattle.journal_laws.specs.PromiseLaws.{newest_entry}
use Rattle.bitmap_laws.proofs.LeastLemmas.{least_found}
use Rattle.journal_model.specs.JournaledDisk.{JournaledDisk}
use Rattle.journal_model.specs.Ring.{JournalRing, entries_of}
use Rattle.image_model.specs.Cells.{last_entry}
use Rattle.recalculate_laws.specs.Calls.{IsCutThrough, MovesPositionBy, moved_disk}
use Rattle.recalculate_laws.specs.JournalEvents.{EntersStep, KeepsDevice}
use Rattle.recalculate_laws.specs.Position.{HasPosition, MovesPosition, moved_fields}
use Rattle.recalculate_laws.specs.Taking.{KeepsAwaitingNow}
use Rattle.recalculate_laws.proofs.CallsLemmas.{take_through_law}
use Rattle.recalculate_laws.proofs.DeviceLemmas.{recalc_idle_law, recalc_law}
use Rattle.recalculate_laws.proofs.FormatsLemmas.{moved_format_law, work_flag_law, work_moved_law, work_moves_law, work_taken_law}
use Rattle.recalculate_laws.proofs.JournalEventsLemmas.{failed_step_law, step_calls_law}
use Rattle.recalculate_laws.proofs.PositionLemmas.{position_law}
use Rattle.recalculate_laws.proofs.TakingLemmas.{taken_law, taking_law}
use Rattle.recalculation.specs.declared.recalculating.Recalculation.{Recalculation}
use Rattle.recalculation.specs.Awaiting.{awaiting_of}
use Rattle.recalculation.specs.Position.{HasMoved}
use Rattle.recalculation.specs.Recalculation.{StepsPosition, StepsPositionIn, Taken, Taking, TakesAwaiting, TakesAwaitingIn, next_of}
use Rattle.recalculation.proofs.KeptLemmas.{moved_is, moves_head, next_is, taken_is, takes_in, takes_region, writes_moved}
use Rattle.request_slots.specs.InFlight.{IsFlightOf}
use Rattle.tag_store.specs.Store.{Store, given_tags}
use Rattle.device_parts.specs.declared.condition.Condition.TheVariants as Conditions
use Rattle.device_parts.specs.declared.parts.Parts.{Parts}
use Rattle.device_parts.specs.Device.{IsReady}
use Rattle.device_parts.proofs.ReadyLemmas.{block-low}
use Rattle.journal_mode.specs.Journal.{PlacedRing, sections_of}
use Rattle.journal_mode.specs.Reads.{newest_in}
use Rattle.journal_mode.specs.Standing.{JournalStanding, StandsAs}
use Rattle.journal_device.specs.Answers.{takes_first}
use Rattle.journal_device.specs.Device.{IsOverDisk, IsWorking, JournaledStanding, awaiting_in, standing_of, standing_then}
use Rattle.journal_device.specs.Recalculating.{TakesIf, TakesIfIn}
use Rattle.journal_device.proofs.CutLemmas.{position_cut}
use Rattle.journal_device.proofs.DoneLemmas.{done, not_working, only_done, own_format, works_now, working-is}
use Rattle.journal_device.proofs.OverDisk.{IsAfter, IsDoneOver}

-- With other tags over the same disk the device stands for the same.
stands_with : (y : JournalStanding) (journal : PlacedRing) (store last : Store) (awaiting : ℕ → Bool) (a b : List Content) → StandsAs y journal store a → last.geometry ≡ store.geometry → KeepsAwaitingNow y.disk awaiting (given_tags last) b
    → StandsAs y journal last b
stands_with y journal store last awaiting a b stands same keeps = record {
  device = stands.device;
  placed = record {
    ring_ = stands.placed.ring_;
    placed = stands.placed.placed;
    cells = record {
      sound = stands.placed.cells.sound;
      geometry = stands.placed.cells.geometry ∙ sym same;
      now = λ c told. (keeps c told).keeps;
    };
  };
}

module _ (w : JournaledStanding) (parts : Parts) (journal : PlacedRing) (recalculation : Recalculation) (a : List Content) (is : IsOverDisk w Conditions.Working parts journal recalculation a) where
  abbrev f : DeviceFormat
  f = w.format

  abbrev s : Model.DeviceState
  s = w.state

  abbrev d : JournaledDisk
  d = w.disk

  abbrev y : JournalStanding
  y = standing_of w

  abbrev ring : JournalRing
  ring = journal.ring

  abbrev tags : Content → ℕ → List ℕ
  tags = given_tags parts.tags

  works : IsWorking (standing_of w) (awaiting_in w) journal recalculation parts.tags a
  works = works_now w parts journal recalculation a is

  places : w.disk.geometry ≡ parts.tags.geometry
  places = works.stands.placed.cells.geometry

  -- ---- before a read

  -- A block of the device is one of its disk.
  pub block_there : (disk : DiskIdentity) → IsReady parts disk a → (block : ℕ) → block < parts.slots.blocks → block < w.disk.geometry.blocks
  block_there disk ready block within = subst (λ (g : Geometry). block < g.blocks) (sym places) (block-low parts disk a ready block within)

  -- Whether a region is recalculated first is told by what the device knows.
  pub takes_is : (block : ℕ) → block < w.disk.geometry.blocks
      → takes_first journal recalculation block ≡ (awaiting_in w (region_of w.disk.geometry block) && not (is_some (newest_entry w.disk journal.ring block)))
  takes_is block low =
      ap (λ (g : Geometry). awaiting_of recalculation.awaiting (region_of g block) && not (is_some (newest_in ring block))) works.recalc_.geometry
      ∙ ap (λ (t : Bool). t && not (is_some (newest_in ring block))) (works.recalc_.regions_ (region_of d.geometry block) (region_of-lt d.geometry block low))
      ∙ ap (λ (g : Geometry). awaiting_in w (region_of d.geometry block) && not (is_some (last_entry g (entries_of (sections_of ring)) block))) works.stands.device.is_ring.geometry

  -- The regions that await then.
  abbrev pub awaiting_if : Bool → (region : ℕ) → ℕ → Bool
  awaiting_if true region = with_region region false (awaiting_in w)
  awaiting_if false region = awaiting_in w

  module _ (block : ℕ) (low : block < w.disk.geometry.blocks) where
    abbrev region : ℕ
    region = region_of d.geometry block

    inside : region_of w.disk.geometry block < regions w.disk.geometry
    inside = region_of-lt d.geometry block low

    -- The region awaits where it is recalculated.
    awaits : takes_first journal recalculation block ≡ true → awaiting_in w (region_of w.disk.geometry block) ≡ true
    awaits takes = by (awaiting_in w region) refl
      where
        by : (t : Bool) → awaiting_in w (region_of w.disk.geometry block) ≡ t → awaiting_in w (region_of w.disk.geometry block) ≡ true
        by true e = e
        by false e = e ∙ sym (ap (λ (t : Bool). t && not (is_some (newest_entry d ring block))) e) ∙ sym (takes_is block low) ∙ takes

    -- It is recalculated, or nothing is done,
    pub first_taken : (t : Bool) → takes_first journal recalculation block ≡ t → (new : Recalculation) (last : Store) (m : List Content) → last.geometry ≡ parts.tags.geometry
        → TakesIf t parts.maker (region_of recalculation.awaiting.geometry block) recalculation new parts.tags last a m
        → IsWorking (standing_of w) (awaiting_if t (region_of w.disk.geometry block)) journal new last m
    first_taken true takes new last m same taken =
        let at = subst (λ (g : Geometry). TakesAwaiting parts.maker (region_of g block) recalculation new parts.tags.geometry tags (given_tags last) a m) works.recalc_.geometry taken in
        let there = subst (λ (g : Geometry). TakesAwaiting parts.maker region recalculation new g tags (given_tags last) a m) (sym places) at in
        let region_ = takes_region d.format (awaiting_in w) recalculation works.recalc_ parts.maker is.rule region inside (awaits takes) tags (given_tags last) a m there.takes in
        let keeps = taken_law d region (awaiting_in w) tags (given_tags last) a m works.keeps region_ in
        record {
          stands = stands_with y journal parts.tags last (with_region region false (awaiting_in w)) a m works.stands same keeps;
          keeps = keeps;
          work = work_taken_law d.format (awaiting_in w) region works.work;
          recalc_ = taken_is d.format (awaiting_in w) recalculation works.recalc_ parts.maker region new tags (given_tags last) a m there;
          written = works.written;
        }
    first_taken false takes new last m same taken =
        subst (λ (r : Recalculation). IsWorking y (awaiting_in w) journal r last m) (sym taken.0)
        (subst (λ (x : Store). IsWorking y (awaiting_in w) journal recalculation x m) (sym taken.1)
        (subst (IsWorking y (awaiting_in w) journal recalculation parts.tags) (sym taken.2) works))

    -- at each moment of which each image may be left,
    pub first_left : (t : Bool) → takes_first journal recalculation block ≡ t → (m : List Content) → TakesIfIn t parts.maker (region_of recalculation.awaiting.geometry block) recalculation parts.tags a m
        → EachMoment a m (EachImage (IsLeftInJournal w.disk.format w.state.history))
    first_left true takes m adds =
        let at = subst (λ (g : Geometry). TakesAwaitingIn parts.maker (region_of g block) recalculation parts.tags.geometry tags a m) works.recalc_.geometry adds in
        let there = subst (λ (g : Geometry). TakesAwaitingIn parts.maker region recalculation g tags a m) (sym places) at in
        EachMoment-weaker (λ c both. standing_left_law f s.history s.progress.journal d ring c works.stands.device both.0)
        (taking_law d region (awaiting_in w) tags a m works.keeps (takes_in d.format (awaiting_in w) recalculation works.recalc_ parts.maker is.rule region inside (awaits takes) tags a m there))
    first_left false takes m same = EachMoment-kept _ same

  -- ---- a step

  -- No region awaits.
  pub recalc_idle : next_of recalculation ≡ None → IsDoneOver w (Model.Step Model.Recalc) Model.Idle Conditions.Working parts journal recalculation a a
  recalc_idle none =
      only_done w Conditions.Working parts journal recalculation a is (Model.Step Model.Recalc) Model.Idle
      (recalc_idle_law f s d ring works.stands.device is.condition_ (sym (next_is d.format (awaiting_in w) recalculation works.recalc_) ∙ none)) refl

  module _ (region : ℕ) (least : next_of recalculation ≡ Some region) where
    least_is : least_region (regions w.disk.geometry) (awaiting_in w) ≡ Some region
    least_is = sym (next_is d.format (awaiting_in w) recalculation works.recalc_) ∙ least

    found : (region < regions w.disk.geometry) × (awaiting_in w region ≡ true)
    found = least_found (regions d.geometry) (awaiting_in w) region least_is

    position : HasPosition w.disk.superblock
    position = record {
      accepted = works.written.accepted;
      fits = works.written.fits;
      set = work_flag_law d.format (awaiting_in w) region works.work found.1;
    }

    enters : EntersStep w.format w.state w.disk journal.ring region (given_tags parts.tags) w.entry a
    enters = record {
      device = works.stands.device;
      works = is.condition_;
      least = least_is;
      keeps = works.keeps;
      position = position;
      opened = is.opened;
    }

    abbrev then_ : ℕ → Bool
    then_ = with_region region false (awaiting_in w)

    abbrev fields : Superblock
    fields = moved_fields d.superblock d.geometry then_

    moves : MovesPosition w.disk.superblock w.disk.geometry w.disk.sectors (with_region region false (awaiting_in w)) (moved_fields w.disk.superblock w.disk.geometry (with_region region false (awaiting_in w)))
    moves =
        let formed = works.stands.device.sound.formed in
        position_law d.superblock d.geometry d.sectors then_ position formed.has_geometry formed.no_bitmap

    -- It is recalculated, and the position moves.
    pub recalc_did : (new : Recalculation) (last : Store) (b : List Content) → last.geometry ≡ parts.tags.geometry
        → StepsPosition parts.maker region recalculation new parts.tags.geometry (given_tags parts.tags) (given_tags last) a b
        → IsDoneOver w (Model.Step Model.Recalc) Model.Did Conditions.Working (record parts { tags = last }) journal new a b
    recalc_did new last b same stepped =
        let now = given_tags last in
        let steps = subst (λ (g : Geometry). StepsPosition parts.maker region recalculation new g tags now a b) (sym places) stepped in
        let mid = steps.mid in
        let made = steps.made in
        let m = steps.between in
        let taken = takes_region d.format (awaiting_in w) recalculation works.recalc_ parts.maker is.rule region found.0 found.1 tags made a m steps.takes.takes in
        let mid_is = taken_is d.format (awaiting_in w) recalculation works.recalc_ parts.maker region mid tags made a m steps.takes in
        let some = writes_moved d.format then_ mid mid_is position.set (work_moves_law d.format (awaiting_in w) region works.work least_is) in
        let between = steps.settles.between in
        let moved : HasMoved (Some fields) d.geometry now mid.position new.position between b =
        subst (λ (o : Option Superblock). HasMoved o d.geometry now mid.position new.position between b) some steps.settles.moves in
        let by : MovesPositionBy d.format then_ made now m b = record {
          settled = now;
          between = between;
          settles = steps.settles.settles;
          moves = moves_head d.format then_ mid mid_is now between b moved.1;
        } in
        let law = step_calls_law f s d ring region tags made now w.entry a m b enters taken by in
        let told = (recalc_law f s d ring region works.stands.device is.condition_ least_is).0 in
        let last_disk = moved_disk d then_ in
        let event = Model.Step Model.Recalc in
        record {
          answers = ap (λ (x : Model.EventResult). x.answer) told;
          done = done w Conditions.Working parts journal recalculation a is event last_disk Conditions.Working (record parts { tags = last }) journal new b
              (moved_format_law d.format d.format then_ fields (own_format w Conditions.Working parts journal recalculation a is) moves)
              (subst (λ (x : Model.EventResult). IsFlightOf f parts.slots x.progress.requests) (sym told) is.flight) refl is.condition_
              (λ _. subst (λ (regions_ : ℕ → Bool). IsWorking (standing_of (standing_then w event last_disk)) regions_ journal new last b)
              (sym (ap (λ (x : Model.EventResult). x.progress.regions.awaiting) told))
              (record {
                stands = record {
                  device = law.0.device;
                  placed = record {
                    ring_ = law.0.device.is_ring;
                    placed = works.stands.placed.placed;
                    cells = record {
                      sound = law.0.device.sound;
                      geometry = places ∙ sym same;
                      now = λ c told_c. (law.1 c told_c).keeps;
                    };
                  };
                };
                keeps = law.1;
                work = work_moved_law d.format then_ fields (work_taken_law d.format (awaiting_in w) region works.work) moves;
                recalc_ = moved_is d.format then_ mid mid_is new d.sectors steps.settles.awaiting moved.0 moves;
                written = record { accepted = moves.accepted; fits = moves.fits };
              }))
              law.0.through law.0.now;
        }

    -- What a cut leaves of it.
    pub step_cut : (b : List Content) → StepsPositionIn parts.maker region recalculation w.disk.geometry (given_tags parts.tags) a b
        → IsCutThrough w.disk (moved_fields w.disk.superblock w.disk.geometry (with_region region false (awaiting_in w))) a b
    step_cut b (Taking adds) =
        take_through_law d fields region (awaiting_in w) tags a b works.keeps
        (takes_in d.format (awaiting_in w) recalculation works.recalc_ parts.maker is.rule region found.0 found.1 tags a b adds)
    step_cut b (Taken mid made m takes through) =
        let taken = takes_region d.format (awaiting_in w) recalculation works.recalc_ parts.maker is.rule region found.0 found.1 tags made a m takes.takes in
        let mid_is = taken_is d.format (awaiting_in w) recalculation works.recalc_ parts.maker region mid tags made a m takes in
        EachMoment-then (take_through_law d fields region (awaiting_in w) tags a m works.keeps taken.adds)
        (position_cut d then_ mid mid_is works.written made m b (taken_law d region (awaiting_in w) tags made a m works.keeps taken) through)

    -- The disk fails in it.
    pub recalc_failed : (new : Recalculation) (last : Store) (b : List Content) → StepsPositionIn parts.maker region recalculation parts.tags.geometry (given_tags parts.tags) a b
        → IsAfter w (Model.FailedStep Model.Recalc) Conditions.Broken (record parts { tags = last }) journal new a b
    recalc_failed new last b through =
        let cut = step_cut b (subst (λ (g : Geometry). StepsPositionIn parts.maker region recalculation g tags a b) (sym places) through) in
        let law : KeepsDevice f s (Model.FailedStep Model.Recalc) w.entry d d ring a b = failed_step_law f s d ring region tags w.entry a b enters cut in
        let told = working-is w parts journal recalculation a is (Model.FailedStep Model.Recalc) in
        done w Conditions.Working parts journal recalculation a is (Model.FailedStep Model.Recalc) d Conditions.Broken (record parts { tags = last }) journal new b
        (own_format w Conditions.Working parts journal recalculation a is)
        (subst (λ (x : Model.EventResult). IsFlightOf f parts.slots x.progress.requests) (sym told) is.flight) refl (ap Model.after_failure is.condition_)
        (λ same. not_working w parts journal recalculation a is same) law.through law.now
