-- The end of a device in journal mode: its journal is closed, and then the position of its recalculation moves.
use Rattle.std.proofs.Common.{◌≡◌, ℕ, ◌<◌, Bool, false, if◌then◌else◌, not, ◌&&◌, refl, sym, ◌∙◌, ap, subst, OnOk, Result, Ok, Err, Option, Some, None, List, [], length}
use Rattle.disk_model.specs.Disk.{Content}
use Rattle.disk_model.specs.Moments.{HasNow}
use Rattle.image_model.specs.Geometry.{Geometry}
use Rattle.image_model.specs.declared.flags.TheConstants.{RECALCULATING}
use Rattle.image_model.specs.Superblock.{Superblock, has_flag}
use Rattle.device_model.specs.Journal.{JournalCounts}
use Rattle.device_model.specs.Progress as Model
use Rattle.place_model.specs.Format.{DiskFormat, format_on, placed_on}
use Rattle.place_model.specs.Opened.{blocks_of}
use Rattle.place_model.proofs.FormatLemmas.{opens_tells}
use Rattle.journal_laws.specs.Device.{IsJournalOf}
use Rattle.journal_laws.proofs.EventLemmas.{close_law}
use Rattle.direct_laws.specs.MomentLaws.{IsLeftNow}
use Rattle.direct_laws.specs.MomentLaws as Moments
use Rattle.journal_model.specs.JournaledDisk.{JournaledDisk, StandsFor}
use Rattle.journal_model.specs.Ring.{JournalRing}
use Rattle.journal_model.proofs.CutOfLemmas.{cut_of_standing}
use Rattle.recalculate_laws.specs.Calls.{IsSettledNow, moved_disk}
use Rattle.recalculate_laws.specs.Device.{HasBlocksOf}
use Rattle.recalculate_laws.specs.Formats.{IsFormatOf}
use Rattle.recalculate_laws.specs.JournalDisk.{IsMoved}
use Rattle.recalculate_laws.specs.Position.{HasPosition, MovesPosition, moved_fields}
use Rattle.recalculate_laws.specs.Taking.{KeepsAwaitingNow}
use Rattle.recalculate_laws.proofs.CallsLemmas.{settled_law}
use Rattle.recalculate_laws.proofs.DeviceLemmas.{moved_device_law}
use Rattle.recalculate_laws.proofs.FormatsLemmas.{moved_format_law}
use Rattle.recalculate_laws.proofs.JournalEventsLemmas.{close_calls_law, closed_cells_law, cut_left_law, failed_close_law, kept_left_law}
use Rattle.recalculate_laws.proofs.PositionLemmas.{position_law}
use Rattle.recalculate_laws.proofs.StepLemmas.{moved_of}
use Rattle.recalculation.specs.declared.recalculating.Recalculation.{Recalculation}
use Rattle.recalculation.specs.Awaiting.{awaiting_of}
use Rattle.recalculation.specs.Position.{HasMoved, WritesFields, is_same_position}
use Rattle.recalculation.specs.Recalculation.{SettlesPosition, SettlesPositionIn, fields_left, fields_or, to_write}
use Rattle.recalculation.proofs.KeptLemmas.{moved_if_some, moves_head}
use Rattle.tag_store.specs.Store.{Store, given_tags}
use Rattle.device_parts.specs.declared.condition.Condition.TheVariants.{Working}
use Rattle.device_parts.specs.declared.parts.Parts.{Parts}
use Rattle.device_parts.specs.Device.{Ends, HasEnded, Standing}
use Rattle.journal_mode.specs.Closing.{HasClosed, IsAllFree}
use Rattle.journal_mode.specs.Commits.{with_disk}
use Rattle.journal_mode.specs.Journal.{PlacedRing}
use Rattle.journal_mode.specs.Standing.{IsLeftThrough, JournalStanding, StandsAs}
use Rattle.journal_device.specs.Answers.{IsAllPlaced}
use Rattle.journal_device.specs.Device.{IsJournaled, IsWorking, JournaledStanding, awaiting_in, in_journal, kept, kind_on, standing_of, standing_on}
use Rattle.journal_device.proofs.CutLemmas.{position_cut}
use Rattle.journal_device.proofs.DoneLemmas.{idle_now, stands_now, working_then, working-is, works_now}
use Rattle.journal_device.proofs.EventLemmas.{close_done, close_failed}
use Rattle.journal_device.proofs.KindLemmas.{left_then, left_through}
use Rattle.journal_device.proofs.OverDisk.{ended_on, state_of}

-- ---- what is in place

-- On a disk of which all is settled, each image has in its places what the history says, and is read with the fields of
-- the disk.
all_placed : (w : Standing) (d : JournaledDisk) (j : JournalCounts) (r : JournalRing) (fields : Superblock) (b : List Content) → IsFormatOf w.on d.format → IsJournalOf w.format w.state.history j d r
    → w.state.history.pending ≡ None → r.opened ≡ [] → d.settled ≡ length d.entries → d.superblock ≡ fields → HasNow (StandsFor d) b → IsAllPlaced w fields b
all_placed w d j r fields b same is idle none settled own stands = record {
  placed = λ c told image is_image n low.
      ap (λ (key : Option (List ℕ)). placed_on (format_on key w.on.sectors image) image n) (sym same.key)
      ∙ ap (λ (sectors : ℕ). placed_on (format_on d.key sectors image) image n) (sym same.sectors)
      ∙ closed_cells_law w.format w.state.history j d r c is idle none settled (stands c told) image is_image n (subst (λ (g : Geometry). n < g.blocks) (sym same.geometry) low);
  fields_ = λ c told image is_image.
      (opens_tells d.format image (cut_of_standing d c (stands c told) image is_image).opens).head ∙ ap (λ (s : Superblock). Ok s) own;
}

-- Without the flag nothing is to be written.
unset_fields : (r : Recalculation) → has_flag RECALCULATING r.position.flags ≡ false → r.position ≡ fields_left r
unset_fields r unset =
    let moved = moved_fields r.position r.awaiting.geometry (awaiting_of r.awaiting) in
    sym (ap (λ (t : Bool). fields_or (if t && not (is_same_position r.position moved) then Some moved else None) r.position) unset)

-- ---- a close

module _ (w : Standing) (parts : Parts) (journal : PlacedRing) (recalculation : Recalculation) (a : List Content) (is : IsJournaled w Working (kept parts (state_of journal recalculation)) a) where
  abbrev v : JournaledStanding
  v = standing_on w is.disk

  abbrev y : JournalStanding
  y = standing_of v

  pub closing_idle : w.state.history.pending ≡ None
  closing_idle = idle_now (standing_on w is.disk) parts journal recalculation a is.over

  -- The disk fails before the journal is closed.
  pub journal_failed : (b : List Content) → IsLeftThrough (standing_of (standing_on w is.disk)) a b → HasEnded in_journal w Model.FailedClose Model.DiskFailed a b
  journal_failed b left = ended_on w is.disk is.format Model.FailedClose Model.DiskFailed a b (close_failed v parts journal recalculation a is.over b left)

  module _ (put : PlacedRing) (store : Store) (m : List Content) (closed : HasClosed (standing_of (standing_on w is.disk)) put parts.tags store a m) (free : IsAllFree put.ring)
      (left : IsLeftThrough (standing_of (standing_on w is.disk)) a m) where
    same : IsFormatOf w.on closed.disk.format
    same = subst (IsFormatOf w.on) (sym closed.format) is.format

    -- Nothing more is to be done without the flag.
    pub journal_ended : HasEnded in_journal w Model.Close Model.IsClosed a m
    journal_ended = ended_on w is.disk is.format Model.Close Model.IsClosed a m (close_done v parts journal recalculation a is.over (record parts { tags = store }) put m closed left)

    pub working : IsWorking (with_disk closed.counts closed.disk (standing_of (standing_on w is.disk))) (awaiting_in (standing_on w is.disk)) put recalculation store m
    working =
        working_then y (with_disk closed.counts closed.disk y) (awaiting_in v) journal put recalculation parts.tags store a m closed.format
        (works_now v parts journal recalculation a is.over) closed.committed closed.gives

    pub journal_placed : has_flag RECALCULATING recalculation.position.flags ≡ false → IsAllPlaced w (fields_left recalculation) m
    journal_placed unset =
        all_placed w closed.disk closed.counts put.ring (fields_left recalculation) m same closed.committed.device closing_idle free.none_opened closed.settled
        (sym working.recalc_.fields ∙ unset_fields recalculation unset) (λ c told. (working.keeps c told).keeps.stands)

    -- ---- the position moves

    module _ (set : HasPosition recalculation.position) where
      abbrev d : JournaledDisk
      d = closed.disk

      abbrev awaiting : ℕ → Bool
      awaiting = awaiting_in v

      abbrev fields : Superblock
      fields = moved_fields d.superblock d.geometry awaiting

      position : HasPosition closed.disk.superblock
      position = subst HasPosition working.recalc_.fields set

      moves : MovesPosition closed.disk.superblock closed.disk.geometry closed.disk.sectors (awaiting_in (standing_on w is.disk)) (moved_fields closed.disk.superblock closed.disk.geometry (awaiting_in (standing_on w is.disk)))
      moves =
          let formed = closed.committed.device.sound.formed in
          position_law d.superblock d.geometry d.sectors awaiting position formed.has_geometry formed.no_bitmap

      is_moved : IsMoved closed.disk (moved_fields closed.disk.superblock closed.disk.geometry (awaiting_in (standing_on w is.disk)))
      is_moved = moved_of d awaiting fields moves

      opened : HasBlocksOf w.entry closed.disk
      opened = subst (λ (x : DiskFormat). blocks_of x ≡ blocks_of (format_on x.key x.sectors w.entry)) (sym closed.format) is.over.opened

      there : closed.disk.geometry ≡ store.geometry
      there = closed.committed.placed.cells.geometry

      -- Up to there each image may be left, within any event that flushes at most.
      before : (event : Model.Event) → Moments.IsLeftThrough (kind_on is.disk.format) w.entry w.format w.state event a m
      before event = left_through is.disk.format w.entry is.over.opened is.over.no_bitmap w.format w.state event 0 w.state.history refl left

      -- The disk fails in that.
      pub position_failed : (b : List Content) → SettlesPositionIn recalculation store.geometry (given_tags store) m b → HasEnded in_journal w Model.FailedClose Model.DiskFailed a b
      position_failed b through =
          let cut = position_cut d awaiting recalculation working.recalc_ working.written (given_tags store) m b working.keeps
          (subst (λ (g : Geometry). SettlesPositionIn recalculation g (given_tags store) m b) (sym there) through) in
          let law = failed_close_law w.format w.state closed.counts d put.ring fields awaiting (given_tags store) w.entry m b closed.committed.device is_moved opened working.keeps cut in
          ended_on w is.disk is.format Model.FailedClose Model.DiskFailed a b (record {
            answers = ap (λ (x : Model.EventResult). x.answer) (working-is v parts journal recalculation a is.over Model.FailedClose);
            through = left_then is.disk.format w.entry w.format w.state Model.FailedClose (before Model.FailedClose)
                (subst (λ (x : DiskFormat). Moments.IsLeftThrough (kind_on x) w.entry w.format w.state Model.FailedClose m b) closed.format law.0);
            left = subst (λ (x : DiskFormat). IsLeftNow (kind_on x) w.entry (Model.after_event w.format w.state Model.FailedClose).history b) closed.format law.1;
          })

      -- What is left where it goes through.
      abbrev Ending : List Content → Type 0
      Ending b = HasEnded in_journal w Model.Close Model.IsClosed a b × IsAllPlaced w (fields_left recalculation) b

      pub position_ended : (new : Recalculation) (last : Store) (b : List Content) → SettlesPosition recalculation new store.geometry (given_tags store) (given_tags last) m b → Ending b
      position_ended new last b stepped =
          let now = given_tags last in
          let steps = subst (λ (g : Geometry). SettlesPosition recalculation new g (given_tags store) now m b) (sym there) stepped in
          let between = steps.between in
          let law = settled_law d fields awaiting (given_tags store) now m between working.keeps steps.settles in
          let cut = cut_left_law w.format w.state Model.Close w.state.history closed.counts d put.ring fields w.entry m between (record { kept = 0; is = refl }) closed.committed.device is_moved opened law.0 in
          let so_far = left_then is.disk.format w.entry w.format w.state Model.Close (before Model.Close)
          (subst (λ (x : DiskFormat). Moments.IsLeftThrough (kind_on x) w.entry w.format w.state Model.Close m between) closed.format cut) in
          by between (to_write recalculation) refl law.1 law.3 so_far steps.moves
        where
          answers : (Model.event_result w.format w.state Model.Close).answer ≡ Model.IsClosed
          answers = ap (λ (x : Model.EventResult). x.answer) (working-is v parts journal recalculation a is.over Model.Close)

          by : (between : List Content) (o : Option Superblock) → to_write recalculation ≡ o → KeepsAwaitingNow closed.disk (awaiting_in (standing_on w is.disk)) (given_tags last) between
              → IsSettledNow closed.disk.geometry (given_tags last) between → Moments.IsLeftThrough (kind_on is.disk.format) w.entry w.format w.state Model.Close a between
              → HasMoved o closed.disk.geometry (given_tags last) recalculation.position new.position between b → Ending b
          by between None some keeps settled so_far moved =
              let closed_law = close_law w.format w.state closed.counts d put.ring is.over.condition_ closing_idle closed.committed.device free.none_opened in
              let left_ = kept_left_law w.format (Model.after_event w.format w.state Model.Close).history closed.counts d put.ring w.entry awaiting (given_tags last) between closed_law opened keeps in
              subst (λ (x : List Content). Ending x) (sym moved.1) (
                ended_on w is.disk is.format Model.Close Model.IsClosed a between (record {
                  answers = answers;
                  through = so_far;
                  left = subst (λ (x : DiskFormat). IsLeftNow (kind_on x) w.entry (Model.after_event w.format w.state Model.Close).history between) closed.format left_;
                }),
                all_placed w d closed.counts put.ring (fields_left recalculation) between same closed.committed.device closing_idle free.none_opened closed.settled
                    (sym working.recalc_.fields ∙ sym (ap (λ (x : Option Superblock). fields_or x recalculation.position) some)) (λ c told. (keeps c told).keeps.stands),
              )
          by between (Some t) some keeps settled so_far moved =
              let told = moved_if_some d.format awaiting recalculation working.recalc_ t some in
              let head = moves_head d.format awaiting recalculation working.recalc_ (given_tags last) between b (subst (λ (x : Superblock). WritesFields d.geometry x (given_tags last) between b) told.0 moved.1) in
              let law = close_calls_law w.format w.state closed.counts d put.ring awaiting (given_tags last) (given_tags last) w.entry between b is.over.condition_ closing_idle closed.committed.device free.none_opened
              opened position keeps settled head in
              let device = moved_device_law w.format w.state.history closed.counts d put.ring fields closed.committed.device is_moved in (
                ended_on w is.disk is.format Model.Close Model.IsClosed a b (record {
                  answers = answers;
                  through = left_then is.disk.format w.entry w.format w.state Model.Close so_far
                      (subst (λ (x : DiskFormat). Moments.IsLeftThrough (kind_on x) w.entry w.format w.state Model.Close between b) closed.format law.2);
                  left = subst (λ (x : DiskFormat). IsLeftNow (kind_on x) w.entry (Model.after_event w.format w.state Model.Close).history b) closed.format law.3;
                }),
                all_placed w (moved_disk d awaiting) closed.counts put.ring (fields_left recalculation) b
                    (moved_format_law w.on d.format awaiting fields same moves) device closing_idle free.none_opened closed.settled
                    (sym told.0 ∙ sym (ap (λ (x : Option Superblock). fields_or x recalculation.position) some)) (λ c told_c. (law.1 c told_c).keeps.stands),
              )

-- ---- for callers

module _ (parts : Parts) (journal : PlacedRing) (recalculation : Recalculation) (a : List Content) (put : PlacedRing) (store : Store) (m : List Content)
    (closes : (y : JournalStanding) → StandsAs y journal parts.tags a → y.history.pending ≡ None → HasClosed y put parts.tags store a m)
    (lefts : (y : JournalStanding) → StandsAs y journal parts.tags a → IsLeftThrough y a m) (free : IsAllFree put.ring) where
  closed_as : (w : Standing) (is : IsJournaled w Working (kept parts (state_of journal recalculation)) a) → HasClosed (standing_of (standing_on w is.disk)) put parts.tags store a m
  closed_as w is = closes (standing_of (standing_on w is.disk)) (stands_now (standing_on w is.disk) parts journal recalculation a is.over) (idle_now (standing_on w is.disk) parts journal recalculation a is.over)

  left_as : (w : Standing) (is : IsJournaled w Working (kept parts (state_of journal recalculation)) a) → IsLeftThrough (standing_of (standing_on w is.disk)) a m
  left_as w is = lefts (standing_of (standing_on w is.disk)) (stands_now (standing_on w is.disk) parts journal recalculation a is.over)

  -- It ends with the journal where the flag is not set,
  pub journal_ends : (w : Standing) → IsJournaled w Working (kept parts (state_of journal recalculation)) a → HasEnded in_journal w Model.Close Model.IsClosed a m
  journal_ends w is = journal_ended w parts journal recalculation a is put store m (closed_as w is) free (left_as w is)

  pub journal_places : has_flag RECALCULATING recalculation.position.flags ≡ false → (w : Standing) → IsJournaled w Working (kept parts (state_of journal recalculation)) a → IsAllPlaced w (fields_left recalculation) m
  journal_places unset w is = journal_placed w parts journal recalculation a is put store m (closed_as w is) free (left_as w is) unset

  -- and with the position where it is.
  module _ (set : HasPosition recalculation.position) (new : Recalculation) (last : Store) (b : List Content) where
    abbrev Settles : Type 0
    Settles = SettlesPosition recalculation new store.geometry (given_tags store) (given_tags last) m b

    pub settle_ends : {T E : Type 0} (result : Result T E) → OnOk result (SettlesPosition recalculation new store.geometry (given_tags store) (given_tags last) m b) → SettlesPositionIn recalculation store.geometry (given_tags store) m b
        → Ends in_journal (kept parts (state_of journal recalculation)) a b result
    settle_ends (Ok done) settled through = record {
      done = λ w is. (position_ended w parts journal recalculation a is put store m (closed_as w is) free (left_as w is) set new last b settled).0;
      err = tt;
    }
    settle_ends (Err fault) settled through = record {
      done = tt;
      err = λ w is. position_failed w parts journal recalculation a is put store m (closed_as w is) free (left_as w is) set b through;
    }

    pub settle_places : {T E : Type 0} (result : Result T E) → OnOk result (SettlesPosition recalculation new store.geometry (given_tags store) (given_tags last) m b)
        → OnOk result ((w : Standing) → IsJournaled w Working (kept parts (state_of journal recalculation)) a → IsAllPlaced w (fields_left recalculation) b)
    settle_places (Ok done) settled = λ w is. (position_ended w parts journal recalculation a is put store m (closed_as w is) free (left_as w is) set new last b settled).1
    settle_places (Err fault) settled = tt
