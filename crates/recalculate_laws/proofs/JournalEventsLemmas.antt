-- A device in journal mode by the calls of a read, of a step and of a close.
use Rattle.std.proofs.Common.{◌≡◌, ℕ, suc, ◌<◌, Bool, refl, sym, ◌∙◌, ap, subst, Some, List, length, arith, ◌++◌, take, append-nil}
use Rattle.disk_model.specs.Disk.{Content, Image, IsImage}
use Rattle.disk_model.specs.Moments.{content_now}
use Rattle.disk_model.proofs.MomentsLemmas.{EachMoment-then, EachMoment-weaker, content_at_end}
use Rattle.image_model.specs.Superblock.{Superblock}
use Rattle.device_model.specs.History.{History, with_changes}
use Rattle.device_model.specs.Journal.{JournalCounts}
use Rattle.device_model.specs.Mode.{DeviceFormat, Journal}
use Rattle.device_model.specs.Progress.{Broken, Close, Closed, Condition, DeviceState, EventResult, FailedClose, FailedServe, FailedStep, Recalc, Serve, Step, Working, after_event, block_changes, first_begun, result_in}
use Rattle.device_model.specs.Request.{Read, Request}
use Rattle.device_model.proofs.SubmissionLemmas.{result-working}
use Rattle.place_model.specs.Kind.{kind_in}
use Rattle.journal_model.specs.JournaledDisk.{IsFormed, JournaledDisk}
use Rattle.image_model.specs.Cells.{last_entry}
use Rattle.image_model.specs.Section.{Entry}
use Rattle.place_model.specs.Format.{DiskFormat, placed_on}
use Rattle.place_model.proofs.FormatLemmas.{format_on-is}
use Rattle.journal_model.specs.Entries.{cell_after}
use Rattle.journal_model.proofs.PlaceLemmas.{placed_is}
use Rattle.journal_laws.proofs.FormatLemmas.{blocks-is}
use Rattle.journal_laws.proofs.PromiseLemmas.{cell_is}
use Rattle.std.proofs.lemmas.List.{drop_all, take_all}
use Rattle.journal_model.specs.Ring.{JournalRing, entries_of, uncommitted_entries}
use Rattle.journal_model.proofs.CutOfLemmas.{cut_of_standing}
use Rattle.journal_model.proofs.HistoryLemmas.{left_law}
use Rattle.journal_laws.specs.Device.{IsJournalOf}
use Rattle.journal_laws.proofs.EventLemmas.{close_law, quiet_events_law, quiet_law, serve_read_law}
use Rattle.direct_laws.specs.MomentLaws.{IsLeftNow}
use Rattle.recalculate_laws.specs.Calls.{IsCutThrough, moved_disk}
use Rattle.recalculate_laws.specs.JournalEvents.{CloseCallsLaw, ClosedCellsLaw, CutLeftLaw, FailedCloseLaw, FailedReadLaw, FailedStepLaw, KeptDeviceLaw, KeptLeftLaw, ReadCallsLaw, StepCallsLaw}
use Rattle.recalculate_laws.specs.Device.{HasBlocksOf}
use Rattle.recalculate_laws.specs.JournalDisk.{IsMoved}
use Rattle.recalculate_laws.specs.Moments.{awaiting_then}
use Rattle.recalculate_laws.specs.Position.{HasPosition, moved_fields}
use Rattle.recalculate_laws.specs.Taking.{KeepsAwaitingNow}
use Rattle.recalculate_laws.proofs.DeviceLemmas.{kind_left_law, moved_device_law, moving_left_law, serve_is}
use Rattle.recalculate_laws.proofs.PositionLemmas.{blocks-moved, position_law}
use Rattle.recalculate_laws.proofs.StepLemmas.{moved_of}
use Rattle.recalculate_laws.proofs.TakingLemmas.{taken_law}
use Rattle.recalculate_laws.proofs.CallsLemmas.{take_through_law, head_moved_law, position_moved_law, cut_before}

pub cut_left_law : CutLeftLaw
cut_left_law f s event h j d r fields entry a b within is moved same cut = record {
  opens = EachMoment-weaker (λ c each image is_image. (moving_left_law f h j d r fields 0 entry image is moved same (each image is_image)).0) cut;
  left = EachMoment-weaker (λ c each. record {
    history = h;
    within = within;
    each = λ image is_image. (moving_left_law f h j d r fields 0 entry image is moved same (each image is_image)).1;
  }) cut;
}

pub kept_left_law : KeptLeftLaw
kept_left_law f h j d r entry awaiting tags a is same keeps =
    let left = λ (c : Content) (told : content_now a ≡ Some c) (image : Image) (is_image : IsImage c image).
    kind_left_law d.format entry h image same is.sound.formed.no_bitmap
    (left_law d (uncommitted_entries r) 0 h image is.history (cut_of_standing d c (keeps c told).keeps.stands image is_image)) in
    record { opens = λ c told image is_image. (left c told image is_image).0; left = λ c told image is_image. (left c told image is_image).1 }

-- The fields that a step would write.
step_moved : (d : JournaledDisk) (awaiting : ℕ → Bool) → IsFormed d → HasPosition d.superblock → IsMoved d (moved_fields d.superblock d.geometry awaiting)
step_moved d awaiting formed position =
    moved_of d awaiting (moved_fields d.superblock d.geometry awaiting) (position_law d.superblock d.geometry d.sectors awaiting position formed.has_geometry formed.no_bitmap)

pub step_calls_law : StepCallsLaw
step_calls_law f s d r region tags made now entry a m b enters takes calls =
    let awaiting = awaiting_then region s.progress.regions.awaiting in
    let fields = moved_fields d.superblock d.geometry awaiting in
    let kept = taken_law d region s.progress.regions.awaiting tags made a m enters.keeps takes in
    let law = position_moved_law d awaiting made now m b kept enters.position calls in
    let moved = step_moved d awaiting enters.device.sound.formed enters.position in
    let then_ = after_event f s (Step Recalc) in
    let device = moved_device_law f then_.history then_.progress.journal d r fields (quiet_events_law f s (Step Recalc) d r enters.device tt) moved in
    let opened = blocks-moved d.format fields moved.same_salt ∙ enters.opened in (
      record {
        device = device;
        opened = opened;
        through = cut_left_law f s (Step Recalc) s.history s.progress.journal d r fields entry a b (record { kept = 0; is = refl }) enters.device moved enters.opened
            (EachMoment-then (take_through_law d fields region s.progress.regions.awaiting tags a m enters.keeps takes.adds) law.0);
        now = kept_left_law f then_.history then_.progress.journal (moved_disk d awaiting) r entry awaiting now b device opened law.1;
      },
      law.1,
    )

-- What a cut leaves through a call may be left at its end.
left_at_end : (f : DeviceFormat) (h : History) (j : JournalCounts) (d : JournaledDisk) (r : JournalRing) (fields : Superblock) (entry : Image) (awaiting : ℕ → Bool) (tags : Content → ℕ → List ℕ) (a b : List Content)
    → IsJournalOf f h j d r → IsMoved d fields → HasBlocksOf entry d → KeepsAwaitingNow d awaiting tags a → IsCutThrough d fields a b → IsLeftNow (kind_in Journal d.key d.sectors) entry h b
left_at_end f h j d r fields entry awaiting tags a b is moved same keeps cut =
    let left = λ (c : Content) (told : content_now b ≡ Some c) (image : Image) (is_image : IsImage c image).
    moving_left_law f h j d r fields 0 entry image is moved same (content_at_end cut (λ start told_start. cut_before d fields start (keeps start told_start).keeps.stands) c told image is_image) in
    record { opens = λ c told image is_image. (left c told image is_image).0; left = λ c told image is_image. (left c told image is_image).1 }

pub kept_device_law : KeptDeviceLaw
kept_device_law f s event d r fields awaiting tags entry a b is device moved same keeps cut =
    let then_ = after_event f s event in
    record {
      device = device;
      opened = same;
      through = cut_left_law f s event s.history s.progress.journal d r fields entry a b (record { kept = 0; is = refl }) is moved same cut;
      now = left_at_end f then_.history then_.progress.journal d r fields entry awaiting tags a b device moved same keeps cut;
    }

pub failed_step_law : FailedStepLaw
failed_step_law f s d r region tags entry a b enters cut =
    let awaiting = awaiting_then region s.progress.regions.awaiting in
    kept_device_law f s (FailedStep Recalc) d r (moved_fields d.superblock d.geometry awaiting) s.progress.regions.awaiting tags entry a b enters.device
    (quiet_events_law f s (FailedStep Recalc) d r enters.device tt) (step_moved d awaiting enters.device.sound.formed enters.position) enters.opened enters.keeps cut

-- ---- a read

pub failed_read_law : FailedReadLaw
failed_read_law f s d r k a first count is asked e =
    let result = result-working f s (FailedServe (suc k)) asked.works in
    quiet_law f s (FailedServe (suc k)) d r is
    (ap (λ (x : EventResult). x.changes) result
    ∙ ap (λ (x : EventResult). first_begun x.changes) (serve_is f s k a (Read first count) asked e)
    ∙ ap (λ (request : Request). first_begun (block_changes (suc k) a request)) e)
    (ap (λ (x : EventResult). x.progress.journal) result)

pub read_calls_law : ReadCallsLaw
read_calls_law f s d r k a first count awaiting tags entry before after is asked e same keeps cut =
    let formed = is.sound.formed in
    let moved : IsMoved d d.superblock = record { has_geometry = formed.has_geometry; no_bitmap = formed.no_bitmap; same_salt = refl; fewer = λ b low waits. waits } in (
      kept_device_law f s (Serve (suc k)) d r d.superblock awaiting tags entry before after is (serve_read_law f s d r k a first count is asked e) moved same keeps cut,
      kept_device_law f s (FailedServe (suc k)) d r d.superblock awaiting tags entry before after is (failed_read_law f s d r k a first count is asked e) moved same keeps cut,
    )

-- ---- a close

pub close_calls_law : CloseCallsLaw
close_calls_law f s j d r awaiting tags now entry a b works idle is none same position keeps settled by =
    let law = head_moved_law d awaiting tags now a b keeps settled position by in
    let fields = moved_fields d.superblock d.geometry awaiting in
    let moved = step_moved d awaiting is.sound.formed position in
    let h = (after_event f s Close).history in
    let closed = moved_device_law f h j d r fields (close_law f s j d r works idle is none) moved in (
      closed,
      law.1,
      cut_left_law f s Close s.history j d r fields entry a b (record { kept = 0; is = refl }) is moved same law.0,
      kept_left_law f h j (moved_disk d awaiting) r entry awaiting now b closed (blocks-moved d.format fields moved.same_salt ∙ same) law.1,
    )

-- A close in which the disk fails leaves the history.
pub failed_close : (f : DeviceFormat) (s : DeviceState) → (after_event f s FailedClose).history ≡ s.history
failed_close f s = by s.condition
  where
    by : (now : Condition) → with_changes (result_in f s now FailedClose).changes s.history ≡ s.history
    by Working = refl
    by Broken = refl
    by Closed = refl

pub failed_close_law : FailedCloseLaw
failed_close_law f s j d r fields awaiting tags entry a b is moved same keeps cut = (
  cut_left_law f s FailedClose s.history j d r fields entry a b (record { kept = 0; is = refl }) is moved same cut,
  subst (λ (h : History). IsLeftNow (kind_in Journal d.key d.sectors) entry h b) (sym (failed_close f s)) (left_at_end f s.history j d r fields entry awaiting tags a b is moved same keeps cut),
)

pub closed_cells_law : ClosedCellsLaw
closed_cells_law f h j d r c is idle none settled stands image is_image b low =
    let formed = is.sound.formed in
    let cut = cut_of_standing d c stands image is_image in
    let own = format_on-is d.format image cut.opens in
    let low_settled = settled in
    let rest = drop_all (length d.entries) d.entries (omega arith) in
    let placed = placed_is d formed image (λ sector. (stands.each sector (image sector) (is_image sector)).outside) (length d.entries) (omega (arith, low_settled)) b low
    (ap (λ (entries : List Entry). last_entry d.geometry entries b) rest) in
    let low_f : b < f.blocks.blocks = omega (arith, low, (blocks-is f d.format is.format)) in
    let now = cell_is f h j d r b is idle low_f in
    let all : take (length d.entries) d.entries ≡ d.entries ++ uncommitted_entries r =
    take_all (length d.entries) d.entries (omega arith) ∙ sym (append-nil d.entries) ∙ ap (λ (opened : List (List Entry)). d.entries ++ entries_of opened) (sym none) in
    ap (λ (x : DiskFormat). placed_on x image b) own ∙ placed ∙ ap (λ (entries : List Entry). cell_after d.geometry d.base entries b) all ∙ sym now
