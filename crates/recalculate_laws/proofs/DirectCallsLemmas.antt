-- The calls that move the position of a disk in direct mode.
use Rattle.std.proofs.Common.{◌≡◌, ◌⊎◌, inl, inr, ⊎_elim, ℕ, Bool, false, refl, sym, ◌∙◌, ap, subst, arith, Ok, Some, List, length}
use Rattle.std.proofs.lemmas.Bool.{and_left, false_from_ne_true, true≢false}
use Rattle.disk_model.specs.Disk.{AddsSome, Content, EachImage, HasNothingPending, Image, IsImage, IsOfRun, last_image, newest_only, with_run}
use Rattle.disk_model.specs.Moments.{content_now}
use Rattle.disk_model.proofs.DiskLemmas.{AddsSome-adds, IsOfRun-one, OnlyAdds-wider, newest_only-last, newest_only-pending}
use Rattle.disk_model.proofs.MomentsLemmas.{EachMoment-then, EachMoment-weaker, content_at_end}
use Rattle.image_model.specs.declared.flags.TheConstants.{DIRTY_BITMAP}
use Rattle.image_model.specs.Bitmap.{is_to_recalculate}
use Rattle.image_model.specs.Geometry.{region_of}
use Rattle.image_model.specs.Superblock.{Superblock, has_flag, superblock_of}
use Rattle.device_model.specs.History.{History}
use Rattle.device_model.specs.Progress.{Close, EventResult, FailedClose, FailedStep, Recalc, Step, after_event}
use Rattle.device_model.specs.Regions.{RegionCounts, recalculated_region}
use Rattle.place_model.specs.Format.{DiskFormat}
use Rattle.place_model.specs.Kind.{CanOpenPlaced, MayBeLeftPlaced}
use Rattle.place_model.specs.Tags.{ReadsTags}
use Rattle.place_model.proofs.FormatLemmas.{format_on-read}
use Rattle.direct_model.specs.DirectDisk.{DirectDisk, IsFormed, IsPlacedCutOf, StandsFor}
use Rattle.direct_model.specs.Steps.{HasTagsOf, IsHistoryOf, IsMoved, after_flush, with_fields}
use Rattle.direct_model.proofs.DirectLemmas.{placed_left_law, placed_moving_law, placed_standing_law}
use Rattle.direct_laws.specs.MomentLaws.{HasBlocksOf, IsLeftNow, kind_of}
use Rattle.direct_laws.specs.ReadLaws.{KeepsCells}
use Rattle.direct_laws.proofs.CallLemmas.{back_done_law, back_law, came_from, each_from, sync_done_law, sync_law, through_law}
use Rattle.direct_laws.proofs.DeviceLemmas.{moved_device_law}
use Rattle.direct_laws.proofs.EventLemmas.{close_law, quiet_events_law}
use Rattle.direct_laws.proofs.PlacedLemmas.{kind_placed_law}
use Rattle.direct_laws.proofs.ReadLemmas.{keeps_moved, keeps_synced}
use Rattle.change_model.specs.Fields.{with_head}
use Rattle.recalculate_laws.specs.DirectCalls.{DirectCloseCallsLaw, DirectCutLeftLaw, DirectCutNowLaw, DirectFailedCloseLaw, DirectFailedStepLaw, DirectHeadLaw, DirectHeadMovedLaw, DirectHeadSyncThroughLaw, DirectHeadThroughLaw, DirectPositionMovedLaw, DirectSettledLaw, DirectStandsCutLaw, DirectStepCallsLaw, DirectSyncLaw, moved_disk}
use Rattle.recalculate_laws.specs.Moments.{awaiting_then}
use Rattle.recalculate_laws.specs.Position.{HasPosition, MovesPosition, moved_fields}
use Rattle.recalculate_laws.proofs.CallsLemmas.{reads_given}
use Rattle.recalculate_laws.proofs.JournalEventsLemmas.{failed_close}
use Rattle.recalculate_laws.proofs.DirectDeviceLemmas.{direct_recalc_law}
use Rattle.recalculate_laws.proofs.DirectStepLemmas.{direct_position_law, whole_head}
use Rattle.recalculate_laws.proofs.PositionLemmas.{blocks-moved, moved_head, position_law}
use Rattle.recalculate_laws.proofs.TakingLemmas.{cells_given, direct_taken_law, direct_taking_law}

-- ---- call by call

abbrev IsCut : DirectDisk → Superblock → Content → Type 0
IsCut d fields c = EachImage (λ image. IsPlacedCutOf d image ⊎ IsPlacedCutOf (with_fields d fields) image) c

cut_before : (d : DirectDisk) (fields : Superblock) (c : Content) → StandsFor d c → IsCut d fields c
cut_before d fields c stands image is = inl (placed_standing_law d c stands image is)

pub direct_stands_cut_law : DirectStandsCutLaw
direct_stands_cut_law d fields a b through = EachMoment-weaker (λ c stands. cut_before d fields c stands) through.moments

pub direct_sync_law : DirectSyncLaw
direct_sync_law d awaiting tags now a b keeps reads syncs = (
  λ c told.
      let first = came_from (content_now a) newest_only c (sym syncs.synced ∙ told) in
      let start = first.0 in
      cells_given d awaiting (tags start) (now c) c (syncs.gives start first.1 c told)
      (subst (KeepsCells d awaiting (tags start)) first.2 (keeps_synced d awaiting (tags start) start (keeps start first.1) (syncs.image start first.1))),
  record {
    image = λ c told.
        let first = came_from (content_now a) newest_only c (sym syncs.synced ∙ told) in
        subst (λ (x : Content). IsImage x (last_image x)) first.2 (newest_only-last first.0);
    none = λ c told.
        let first = came_from (content_now a) newest_only c (sym syncs.synced ∙ told) in
        subst HasNothingPending first.2 (newest_only-pending first.0);
    back = λ c told.
        let first = came_from (content_now a) newest_only c (sym syncs.synced ∙ told) in
        let start = first.0 in
        let read = reads start first.1 in
        reads_given d.geometry (tags start) (now c) c (syncs.gives start first.1 c told)
        (subst (ReadsTags d.geometry (tags start)) first.2 (record { each = read.each }));
  },
)

-- The fields that are written where these regions await.
position_moved : (d : DirectDisk) (awaiting : ℕ → Bool) → IsFormed d → HasPosition d.superblock → IsMoved d (moved_fields d.superblock d.geometry awaiting)
position_moved d awaiting formed position =
    let fields = moved_fields d.superblock d.geometry awaiting in
    (direct_position_law d awaiting fields (position_law d.superblock d.geometry d.sectors awaiting position formed.has_geometry formed.no_bitmap)).0

module _ (d : DirectDisk) (awaiting : ℕ → Bool) (tags : ℕ → List ℕ) (head : List ℕ) (start : Content) (keeps : KeepsCells d awaiting tags start)
    (image : IsImage start (last_image start)) (none : HasNothingPending start) (back : ReadsTags d.geometry tags start) (position : HasPosition d.superblock)
    (is_head : head ≡ with_head (moved_fields d.superblock d.geometry awaiting) (last_image start 0)) where
  abbrev written_fields : Superblock
  written_fields = moved_fields d.superblock d.geometry awaiting

  formed : IsFormed d
  formed = keeps.stands.formed

  moves : MovesPosition d.superblock d.geometry d.sectors awaiting written_fields
  moves = position_law d.superblock d.geometry d.sectors awaiting position formed.has_geometry formed.no_bitmap

  moved : IsMoved d written_fields
  moved = (direct_position_law d awaiting written_fields moves).0

  tells : (length head ≡ 512) × (superblock_of head ≡ Ok written_fields)
  tells =
      let told = moved_head d.superblock d.geometry d.sectors awaiting (last_image start 0) position formed.has_geometry formed.no_bitmap (whole_head d start keeps.stands image) in
      subst (λ (x : List ℕ). (length x ≡ 512) × (superblock_of x ≡ Ok written_fields)) (sym is_head) (told.0, told.1)

  -- The tags of the blocks that are passed are in place.
  passed : HasTagsOf d written_fields tags
  passed b low before after = keeps.tags_are b low (and_left (awaiting (region_of d.geometry b)) (is_to_recalculate d.superblock d.geometry b)
      (false_from_ne_true (awaiting (region_of d.geometry b)) (λ waits. true≢false (sym before ∙ sym (moves.passes b low waits) ∙ after))))

  while_written : (c : Content) → AddsSome 0 head start c → IsCut d written_fields c
  while_written c some =
      let size = tells.0 in
      placed_moving_law d written_fields tags head start c keeps.stands none moved back passed tells.0 tells.1
      (OnlyAdds-wider (IsOfRun 0 head) (λ sector x. (sector ≡ 0) × (x ≡ head)) (λ s x of. IsOfRun-one 0 head s x size of) start c (AddsSome-adds 0 head start c some))

  once_synced : KeepsCells (with_fields d written_fields) awaiting tags (newest_only (with_run 0 head start))
  once_synced = keeps_moved d written_fields awaiting tags head start keeps image none back moved moves.passes tells.0 tells.1

pub direct_head_through_law : DirectHeadThroughLaw
direct_head_through_law d awaiting tags head a b keeps settled position is_head m =
    each_from (AddsSome 0 head) _ (λ start told c some.
    while_written d awaiting (tags start) head start (keeps start told) (settled.image start told) (settled.none start told) (settled.back start told) position (is_head start told) c some) m

pub direct_head_sync_through_law : DirectHeadSyncThroughLaw
direct_head_sync_through_law d awaiting tags head a m b keeps settled position is_head written more =
    each_from (λ mid c. c ≡ newest_only mid) _ (λ mid told c is.
    let first = came_from (content_now a) (with_run 0 head) mid (sym written ∙ told) in
    let start = first.0 in
    let fields = moved_fields d.superblock d.geometry awaiting in
    let now = once_synced d awaiting (tags start) head start (keeps start first.1) (settled.image start first.1) (settled.none start first.1) (settled.back start first.1) position (is_head start first.1) in
    let same : newest_only (with_run 0 head start) ≡ c = ap newest_only first.2 ∙ sym is in
    subst (IsCut d fields) same (λ image is_image. inr (placed_standing_law (with_fields d fields) (newest_only (with_run 0 head start)) now.stands image is_image))) more

pub direct_head_law : DirectHeadLaw
direct_head_law d awaiting tags mid now head a m b keeps settled position is_head writes syncs c told =
    let second = came_from (content_now m) newest_only c (sym syncs.synced ∙ told) in
    let between = second.0 in
    let first = came_from (content_now a) (with_run 0 head) between (sym writes.written ∙ second.1) in
    let start = first.0 in
    let then_ = moved_disk d awaiting in
    let same : newest_only (with_run 0 head start) ≡ c = ap newest_only first.2 ∙ second.2 in
    cells_given then_ awaiting (tags start) (now c) c
    (λ b low. syncs.gives between second.1 c told b low ∙ writes.gives start first.1 between second.1 b low)
    (subst (KeepsCells then_ awaiting (tags start)) same
    (once_synced d awaiting (tags start) head start (keeps start first.1) (settled.image start first.1) (settled.none start first.1) (settled.back start first.1) position (is_head start first.1)))

-- ---- calls in a row

pub direct_settled_law : DirectSettledLaw
direct_settled_law d awaiting tags now a b keeps by =
    let first = back_law d d.geometry awaiting tags a by.between refl keeps by.writes_back.adds in
    let kept = back_done_law d d.geometry awaiting tags by.back a by.between refl keeps by.writes_back.adds by.writes_back.others by.writes_back.gives in
    let law = direct_sync_law d awaiting by.back now by.between b kept by.reads_back by.syncs in (
      through_law d a by.between b first (sync_law d by.between b first.now by.syncs.image by.syncs.adds),
      law.0,
      sync_done_law d d.geometry awaiting by.back now by.between b refl kept by.syncs.image by.reads_back by.syncs.synced by.syncs.gives,
      law.1,
    )

pub direct_head_moved_law : DirectHeadMovedLaw
direct_head_moved_law d awaiting tags now a b keeps settled position by = (
  EachMoment-then (direct_head_through_law d awaiting tags by.head a by.between keeps settled position by.is_head by.writes.adds)
      (direct_head_sync_through_law d awaiting tags by.head a by.between b keeps settled position by.is_head by.writes.written by.syncs.adds),
  direct_head_law d awaiting tags by.written now by.head a by.between b keeps settled position by.is_head by.writes by.syncs,
)

pub direct_position_moved_law : DirectPositionMovedLaw
direct_position_moved_law d awaiting tags now a b keeps position by =
    let fields = moved_fields d.superblock d.geometry awaiting in
    let first = direct_settled_law d awaiting tags by.settled a by.between keeps by.settles in
    let then_ = direct_head_moved_law d awaiting by.settled now by.between b first.1 first.3 position by.moves in
    (EachMoment-then (direct_stands_cut_law d fields a by.between first.0) then_.0, then_.1)

-- ---- the device

-- An image that a cut leaves can be opened, and may be left of the device with its history.
left_of : (d : DirectDisk) (h : History) (entry image : Image) → has_flag DIRTY_BITMAP d.superblock.flags ≡ false → IsHistoryOf d h → HasBlocksOf entry d → IsPlacedCutOf d image
    → CanOpenPlaced d.key d.sectors image × MayBeLeftPlaced d.key d.sectors entry h image
left_of d h entry image clear is same cut = (
  (cut.reads.readable, ap (λ (x : DiskFormat). has_flag DIRTY_BITMAP x.superblock.flags) (format_on-read d.format image cut.reads) ∙ clear),
  kind_placed_law d.format entry h image same (placed_left_law d h image is cut),
)

-- The history of the disk under other fields is the same.
history_moved : (d : DirectDisk) (fields : Superblock) (h : History) → IsHistoryOf d h → IsHistoryOf (with_fields d fields) h
history_moved d fields h is = record { base = is.base; writes = is.writes; flushed = is.flushed; flushed_low = is.flushed_low }

either_left : (d : DirectDisk) (fields : Superblock) (h : History) (entry image : Image) → IsFormed d → IsHistoryOf d h → IsMoved d fields → HasBlocksOf entry d
    → IsPlacedCutOf d image ⊎ IsPlacedCutOf (with_fields d fields) image → CanOpenPlaced d.key d.sectors image × MayBeLeftPlaced d.key d.sectors entry h image
either_left d fields h entry image formed is moved same cut = ⊎_elim
    (left_of d h entry image formed.no_bitmap is same)
    (left_of (with_fields d fields) h entry image moved.no_bitmap (history_moved d fields h is) (blocks-moved d.format fields moved.same_salt ∙ same))
    cut

pub direct_cut_left_law : DirectCutLeftLaw
direct_cut_left_law f s event h d fields entry a b within formed is moved same cut = record {
  opens = EachMoment-weaker (λ c each image is_image. (either_left d fields h entry image formed is moved same (each image is_image)).0) cut;
  left = EachMoment-weaker (λ c each. record {
    history = h;
    within = within;
    each = λ image is_image. (either_left d fields h entry image formed is moved same (each image is_image)).1;
  }) cut;
}

pub direct_cut_now_law : DirectCutNowLaw
direct_cut_now_law h d fields entry awaiting tags a b formed is moved same keeps cut =
    let left = λ (c : Content) (told : content_now b ≡ Some c) (image : Image) (is_image : IsImage c image).
    either_left d fields h entry image formed is moved same (content_at_end cut (λ start told_start. cut_before d fields start (keeps start told_start).stands) c told image is_image) in
    record { opens = λ c told image is_image. (left c told image is_image).0; left = λ c told image is_image. (left c told image is_image).1 }

pub direct_step_calls_law : DirectStepCallsLaw
direct_step_calls_law f s d region tags made now entry a m b enters takes calls =
    let waits = s.progress.regions.awaiting in
    let awaiting = awaiting_then region waits in
    let fields = moved_fields d.superblock d.geometry awaiting in
    let formed = enters.formed in
    let moves = position_law d.superblock d.geometry d.sectors awaiting enters.position formed.has_geometry formed.no_bitmap in
    let moved = position_moved d awaiting formed enters.position in
    let kept = direct_taken_law d region waits tags made a m enters.keeps takes in
    let law = direct_position_moved_law d awaiting made now m b kept enters.position calls in
    let cut = EachMoment-then (direct_stands_cut_law d fields a m (direct_taking_law d region waits tags a m enters.keeps takes.adds)) law.0 in
    let event = direct_recalc_law f s d region enters.device enters.works enters.least in
    let then_ : (after_event f s (Step Recalc)).progress.regions ≡ recalculated_region region s.progress.regions = ap (λ (x : EventResult). x.progress.regions) event.0 in (
      record {
        device = moved_device_law f (after_event f s (Step Recalc)) d fields event.1 moved
            (λ n low waits. moves.passes n low (sym (ap (λ (counts : RegionCounts). counts.awaiting (region_of d.geometry n)) then_) ∙ waits));
        through = direct_cut_left_law f s (Step Recalc) s.history d fields entry a b (record { kept = 0; is = refl }) formed enters.device.history moved enters.opened cut;
        now = direct_cut_now_law (after_event f s (Step Recalc)).history d fields entry waits tags a b formed event.1.history moved enters.opened enters.keeps cut;
      },
      law.1,
      blocks-moved d.format fields moved.same_salt ∙ enters.opened,
    )

pub direct_failed_step_law : DirectFailedStepLaw
direct_failed_step_law f s d region tags entry a b enters cut =
    let awaiting = awaiting_then region s.progress.regions.awaiting in
    let fields = moved_fields d.superblock d.geometry awaiting in
    let moved = position_moved d awaiting enters.formed enters.position in
    let device = quiet_events_law f s (FailedStep Recalc) d enters.device tt in
    record {
      device = device;
      through = direct_cut_left_law f s (FailedStep Recalc) s.history d fields entry a b (record { kept = 0; is = refl }) enters.formed enters.device.history moved enters.opened cut;
      now = direct_cut_now_law (after_event f s (FailedStep Recalc)).history d fields entry s.progress.regions.awaiting tags a b enters.formed device.history moved enters.opened enters.keeps cut;
    }

-- ---- a close

pub direct_close_calls_law : DirectCloseCallsLaw
direct_close_calls_law f s d awaiting tags settled now entry a m b is formed works same position keeps settles by =
    let first = direct_settled_law d awaiting tags settled a m keeps settles in
    let flushed = after_flush d in
    let fields = moved_fields d.superblock d.geometry awaiting in
    let law = direct_head_moved_law flushed awaiting settled now m b first.2 first.3 position by in
    let closed = close_law f s d is works in
    let h = (after_event f s Close).history in
    let whole : IsFormed flushed = record { has_geometry = formed.has_geometry; is_geometry = formed.is_geometry; no_bitmap = formed.no_bitmap; flushed_low = omega arith; base = formed.base; each = formed.each } in
    let moved = position_moved flushed awaiting whole position in
    let through = EachMoment-then (direct_stands_cut_law d fields a m first.0) (direct_head_moved_law d awaiting settled now m b first.1 first.3 position by).0 in (
      history_moved flushed fields h closed.history,
      law.1,
      direct_cut_left_law f s Close s.history d fields entry a b (record { kept = 0; is = refl }) formed is.history (position_moved d awaiting formed position) same through,
      direct_cut_now_law h flushed fields entry awaiting settled m b whole closed.history moved same first.2 law.0,
    )

pub direct_failed_close_law : DirectFailedCloseLaw
direct_failed_close_law f s d fields awaiting tags entry a b is formed moved same keeps cut = (
  direct_cut_left_law f s FailedClose s.history d fields entry a b (record { kept = 0; is = refl }) formed is.history moved same cut,
  subst (λ (h : History). IsLeftNow (kind_of d) entry h b) (sym (failed_close f s)) (direct_cut_now_law s.history d fields entry awaiting tags a b formed is.history moved same keeps cut),
)
