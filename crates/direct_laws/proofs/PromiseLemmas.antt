-- What a cut leaves of a device in direct mode whose journal has nothing to replay: as with its placed cells, which are its cells.
use Rattle.std.proofs.Common.{inl, inr, ⊎_elim, ℕ, suc, sym, ◌∙◌, ap, subst, arith, length, take}
use Rattle.std.specs.List.{Any}
use Rattle.std.proofs.lemmas.List.{drop_all}
use Rattle.disk_model.specs.Disk.{Content}
use Rattle.image_model.specs.declared.flags.TheConstants.{DIRTY_BITMAP}
use Rattle.image_model.specs.Superblock.{has_flag}
use Rattle.device_model.specs.Mode.{DeviceFormat}
use Rattle.device_model.specs.Progress.{DeviceState, Event, Serve, FailedServe, event_result, after_event}
use Rattle.device_model.proofs.HistoryLemmas.{IsOfBlock, Any-nil}
use Rattle.place_model.specs.Format.{DiskFormat}
use Rattle.place_model.specs.Journal.{HasNothingToReplay}
use Rattle.place_model.specs.Left.{IsLeftInDirect}
use Rattle.place_model.specs.Opened.{blocks_of}
use Rattle.place_model.proofs.FormatLemmas.{format_on-is}
use Rattle.place_model.proofs.ReplayLemmas.{placed_left_law}
use Rattle.journal_laws.specs.EventLaws.{next_write}
use Rattle.direct_model.specs.DirectDisk.{DirectDisk, StandsFor}
use Rattle.direct_model.specs.Steps.{with_write, after_flush, with_fields}
use Rattle.direct_model.proofs.DirectLemmas.{journal_stays_law, standing_law, left_law, moving_law}
use Rattle.direct_laws.specs.Device.{after_changes}
use Rattle.direct_laws.specs.Within.{IsPlacedWithin, IsLeftWithin}
use Rattle.direct_laws.specs.PromiseLaws.{PlacedIsLeftLaw, StandingLeftLaw, ReopensLaw, FlushedLeftLaw, KindLeftLaw, WithinLaw, WritingLeftLaw, BackLeftLaw, RecalculatingLeftLaw, MovingLeftLaw, FailedLeftLaw}
use Rattle.direct_laws.proofs.DeviceLemmas.{after_changes-format, after_changes-journal}
use Rattle.direct_laws.proofs.PlacedLemmas.{standing_placed_law, within_placed_law, stands-writing, writing_placed_law, stands-back, back_placed_law, stands-recalculating, recalculating_placed_law, failed_placed_law}

-- ---- what joins the two

pub placed_is_left_law : PlacedIsLeftLaw
placed_is_left_law d h c stands rests each image is_image =
    placed_left_law d.format h image stands.formed.no_bitmap (journal_stays_law d c stands rests image is_image) (each image is_image)

within_joined : (f : DeviceFormat) (s : DeviceState) (event : Event) (d : DirectDisk) (c : Content) → StandsFor d c → HasNothingToReplay d.geometry d.journal
    → IsPlacedWithin f s event d.format c → IsLeftWithin f s event d.format c
within_joined f s event d c stands rests placed = record {
  history = placed.history;
  within = placed.within;
  each = placed_is_left_law d placed.history c stands rests placed.each;
}

-- Some changes leave the journal, so the two are joined after them.
changes_joined : (f : DeviceFormat) (s : DeviceState) (event : Event) (d : DirectDisk) (kept : ℕ) (c : Content)
    → StandsFor (after_changes (take kept (event_result f s event).changes) d) c → HasNothingToReplay d.geometry d.journal
    → IsPlacedWithin f s event d.format c → IsLeftWithin f s event d.format c
changes_joined f s event d kept c stands rests placed =
    let changes = take kept (event_result f s event).changes in
    let then_ = after_changes changes d in
    let format = after_changes-format changes d in
    let rests_then : HasNothingToReplay then_.geometry then_.journal =
    subst (HasNothingToReplay then_.geometry) (sym (after_changes-journal changes d)) (subst (λ (x : DiskFormat). HasNothingToReplay x.geometry d.journal) (sym format) rests) in
    subst (λ (x : DiskFormat). IsLeftWithin f s event x c) format
    (within_joined f s event then_ c stands rests_then (subst (λ (x : DiskFormat). IsPlacedWithin f s event x c) (sym format) placed))

-- ---- between calls

pub standing_left_law : StandingLeftLaw
standing_left_law f s d c is stands rests = placed_is_left_law d s.history c stands rests (standing_placed_law f s d c is stands)

pub reopens_law : ReopensLaw
reopens_law d c stands rests image is_image =
    let cut = standing_law d c stands rests image is_image in
    cut.opens.openable

pub flushed_left_law : FlushedLeftLaw
flushed_left_law d c stands rests image is_image =
    let cut = standing_law (after_flush d) c stands rests image is_image in
    record {
      opens = cut.opens;
      each = λ b low. cut.cells b low (λ any. Any-nil (IsOfBlock b) (subst (Any (IsOfBlock b)) (drop_all (length d.writes) d.writes (omega arith)) any));
    }

pub kind_left_law : KindLeftLaw
kind_left_law d entry h left same is =
    let format = format_on-is d left is.opens in
    record {
      blocks = ap blocks_of format ∙ same;
      left_is = subst (λ (x : DiskFormat). IsLeftInDirect x h left) (sym format) is;
    }

-- ---- within a call

pub within_law : WithinLaw
within_law f s event d kept c is stands rests = changes_joined f s event d kept c stands rests (within_placed_law f s event d kept c is stands)

pub writing_left_law : WritingLeftLaw
writing_left_law f s d k a first blocks fua awaiting tags old c is asked e keeps adds rests =
    let then_ = with_write d (next_write k first blocks a.served) in
    let stands = stands-writing f s d k a first blocks fua awaiting tags old c is asked e keeps adds in
    let placed = writing_placed_law f s d k a first blocks fua awaiting tags old c is asked e keeps adds in
    (within_joined f s (Serve (suc k)) then_ c stands rests placed.0, within_joined f s (FailedServe (suc k)) then_ c stands rests placed.1)

pub back_left_law : BackLeftLaw
back_left_law f s event d kept awaiting tags old c is keeps adds rests =
    changes_joined f s event d kept c (stands-back f s event d kept awaiting tags old c keeps adds) rests (back_placed_law f s event d kept awaiting tags old c is keeps adds)

pub recalculating_left_law : RecalculatingLeftLaw
recalculating_left_law f s event d region awaiting tags old c is keeps adds rests =
    within_joined f s event d c (stands-recalculating d region awaiting tags old c keeps adds) rests (recalculating_placed_law f s event d region awaiting tags old c is keeps adds)

pub moving_left_law : MovingLeftLaw
moving_left_law d fields h tags bytes first c history stands rests settled moved reads has size head adds image is_image = ⊎_elim
    (λ old. inl (left_law d h image history old))
    (λ new. inr (left_law (with_fields d fields) h image (record { base = history.base; writes = history.writes; flushed = history.flushed; flushed_low = history.flushed_low }) new))
    (moving_law d fields tags bytes first c stands rests settled moved reads has size head adds image is_image)

-- ---- a disk that fails

pub failed_left_law : FailedLeftLaw
failed_left_law f s ticket d c is stands rests = placed_is_left_law d (after_event f s (FailedServe ticket)).history c stands rests (failed_placed_law f s ticket d c is stands)
