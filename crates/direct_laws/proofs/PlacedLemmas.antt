-- What a cut leaves of a device in direct mode, by superblock and geometry alone.
use Rattle.std.proofs.Common.{◌≡◌, inl, inr, ⊎_elim, ℕ, suc, Bool, refl, sym, ◌∙◌, ap, subst, None, arith, List, [], ◌∷◌, length, take}
use Rattle.std.specs.List.{Any}
use Rattle.std.proofs.lemmas.List.{drop_all}
use Rattle.disk_model.specs.Disk.{Content, Image, OnlyAdds}
use Rattle.image_model.specs.declared.flags.TheConstants.{DIRTY_BITMAP}
use Rattle.image_model.specs.Superblock.{has_flag}
use Rattle.device_model.specs.History.{BlockWrite, History, Change, Begun, Written, Flushed, with_changes}
use Rattle.device_model.specs.Mode.{DeviceFormat}
use Rattle.device_model.specs.Progress.{Condition, Working, Broken, Closed, DeviceState, Event, Serve, FailedServe, first_begun, serve, result_in, event_result}
use Rattle.device_model.specs.Request.{Write, Asked}
use Rattle.device_model.proofs.HistoryLemmas.{IsOfBlock, Any-nil}
use Rattle.place_model.specs.Format.{DiskFormat}
use Rattle.place_model.specs.Left.{IsLeftPlaced}
use Rattle.place_model.specs.Opened.{blocks_of}
use Rattle.place_model.specs.Tags.{IsOfTags}
use Rattle.place_model.proofs.FormatLemmas.{format_on-read}
use Rattle.place_model.proofs.LeftLemmas.{placed_pending_law}
use Rattle.journal_laws.specs.EventLaws.{IsServed, next_write}
use Rattle.direct_model.specs.DirectDisk.{DirectDisk, StandsFor}
use Rattle.direct_model.specs.Steps.{with_write, after_flush, with_fields, IsOfWrite}
use Rattle.direct_model.proofs.DirectLemmas.{placed_standing_law, placed_left_law, writing_law, tags_written_law, placed_moving_law}
use Rattle.direct_laws.specs.ReadLaws.{KeepsCells, recalculated_tags}
use Rattle.direct_laws.specs.Device.{IsDirectDevice, after_changes}
use Rattle.direct_laws.specs.Within.{IsPlacedWithin}
use Rattle.direct_laws.specs.PlacedLaws.{StandingPlacedLaw, ReopensPlacedLaw, FlushedPlacedLaw, KindPlacedLaw, WithinPlacedLaw, WritingPlacedLaw, BackPlacedLaw, RecalculatingPlacedLaw, MovingPlacedLaw, FailedPlacedLaw}
use Rattle.direct_laws.proofs.DeviceLemmas.{after_changes-format, history-within, idle-works}
use Rattle.direct_laws.proofs.ReadLemmas.{are_tags, are_recalculated}
use Rattle.direct_laws.proofs.EventLemmas.{served-changes, next_is_block, failed_write}

-- ---- between calls

pub standing_placed_law : StandingPlacedLaw
standing_placed_law f s d c is stands image is_image = placed_left_law d s.history image is.history (placed_standing_law d c stands image is_image)

pub reopens_placed_law : ReopensPlacedLaw
reopens_placed_law d c stands image is_image =
    let cut = placed_standing_law d c stands image is_image in
    (cut.reads.readable, ap (λ (x : DiskFormat). has_flag DIRTY_BITMAP x.superblock.flags) (format_on-read d.format image cut.reads) ∙ stands.formed.no_bitmap)

pub flushed_placed_law : FlushedPlacedLaw
flushed_placed_law d c stands image is_image =
    let cut = placed_standing_law (after_flush d) c stands image is_image in
    record {
      reads = cut.reads;
      each = λ b low. cut.cells b low (λ any. Any-nil (IsOfBlock b) (subst (Any (IsOfBlock b)) (drop_all (length d.writes) d.writes (omega arith)) any));
    }

pub kind_placed_law : KindPlacedLaw
kind_placed_law d entry h left same is =
    let format = format_on-read d left is.reads in
    record {
      blocks = ap blocks_of format ∙ same;
      left_is = subst (λ (x : DiskFormat). IsLeftPlaced x h left) (sym format) is;
    }

-- ---- within a call

pub within_placed_law : WithinPlacedLaw
within_placed_law f s event d kept c is stands =
    let changes = take kept (event_result f s event).changes in
    record {
      history = with_changes changes s.history;
      within = record { kept = kept; is = refl };
      each = λ image is_image.
          subst (λ (x : DiskFormat). IsLeftPlaced x (with_changes changes s.history) image) (after_changes-format changes d)
          (placed_left_law (after_changes changes d) (with_changes changes s.history) image (history-within f s event d is kept) (placed_standing_law (after_changes changes d) c stands image is_image));
    }

-- After the first change a write is among the writes of the disk.
begun_within : (f : DeviceFormat) (s : DeviceState) (event : Event) (d : DirectDisk) (write : BlockWrite) (changes : List Change) (c : Content) → IsDirectDevice f s d
    → (event_result f s event).changes ≡ Begun write ∷ changes → StandsFor (with_write d write) c → IsPlacedWithin f s event d.format c
begun_within f s event d write changes c is e stands =
    within_placed_law f s event d 1 c is (subst (λ (xs : List Change). StandsFor (after_changes (take 1 xs) d) c) (sym e) stands)

-- While a block is written the disk stands for the one with the write,
pub stands-writing : (f : DeviceFormat) (s : DeviceState) (d : DirectDisk) (k : ℕ) (a : Asked) (first : ℕ) (blocks : List (List ℕ)) (fua : Bool) (awaiting : ℕ → Bool) (tags : ℕ → List ℕ) (old c : Content)
    → IsDirectDevice f s d → IsServed s k a → a.request ≡ Write first blocks fua → KeepsCells d awaiting tags old → OnlyAdds (IsOfWrite d (next_write k first blocks a.served) tags) old c
    → StandsFor (with_write d (next_write k first blocks a.served)) c
stands-writing f s d k a first blocks fua awaiting tags old c is asked e keeps adds =
    writing_law d (next_write k first blocks a.served) tags old c keeps.stands (next_is_block f s d k a first blocks fua is asked e) (are_tags d awaiting tags old keeps) adds

pub writing_placed_law : WritingPlacedLaw
writing_placed_law f s d k a first blocks fua awaiting tags old c is asked e keeps adds =
    let write = next_write k first blocks a.served in
    let then_ = stands-writing f s d k a first blocks fua awaiting tags old c is asked e keeps adds in (
      begun_within f s (Serve (suc k)) d write _ c is (served-changes f s d k a is asked (Write first blocks fua) e) then_,
      begun_within f s (FailedServe (suc k)) d write [] c is (failed_write f s d k a first blocks fua is asked e) then_,
    )

-- while tags are written back for the one after some changes,
pub stands-back : (f : DeviceFormat) (s : DeviceState) (event : Event) (d : DirectDisk) (kept : ℕ) (awaiting : ℕ → Bool) (tags : ℕ → List ℕ) (old c : Content)
    → KeepsCells (after_changes (take kept (event_result f s event).changes) d) awaiting tags old → OnlyAdds (IsOfTags d.geometry tags tags) old c
    → StandsFor (after_changes (take kept (event_result f s event).changes) d) c
stands-back f s event d kept awaiting tags old c keeps adds =
    let changes = take kept (event_result f s event).changes in
    let are = are_tags (after_changes changes d) awaiting tags old keeps in
    tags_written_law (after_changes changes d) tags tags old c keeps.stands are are
    (subst (λ (x : DiskFormat). OnlyAdds (IsOfTags x.geometry tags tags) old c) (sym (after_changes-format changes d)) adds)

pub back_placed_law : BackPlacedLaw
back_placed_law f s event d kept awaiting tags old c is keeps adds =
    within_placed_law f s event d kept c is (stands-back f s event d kept awaiting tags old c keeps adds)

-- and while a region is recalculated for itself.
pub stands-recalculating : (d : DirectDisk) (region : ℕ) (awaiting : ℕ → Bool) (tags : ℕ → List ℕ) (old c : Content)
    → KeepsCells d awaiting tags old → OnlyAdds (IsOfTags d.geometry tags (recalculated_tags d region old tags)) old c → StandsFor d c
stands-recalculating d region awaiting tags old c keeps adds =
    tags_written_law d tags (recalculated_tags d region old tags) old c keeps.stands (are_tags d awaiting tags old keeps) (are_recalculated d region awaiting tags old keeps) adds

pub recalculating_placed_law : RecalculatingPlacedLaw
recalculating_placed_law f s event d region awaiting tags old c is keeps adds =
    within_placed_law f s event d 0 c is (stands-recalculating d region awaiting tags old c keeps adds)

pub moving_placed_law : MovingPlacedLaw
moving_placed_law d fields h tags bytes first c history stands settled moved reads has size head adds image is_image = ⊎_elim
    (λ old. inl (placed_left_law d h image history old))
    (λ new. inr (placed_left_law (with_fields d fields) h image (record { base = history.base; writes = history.writes; flushed = history.flushed; flushed_low = history.flushed_low }) new))
    (placed_moving_law d fields tags bytes first c stands settled moved reads has size head adds image is_image)

-- ---- a disk that fails

begun_left : (d : DiskFormat) (h : History) (changes : List Change) (image : Image) → h.pending ≡ None → IsLeftPlaced d h image → IsLeftPlaced d (with_changes (first_begun changes) h) image
begun_left d h [] image idle left = left
begun_left d h (Begun write ∷ changes) image idle left = placed_pending_law d h write image idle left
begun_left d h (Written write ∷ changes) image idle left = left
begun_left d h (Flushed ∷ changes) image idle left = left

pub failed_placed_law : FailedPlacedLaw
failed_placed_law f s ticket d c is stands image is_image = by_condition s.condition refl
  where
    left : IsLeftPlaced d.format s.history image
    left = standing_placed_law f s d c is stands image is_image

    by_condition : (now : Condition) → s.condition ≡ now → IsLeftPlaced d.format (with_changes (result_in f s now (FailedServe ticket)).changes s.history) image
    by_condition Working e = begun_left d.format s.history (serve f s ticket).changes image (idle-works f s is.reached e) left
    by_condition Broken e = left
    by_condition Closed e = left
