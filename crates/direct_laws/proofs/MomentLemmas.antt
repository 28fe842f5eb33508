-- What may be left at each moment of a call, from what the disk stands for there.
use Rattle.std.proofs.Common.{◌≡◌, ℕ, suc, refl, sym, ◌∙◌, ap, subst, Option, Some, List, [], ◌∷◌, take}
use Rattle.std.proofs.lemmas.Option.{same_Some}
use Rattle.disk_model.specs.Disk.{Content, Image, EachImage, last_image, newest_only}
use Rattle.disk_model.specs.Moments.{EachMoment, content_now}
use Rattle.disk_model.proofs.DiskLemmas.{newest_only-pending}
use Rattle.disk_model.proofs.MomentsLemmas.{EachMoment-weaker, FromStart-weaker}
use Rattle.device_model.specs.History.{Change, History, Begun}
use Rattle.device_model.specs.Mode.{Direct, DeviceFormat}
use Rattle.device_model.specs.Progress.{DeviceState, Event, Serve, FailedServe, event_result, after_event}
use Rattle.device_model.specs.Request.{Write}
use Rattle.place_model.specs.Format.{DiskFormat, HasWholeSectors, format_on}
use Rattle.place_model.specs.Kind.{CanOpenPlaced, placed_kind}
use Rattle.place_model.specs.Left.{IsLeftPlaced}
use Rattle.place_model.specs.Opened.{awaiting_on}
use Rattle.place_model.proofs.FormatLemmas.{reads_on}
use Rattle.journal_laws.specs.EventLaws.{next_write}
use Rattle.direct_model.specs.DirectDisk.{DirectDisk, StandsFor}
use Rattle.direct_model.specs.Opening.{placed_disk}
use Rattle.direct_model.specs.Steps.{with_write}
use Rattle.direct_model.proofs.OpeningLemmas.{placed_opened_law}
use Rattle.direct_laws.specs.Device.{IsDirectDevice, after_changes}
use Rattle.direct_laws.specs.ReadLaws.{KeepsCells}
use Rattle.direct_laws.specs.MomentLaws.{IsLeftThrough, kind_of, HasBlocksOf, OpeningSyncLaw, OpeningDoneLaw, LeftNowLaw, KeptThroughLaw, WrittenThroughLaw, FailedNowLaw}
use Rattle.direct_laws.specs.Within.{IsPlacedWithin, IsWithin}
use Rattle.direct_laws.proofs.CallLemmas.{came_from}
use Rattle.direct_laws.proofs.DeviceLemmas.{placed_opening_law}
use Rattle.direct_laws.proofs.EventLemmas.{served-changes, failed_write, failed_write_law}
use Rattle.direct_laws.proofs.PlacedLemmas.{standing_placed_law, reopens_placed_law, kind_placed_law, within_placed_law, failed_placed_law}
use Rattle.direct_laws.proofs.ReadLemmas.{keeps_placed}

-- ---- the kind

-- Each image that may be left with its placed cells may be left of the kind.
each_of_kind : (d : DirectDisk) (entry : Image) (h : History) (c : Content) → HasBlocksOf entry d → EachImage (IsLeftPlaced d.format h) c → EachImage ((kind_of d).MayBeLeft entry h) c
each_of_kind d entry h c same each image is = kind_placed_law d.format entry h image same (each image is)

within_kind : (f : DeviceFormat) (s : DeviceState) (event : Event) (d : DirectDisk) (entry : Image) (c : Content) → HasBlocksOf entry d → IsPlacedWithin f s event d.format c
    → IsWithin ((kind_of d).MayBeLeft entry) f s event c
within_kind f s event d entry c same is = record { history = is.history; within = is.within; each = each_of_kind d entry is.history c same is.each }

-- ---- a call

pub left_now_law : LeftNowLaw
left_now_law f s d entry a is same stands = record {
  opens = λ c told. reopens_placed_law d c (stands c told);
  left = λ c told. each_of_kind d entry s.history c same (standing_placed_law f s d c is (stands c told));
}

-- What the disk stands for after some of the changes of an event is left within it.
through_changes : (f : DeviceFormat) (s : DeviceState) (event : Event) (d then_ : DirectDisk) (entry : Image) (kept : ℕ) (a b : List Content) → IsDirectDevice f s d → HasBlocksOf entry d
    → then_ ≡ after_changes (take kept (event_result f s event).changes) d → then_.format ≡ d.format → EachMoment a b (StandsFor then_) → IsLeftThrough (kind_of d) entry f s event a b
through_changes f s event d then_ entry kept a b is same are format m = record {
  opens = EachMoment-weaker (λ c stands. subst (λ (x : DiskFormat). EachImage (CanOpenPlaced x.key x.sectors) c) format (reopens_placed_law then_ c stands)) m;
  left = EachMoment-weaker (λ c stands. within_kind f s event d entry c same (within_placed_law f s event d kept c is (subst (λ (x : DirectDisk). StandsFor x c) are stands))) m;
}

pub kept_through_law : KeptThroughLaw
kept_through_law f s event d entry a b is same through = (
  through_changes f s event d d entry 0 a b is same refl refl through.moments,
  left_now_law f s d entry b is same through.now,
  λ ticket. record {
    opens = λ c told. reopens_placed_law d c (through.now c told);
    left = λ c told. each_of_kind d entry (after_event f s (FailedServe ticket)).history c same (failed_placed_law f s ticket d c is (through.now c told));
  },
)

pub written_through_law : WrittenThroughLaw
written_through_law f s d k r first blocks fua entry a b is same served e through =
    let write = next_write k first blocks r.served in
    let first_of : (changes : List Change) → changes ≡ Begun write ∷ [] → with_write d write ≡ after_changes changes d = λ changes are. sym (ap (λ (xs : List Change). after_changes xs d) are) in (
      through_changes f s (Serve (suc k)) d (with_write d write) entry 1 a b is same
          (first_of (take 1 (event_result f s (Serve (suc k))).changes) (ap (take 1) (served-changes f s d k r is served (Write first blocks fua) e))) refl through.moments,
      through_changes f s (FailedServe (suc k)) d (with_write d write) entry 1 a b is same
          (first_of (take 1 (event_result f s (FailedServe (suc k))).changes) (ap (take 1) (failed_write f s d k r first blocks fua is served e))) refl through.moments,
    )

pub failed_now_law : FailedNowLaw
failed_now_law f s d k r first blocks fua entry a is same served e stands =
    let write = next_write k first blocks r.served in
    left_now_law f (after_event f s (FailedServe (suc k))) (with_write d write) entry a (failed_write_law f s d k r first blocks fua is served e).1 same stands

-- ---- opening

module _ (key : Option (List ℕ)) (sectors : ℕ) (start : Content)
    (can : CanOpenPlaced key sectors (last_image start) × HasWholeSectors (format_on key sectors (last_image start)) (last_image start)) where
  abbrev image : Image
  image = last_image start

  abbrev format : DiskFormat
  format = format_on key sectors image

  -- The device is one on its placed cells,
  device : IsDirectDevice ((placed_kind key sectors).format image) ((placed_kind key sectors).opened image) (placed_disk format image)
  device = placed_opening_law format image can.0.1

  -- for which the disk stands after a sync.
  stands_opened : StandsFor (placed_disk format image) (newest_only start)
  stands_opened = placed_opened_law format (newest_only start) (reads_on key sectors image can.0.0) can.0.1 (newest_only-pending start) can.1

  left_opened : EachImage ((placed_kind key sectors).MayBeLeft image ((placed_kind key sectors).opened image).history) (newest_only start)
  left_opened =
      each_of_kind (placed_disk format image) image ((placed_kind key sectors).opened image).history (newest_only start) refl
      (standing_placed_law ((placed_kind key sectors).format image) ((placed_kind key sectors).opened image) (placed_disk format image) (newest_only start) device stands_opened)

pub opening_sync_law : OpeningSyncLaw
opening_sync_law key sectors a b is_image can m =
    let kind = placed_kind key sectors in (
      EachMoment-weaker (FromStart-weaker a (λ start c. c ≡ newest_only start) (λ start. EachImage (kind.MayBeLeft (last_image start) (kind.opened (last_image start)).history)) (λ start c told is.
          subst (EachImage (kind.MayBeLeft (last_image start) (kind.opened (last_image start)).history)) (sym is) (left_opened key sectors start (can start told)))) m,
      EachMoment-weaker (FromStart-weaker a (λ start c. c ≡ newest_only start) (λ start. EachImage kind.CanOpen) (λ start c told is.
          subst (EachImage kind.CanOpen) (sym is)
          (reopens_placed_law (placed_disk (format_on key sectors (last_image start)) (last_image start)) (newest_only start) (stands_opened key sectors start (can start told))))) m,
    )

pub opening_done_law : OpeningDoneLaw
opening_done_law key sectors tags a b is_image can synced placed start told = record {
  device = device key sectors start (can start told);
  keeps = λ c told_c.
      let first = came_from (content_now a) newest_only c (sym synced ∙ told_c) in
      let same : start ≡ first.0 = same_Some start first.0 (sym told ∙ first.1) in
      let is : newest_only start ≡ c = ap newest_only same ∙ first.2 in
      subst (λ (x : Content). KeepsCells (placed_disk (format_on key sectors (last_image start)) (last_image start)) (awaiting_on Direct (format_on key sectors (last_image start)) (last_image start)) (tags x) x) is
      (keeps_placed (format_on key sectors (last_image start)) start (tags (newest_only start)) (is_image start told) (reads_on key sectors (last_image start) (can start told).0.0) (can start told).0.1 (can start told).1
      (placed (newest_only start) (told_c ∙ ap (λ (x : Content). Some x) (sym is))));
}
