-- In direct mode every journal stays empty, so what may be left by placed cells may be left in direct mode.
use Rattle.std.proofs.Common.{◌≡◌, ◌⊎◌, inl, inr, ⊎_elim, ℕ, ◌<◌, ◌≤◌, nat_lt, Bool, true, false, ◌&&◌, if◌then◌else◌, refl, sym, ◌∙◌, ap, subst, arith, Some, List, [], ◌∷◌}
use Rattle.std.specs.List.{AllByRecursion, Contains}
use Rattle.std.proofs.lemmas.Bool.{and_parts, lt-ltb, ltb-true}
use Rattle.std.proofs.lemmas.List.{append_cancel_right}
use Rattle.disk_model.specs.Disk.{Content, EachImage, Image, IsImage, OnlyAdds, last_image}
use Rattle.disk_model.specs.Moments.{EachMoment, EachSince, HasNow, content_now}
use Rattle.disk_model.proofs.MomentsLemmas.{EachMoment-kept, EachMoment-weaker, content_at_end, each_content}
use Rattle.image_model.specs.Geometry.{Geometry, IsGeometry, initial}
use Rattle.image_model.specs.Superblock.{Superblock}
use Rattle.image_model.proofs.GeometryLemmas.{data_at-inside}
use Rattle.device_model.specs.History.{History}
use Rattle.device_model.specs.Mode.{DeviceFormat, Direct}
use Rattle.device_model.specs.Progress.{DeviceState, Event}
use Rattle.place_model.specs.Format.{DiskFormat, IsReadAs, format_on}
use Rattle.place_model.specs.Journal.{HasNothingToReplay, IsOfJournal}
use Rattle.place_model.specs.Kind.{kind_in, placed_kind}
use Rattle.place_model.proofs.FormatLemmas.{format_on-read, reads_tells}
use Rattle.place_model.proofs.JournalLemmas.{journal-before}
use Rattle.place_model.proofs.ReplayLemmas.{same_left_law, same_opening_law}
use Rattle.place_model.proofs.TagsLemmas.{tag_byte-behind}
use Rattle.direct_laws.specs.CallLaws.{ReadsImage}
use Rattle.direct_laws.specs.MomentLaws.{IsLeftNow, IsLeftThrough}
use Rattle.place_model.specs.Places.{IsOfPlaces}
use Rattle.recalculate_laws.specs.Formats.{under_fields}
use Rattle.recalculation.specs.Recalculation.{HasFieldsThrough, IsOfTagsOrHead}
use Rattle.device_parts.specs.Device.{Standing}
use Rattle.device.proofs.AwaitingLemmas.{HasHeads, heads_read}
use Rattle.place_model.specs.EmptyJournal.{HasEmptyJournal, IsEmptyJournal}
use Rattle.device_opening.proofs.EmptiedLemmas.{empty_replays_nothing, empty_same}

-- Each image at each moment of a call, and at its end, has an empty journal, by its own fields.
pub record StaysEmpty (f : DiskFormat) (before after : List Content) : Type 0 where
  pub through : EachMoment before after (EachImage (λ image. HasEmptyJournal (format_on f.key f.sectors image) image))
  pub now : HasNow (EachImage (λ image. HasEmptyJournal (format_on f.key f.sectors image) image)) after

-- ---- where the journal's sectors stay

-- A place lies behind the journal.
pub place_behind : (g : Geometry) (sectors : ℕ) (IsWritten : ℕ → Type 0) (sector : ℕ) (x : List ℕ) → IsGeometry g sectors → IsOfPlaces g IsWritten sector x → initial g ≤ sector
place_behind g sectors IsWritten sector x geometry of = elim of [
  | inl tag ↦ let behind = tag_byte-behind g sectors tag.block tag.byte geometry tag.block_low in omega (arith, behind, tag.is)
  | inr written ↦
      let inside = data_at-inside g sectors written.block geometry written.data_.low in
      omega (arith, inside.0, written.data_.begins)
]

-- So does a sector of tags, and sector 0 before it.
pub head_or_behind : (g : Geometry) (sectors : ℕ) (sector : ℕ) (x : List ℕ) → IsGeometry g sectors → IsOfTagsOrHead g sector x → (sector ≡ 0) ⊎ (initial g ≤ sector)
head_or_behind g sectors sector x geometry of = elim of [
  | inl tag ↦ let behind = tag_byte-behind g sectors tag.block tag.byte geometry tag.block_low in inr (omega (arith, behind, tag.is))
  | inr head ↦ inl head
]

-- An image that is read in a format of the device has an empty journal where another one has, whose sectors of the journal
-- are the same.
empty_read : (on : DiskFormat) (now was : Superblock) (image before : Image) → IsReadAs (under_fields on now) image → IsReadAs (under_fields on was) before
    → ((sector : ℕ) → IsOfJournal on.geometry sector → image sector ≡ before sector)
    → HasEmptyJournal (format_on on.key on.sectors before) before → HasEmptyJournal (format_on on.key on.sectors image) image
empty_read on now was image before reads read journal empty =
    let there = subst (λ (f : DiskFormat). IsEmptyJournal f.geometry before) (format_on-read (under_fields on was) before read) empty.empty in
    subst (λ (f : DiskFormat). HasEmptyJournal f image) (sym (format_on-read (under_fields on now) image reads)) (record {
      reads = reads;
      empty = empty_same on.geometry on.sectors image before (reads_tells (under_fields on now) image reads).is_geometry journal there;
    })

module _ (w : Standing) (old new : Superblock) (geometry : IsGeometry w.on.geometry w.on.sectors) (W : ℕ → List ℕ → Type 0)
    (behind : (sector : ℕ) (x : List ℕ) → W sector x → (sector ≡ 0) ⊎ (initial w.on.geometry ≤ sector)) (start c : Content) (reads : IsImage start (last_image start))
    (was : EachImage (IsReadAs (under_fields w.on old)) start)
    (empty : EachImage (λ image. HasEmptyJournal (format_on w.on.key w.on.sectors image) image) start) (adds : OnlyAdds W start c) (image : Image) (is : IsImage c image)
    (now : IsReadAs (under_fields w.on old) image ⊎ IsReadAs (under_fields w.on new) image) where
  -- The sector is one of those behind sector 0 and before all areas.
  abbrev is_before : ℕ → Bool
  is_before sector = nat_lt 0 sector && nat_lt sector (initial w.on.geometry)

  -- The image with all others as they were at the start is one of the start.
  abbrev before_it : Image
  before_it sector = if is_before sector then image sector else last_image start sector

  before-same : (sector : ℕ) → 0 < sector → sector < initial w.on.geometry → before_it sector ≡ image sector
  before-same sector first low = rw (lt-ltb 0 sector first, lt-ltb sector (initial w.on.geometry) low) refl

  before-image : IsImage start before_it
  before-image sector = by (is_before sector) refl
    where
      by : (t : Bool) → (nat_lt 0 sector && nat_lt sector (initial w.on.geometry)) ≡ t → Contains (start sector) (before_it sector)
      by true e =
          let parts = and_parts (nat_lt 0 sector) (nat_lt sector (initial w.on.geometry)) e in
          let first = ltb-true 0 sector parts.0 in
          let low = ltb-true sector (initial w.on.geometry) parts.1 in
          subst (Contains (start sector)) (sym (before-same sector first low))
          (⊎_elim (λ among. among) (λ written. elim (behind sector (image sector) written) [
            | inl none ↦ absurd (omega (arith, first, none))
            | inr high ↦ absurd (omega (arith, low, high))
          ]) (adds.among sector (image sector) (is sector)))
      by false e = subst (Contains (start sector)) (sym (ap (λ (t : Bool). if t then image sector else last_image start sector) e)) (reads sector)

  journal-same : (sector : ℕ) → IsOfJournal w.on.geometry sector → image sector ≡ before_it sector
  journal-same sector of =
      let low = journal-before w.on.geometry sector of in
      sym (before-same sector (let at = of.is in omega (arith, at)) low)

  -- So it has an empty journal, too, by its own fields.
  image_stays_empty : HasEmptyJournal (format_on w.on.key w.on.sectors image) image
  image_stays_empty = elim now [
    | inl same ↦ empty_read w.on old old image before_it same (was before_it before-image) journal-same (empty before_it before-image)
    | inr moved ↦ empty_read w.on new old image before_it moved (was before_it before-image) journal-same (empty before_it before-image)
  ]

-- Two things that hold at each moment hold together.
both : {a b : List Content} {P Q : Content → Type 0} → EachMoment a b P → EachMoment a b Q → EachMoment a b (λ c. P c × Q c)
both {a} {b} {P} {Q} one other = record {
  since = one.since;
  grows = one.grows;
  each = all one.since one.each (subst (AllByRecursion Q) (append_cancel_right other.since one.since a (sym other.grows ∙ one.grows)) other.each);
}
  where
    all : (since : List Content) → AllByRecursion P since → AllByRecursion Q since → AllByRecursion (λ c. P c × Q c) since
    all [] p q = tt
    all (c ∷ since) p q = ((p.0, q.0), all since p.1 q.1)

-- So each journal stays empty where nothing is written but sector 0 and what lies behind the journal, and each image has
-- the geometry,
pub stays_read : (w : Standing) (old new : Superblock) (W : ℕ → List ℕ → Type 0) (start : Content) {a b : List Content}
    → (IsGeometry w.on.geometry w.on.sectors → (sector : ℕ) (x : List ℕ) → W sector x → (sector ≡ 0) ⊎ (initial w.on.geometry ≤ sector))
    → ReadsImage a → content_now a ≡ Some start → HasNow (HasHeads (under_fields w.on old)) a → HasFieldsThrough w.on old new a b
    → HasNow (EachImage (λ image. HasEmptyJournal (format_on w.on.key w.on.sectors image) image)) a → EachSince (OnlyAdds W) a b → StaysEmpty w.on a b
stays_read w old new W start {a} {b} behind reads told heads fields empty adds =
    let geometry = (heads start told).is_geometry in
    let each : EachMoment a b (EachImage (λ image. HasEmptyJournal (format_on w.on.key w.on.sectors image) image)) =
    EachMoment-weaker
    (λ c has image is. has.1 geometry image is (has.0 image is))
    (both fields (each_content W (λ c. IsGeometry w.on.geometry w.on.sectors → (image : Image) → IsImage c image → IsReadAs (under_fields w.on old) image ⊎ IsReadAs (under_fields w.on new) image
    → HasEmptyJournal (format_on w.on.key w.on.sectors image) image)
    (λ start told c only geometry image is now.
    image_stays_empty w old new geometry W (behind geometry) start c (reads start told) (heads_read (under_fields w.on old) start (heads start told)) (empty start told) only image is now) adds)) in
    record { through = each; now = content_at_end each empty }

-- and where nothing is written.
pub stays_still : (f : DiskFormat) {a b : List Content} → b ≡ a → HasNow (EachImage (λ image. HasEmptyJournal (format_on f.key f.sectors image) image)) a → StaysEmpty f a b
stays_still f same empty = record {
  through = EachMoment-kept _ same;
  now = subst (HasNow (EachImage (λ image. HasEmptyJournal (format_on f.key f.sectors image) image))) (sym same) empty;
}

-- ---- what may be left

-- Nothing of such an image is replayed.
nothing_to_replay : (f : DiskFormat) (image : Image) → HasEmptyJournal (format_on f.key f.sectors image) image → HasNothingToReplay (format_on f.key f.sectors image).geometry image
nothing_to_replay f image has =
    let own = format_on f.key f.sectors image in
    empty_replays_nothing own.geometry f.sectors image (reads_tells own image has.reads).is_geometry has.empty

module _ (f : DiskFormat) (entry : Image) where
  opens_direct : (c : Content) → EachImage (placed_kind f.key f.sectors).CanOpen c → EachImage (λ image. HasEmptyJournal (format_on f.key f.sectors image) image) c → EachImage (kind_in Direct f.key f.sectors).CanOpen c
  opens_direct c opens empty image is = (same_opening_law f.key f.sectors image (nothing_to_replay f image (empty image is)) (opens image is)).0

  left_direct : (h : History) (c : Content) → EachImage (placed_kind f.key f.sectors).CanOpen c → EachImage (λ image. HasEmptyJournal (format_on f.key f.sectors image) image) c → EachImage ((placed_kind f.key f.sectors).MayBeLeft entry h) c
      → EachImage ((kind_in Direct f.key f.sectors).MayBeLeft entry h) c
  left_direct h c opens empty left image is = same_left_law f.key f.sectors entry h image (nothing_to_replay f image (empty image is)) (opens image is) (left image is)

  -- What may be left by placed cells within an event may be left in direct mode,
  pub left_through_empty : (g : DeviceFormat) (s : DeviceState) (event : Event) {a b : List Content} → StaysEmpty f a b → IsLeftThrough (placed_kind f.key f.sectors) entry g s event a b
      → IsLeftThrough (kind_in Direct f.key f.sectors) entry g s event a b
  left_through_empty g s event stays left = record {
    opens = EachMoment-weaker (λ c p. opens_direct c p.0 p.1) (both left.opens stays.through);
    left = EachMoment-weaker (λ c p. record { history = p.0.history; within = p.0.within; each = left_direct p.0.history c p.1.0 p.1.1 p.0.each })
        (both left.left (both left.opens stays.through));
  }

  -- and so may what is left at its end.
  pub left_now_empty : (h : History) (a : List Content) → HasNow (EachImage (λ image. HasEmptyJournal (format_on f.key f.sectors image) image)) a → IsLeftNow (placed_kind f.key f.sectors) entry h a → IsLeftNow (kind_in Direct f.key f.sectors) entry h a
  left_now_empty h a empty left = record {
    opens = λ c told. opens_direct c (left.opens c told) (empty c told);
    left = λ c told. left_direct h c (left.opens c told) (empty c told) (left.left c told);
  }
