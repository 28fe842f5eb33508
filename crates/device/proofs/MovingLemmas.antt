-- What a call keeps of a device in direct or in journal mode, whose position may move in it.
use Rattle.std.proofs.Common.{◌≡◌, ◌⊎◌, inl, inr, ℕ, ◌≤◌, Bool, true, false, refl, sym, ◌∙◌, subst, arith, Option, Some, None, List}
use Rattle.disk_model.specs.Disk.{Content, OnlyAdds}
use Rattle.disk_model.specs.Moments.{EachSince}
use Rattle.disk_model.proofs.MomentsLemmas.{EachMoment-kept, adds_wider}
use Rattle.image_model.specs.Geometry.{Geometry, IsGeometry, initial}
use Rattle.image_model.specs.Superblock.{Superblock}
use Rattle.direct_laws.specs.CallLaws.{ReadsImage}
use Rattle.place_model.specs.Places.{IsOfPlaces}
use Rattle.recalculation.specs.declared.recalculating.Recalculation.{Recalculation}
use Rattle.recalculation.specs.Recalculation.{HasFieldsThrough, IsOfTagsOrHead, WritesRegion, next_of}
use Rattle.place_model.specs.Tags.{HoldsTag}
use Rattle.device_model.specs.Mode as Model
use Rattle.device_model.specs.declared.actor.Actor.{Actor}
use Rattle.device_model.specs.declared.actor.Actor.TheVariants as Actors
use Rattle.device_parts.specs.declared.condition.Condition.{Condition}
use Rattle.device_parts.specs.declared.condition.Condition.TheVariants.{Working}
use Rattle.device_parts.specs.declared.parts.Parts.{Parts}
use Rattle.device_parts.specs.Device.{Standing, standing_after}
use Rattle.direct_device.specs.declared.parts.DirectParts.{DirectParts}
use Rattle.direct_device.specs.Answers as InDirect
use Rattle.direct_device.specs.Device.{IsDirect, in_direct}
use Rattle.journal_device.specs.declared.parts.JournalParts.{JournalParts}
use Rattle.journal_device.specs.Device.{IsJournaled, in_journal}
use Rattle.place_model.specs.Awaiting.{AwaitsNoMore, HasNoMoreIn}
use Rattle.device.specs.Device.{IsEmptied, IsInJournalMode}
use Rattle.device.proofs.AwaitingLemmas.{heads_direct, heads_journal, heads_no_more, heads_stay, no_more_behind}
use Rattle.device.proofs.EmptiedLemmas.{StaysEmpty, head_or_behind, place_behind, stays_read}
use Rattle.device.proofs.ModeLemmas.{KeepsFor, in_direct_mode, in_journal_mode, plain_direct, plain_journal}

-- ---- what direct mode writes

-- In a step sectors of tags, and sector 0,
region_adds : (o : Option ℕ) (g : Geometry) {a b : List Content} → WritesRegion o g a b → EachSince (OnlyAdds (IsOfTagsOrHead g)) a b
region_adds None g same = EachMoment-kept _ same
region_adds (Some region) g writes = writes

pub step_adds : (actor : Actor) (common : Parts) (r : Recalculation) {a b : List Content} → InDirect.WritesAs actor common r a b → EachSince (OnlyAdds (IsOfTagsOrHead common.tags.geometry)) a b
step_adds Actors.Commit common r same = EachMoment-kept _ same
step_adds Actors.Place common r same = EachMoment-kept _ same
step_adds Actors.Settle common r same = EachMoment-kept _ same
step_adds Actors.Clean common r same = EachMoment-kept _ same
step_adds Actors.Recalc common r writes = region_adds (next_of r) common.tags.geometry writes

-- and so in a close.
pub close_adds : (t : Bool) (g : Geometry) {a b : List Content} → InDirect.WritesClose t g a b → EachSince (OnlyAdds (IsOfTagsOrHead g)) a b
close_adds true g writes = writes
close_adds false g writes = adds_wider (λ sector x. HoldsTag g sector) (IsOfTagsOrHead g) (λ sector x tag. inl tag) writes

-- ---- direct mode

-- The blocks of a device that works lie where its disk has them.
pub own_places : (w : Standing) (old : DirectParts) (a : List Content) → IsDirect w Working old a → old.parts.tags.geometry ≡ w.on.geometry
own_places w old a is = sym (is.over.works refl).cells.geometry ∙ is.format.geometry

-- A place is not sector 0.
not_first : (g : Geometry) (sectors : ℕ) (IsWritten : ℕ → Type 0) (x : List ℕ) → IsGeometry g sectors → IsOfPlaces g IsWritten 0 x → ⊥
not_first g sectors IsWritten x geometry of = let behind = place_behind g sectors IsWritten 0 x geometry of in omega (arith, behind)

-- Where nothing is written but places each image has the fields that it had.
pub places_fields : (IsWritten : ℕ → Type 0) (old : DirectParts) (a b : List Content) → EachSince (OnlyAdds (IsOfPlaces old.parts.tags.geometry IsWritten)) a b
    → (w : Standing) → IsDirect w Working old a → HasFieldsThrough w.on old.recalculation.position old.recalculation.position a b
places_fields IsWritten old a b writes w is =
    let heads = heads_direct w old a is in
    let geometry = (heads is.over.told is.over.is_told).is_geometry in
    heads_stay w old.recalculation.position (IsOfPlaces old.parts.tags.geometry IsWritten)
    (λ x of. not_first w.on.geometry w.on.sectors IsWritten x geometry (subst (λ (g : Geometry). IsOfPlaces g IsWritten 0 x) (own_places w old a is) of)) heads writes

-- What is written lies at sector 0, or behind the journal.
pub record IsOutside (W : ℕ → List ℕ → Type 0) (g : Geometry) : Type 0 where
  pub each : (sectors : ℕ) → IsGeometry g sectors → (sector : ℕ) (x : List ℕ) → W sector x → (sector ≡ 0) ⊎ (initial g ≤ sector)

pub places_outside : (IsWritten : ℕ → Type 0) (g : Geometry) → IsOutside (IsOfPlaces g IsWritten) g
places_outside IsWritten g = record { each = λ sectors geometry sector x of. inr (place_behind g sectors IsWritten sector x geometry of) }

pub head_outside : (g : Geometry) → IsOutside (IsOfTagsOrHead g) g
head_outside g = record { each = λ sectors geometry sector x of. head_or_behind g sectors sector x geometry of }

module _ (old : DirectParts) (a b : List Content) (reads : ReadsImage a) (new : Superblock) (moved : (g : Geometry) → AwaitsNoMore g old.recalculation.position new)
    (heads : (w : Standing) → IsDirect w Working old a → HasFieldsThrough w.on old.recalculation.position new a b) where
  -- No block more awaits at any moment,
  pub direct_tags : (w : Standing) → IsEmptied w Working old a → HasNoMoreIn w.on.geometry w.entry a b
  direct_tags w is = heads_no_more w old.recalculation.position new (is.no_more refl) (moved w.on.geometry) (heads w is.direct)

  module _ (W : ℕ → List ℕ → Type 0) (outside : IsOutside W old.parts.tags.geometry) (writes : EachSince (OnlyAdds W) a b) where
    -- each journal stays empty,
    pub direct_stays : (w : Standing) → IsEmptied w Working old a → StaysEmpty w.on a b
    direct_stays w is =
        let within = subst (λ (g : Geometry). IsOutside W g) (own_places w old a is.direct) outside in
        stays_read w old.recalculation.position new W is.direct.over.told (within.each w.on.sectors) reads is.direct.over.is_told (heads_direct w old a is.direct) (heads w is.direct) is.emptied writes

    -- and both is kept of the device then.
    pub direct_keeps : (later : DirectParts) → ReadsImage b → KeepsFor in_direct Model.Direct in_direct_mode plain_direct old later a b
    direct_keeps later reads_then w event c is after = (
      (direct_stays w is).now,
      λ works.
          let now = subst (λ (x : Condition). IsDirect (standing_after w event) x later b) works after in
          no_more_behind w old.recalculation.position later.recalculation.position after.over.told after.over.is_told reads_then (is.no_more refl) (heads_direct w old a is.direct) (direct_tags w is)
          (heads_direct (standing_after w event) later b now),
    )

-- ---- journal mode

module _ (old : JournalParts) (a b : List Content) (new : Superblock) (moved : (g : Geometry) → AwaitsNoMore g old.state.recalculation.position new)
    (heads : (w : Standing) → IsJournaled w Working old a → HasFieldsThrough w.on old.state.recalculation.position new a b) where
  pub journal_tags : (w : Standing) → IsInJournalMode w Working old a → HasNoMoreIn w.on.geometry w.entry a b
  journal_tags w is = heads_no_more w old.state.recalculation.position new (is.no_more refl) (moved w.on.geometry) (heads w is.journaled)

  pub journal_keeps : (later : JournalParts) → ReadsImage b → KeepsFor in_journal Model.Journal in_journal_mode plain_journal old later a b
  journal_keeps later reads_then w event c is after = λ works.
      let now = subst (λ (x : Condition). IsJournaled (standing_after w event) x later b) works after in
      no_more_behind w old.state.recalculation.position later.state.recalculation.position after.over.told after.over.is_told reads_then (is.no_more refl) (heads_journal w old a is.journaled) (journal_tags w is)
      (heads_journal (standing_after w event) later b now)
