-- What one call of a device in bitmap mode writes, as what its event may.
use Rattle.std.proofs.Common.{◌≡◌, inl, inr, ⊎_elim, ℕ, ◌/◌, Bool, true, List, length, Option, None, Some, ◌∙◌, ap, subst, arith}
use Rattle.std.proofs.Math.Nat.{mul-div_cancel_left}
use Rattle.disk_model.specs.Disk.{Content, Image, IsOfRun as IsOfBytes, OnlyAdds}
use Rattle.disk_model.specs.Moments.{EachSince}
use Rattle.disk_model.proofs.DiskLemmas.{OnlyAdds-wider}
use Rattle.disk_model.proofs.MomentsLemmas.{EachMoment-weaker, FromStart-weaker, adds_wider}
use Rattle.image_model.specs.Geometry.{Geometry, data_at, region_of}
use Rattle.device_model.specs.History.{Change, IsWrittenIn}
use Rattle.device_model.specs.Mode as Model
use Rattle.place_model.specs.Tags.{IsOfTags, HoldsTag}
use Rattle.direct_laws.specs.CallLaws.{AddsTags}
use Rattle.bitmap_laws.specs.CallLaws.{AddsBits, IsBitmapSector}
use Rattle.place_model.specs.Places.{IsOfData}
use Rattle.tag_store.specs.Store.{IsMarkedTags, Store}
use Rattle.request_slots.specs.Flight.{turn_of}
use Rattle.request_slots.specs.declared.turn.Turn.{Turn}
use Rattle.request_slots.specs.declared.turn.Turn.TheVariants as Turns
use Rattle.device_model.specs.declared.actor.Actor.{Actor}
use Rattle.device_model.specs.declared.actor.Actor.TheVariants as Actors
use Rattle.device_parts.specs.declared.parts.Parts.{Parts}
use Rattle.device_model.specs.Regions.{with_region}
use Rattle.dirty_bitmap.specs.Bits.{bits_of}
use Rattle.bitmap_mode.specs.Closing.{IsOfClose, bits_cleared}
use Rattle.bitmap_mode.specs.States.{States, counts_of, least_awaiting}
use Rattle.bitmap_mode.specs.Writing.{IsOfMarkedBlock}
use Rattle.bitmap_device.specs.Answers.{WritesAs, WritesClean, WritesFor, WritesRecalc, least_to_clean}
use Rattle.place_model.specs.RunWrites.{IsOfRun, WritesOnly}
use Rattle.device.proofs.WritesLemmas.{WritesOnly-kept}

module _ (g : Geometry) (entry : Image) (changes : List Change) where
  abbrev Only : (before after : List Content) → Type 0
  Only before after = WritesOnly Model.Bitmap g entry changes before after

  -- A sector of tags is one of the places,
  in_tags : (sector : ℕ) (x : List ℕ) → HoldsTag g sector → IsOfRun Model.Bitmap g entry changes sector x
  in_tags sector x holds = inr (inl holds)

  -- and one of the bitmap is allowed too.
  in_bits : (y : Geometry) (bits : ℕ → Bool) (sector : ℕ) (x : List ℕ) → y ≡ g → IsBitmapSector y bits sector x → IsOfRun Model.Bitmap g entry changes sector x
  in_bits y bits sector x same is =
      let of = subst (λ (z : Geometry). IsBitmapSector z bits sector x) same is in
      inl (record { place = of.group; inside = of.inside; is = of.is })

  -- What sets or clears bits writes such alone,
  of_bits : (y : Geometry) (bits : ℕ → Bool) {a b : List Content} → y ≡ g → AddsBits y bits a b → Only a b
  of_bits y bits {a} {b} same adds =
      adds_wider (IsBitmapSector y bits) (IsOfRun Model.Bitmap g entry changes) (λ sector x of. in_bits y bits sector x same of) adds

  -- and what changes tags writes sectors of tags.
  of_changed : (y : Geometry) (old new : Content → ℕ → List ℕ) {a b : List Content} → y ≡ g → AddsTags y old new a b → Only a b
  of_changed y old new {a} {b} same adds =
      EachMoment-weaker (FromStart-weaker a (λ start. OnlyAdds (IsOfTags g (old start) (new start)) start) (OnlyAdds (IsOfRun Model.Bitmap g entry changes))
      (λ start c told only. OnlyAdds-wider (IsOfTags g (old start) (new start)) (IsOfRun Model.Bitmap g entry changes)
      (λ sector x of. in_tags sector x (record { block = of.block; byte = of.byte; block_low = of.block_low; byte_low = of.byte_low; is = of.is })) start c only))
      (subst (λ (z : Geometry). AddsTags z old new a b) same adds)

  -- So does what writes tags back.
  of_marked : (store : Store) {a b : List Content} → store.geometry ≡ g → EachSince (OnlyAdds (IsMarkedTags store)) a b → Only a b
  of_marked store same writes =
      adds_wider (IsMarkedTags store) (IsOfRun Model.Bitmap g entry changes)
      (λ sector x of. in_tags sector x (subst (λ (z : Geometry). HoldsTag z sector) same of.tags)) writes

  module _ (parts : Parts) (s : States) where
    -- ---- a serve

    pub bitmap_serve_only : (ticket : ℕ) → s.geometry ≡ g → parts.tags.geometry ≡ g
        → ((block : ℕ) (is_flushed : Bool) → turn_of parts.slots ticket ≡ Turns.Write block is_flushed → IsWrittenIn changes block)
        → (turn : Turn) → turn_of parts.slots ticket ≡ turn → {a b : List Content} → WritesFor turn ticket parts s a b → Only a b
    bitmap_serve_only ticket own same written Turns.Finished is kept = WritesOnly-kept Model.Bitmap g entry changes kept
    bitmap_serve_only ticket own same written (Turns.Held by) is kept = WritesOnly-kept Model.Bitmap g entry changes kept
    bitmap_serve_only ticket own same written (Turns.Read block) is adds = of_changed s.geometry _ _ own adds
    bitmap_serve_only ticket own same written (Turns.Write block is_flushed) is writes =
        adds_wider (IsOfMarkedBlock s block writes.bytes) (IsOfRun Model.Bitmap g entry changes)
        (λ sector x of. ⊎_elim
        (λ bit. in_bits s.geometry (with_region (region_of s.geometry block) true (bits_of s.bits)) sector x own bit.sector_)
        (λ own_or_tags. ⊎_elim
        (λ bytes. inr (inr (record { block = block; written = written block is_flushed is; data_ = of_block sector x bytes })))
        (λ tags. in_tags sector x (subst (λ (z : Geometry). HoldsTag z sector) own tags)) own_or_tags) of) writes.adds
      where
        of_block : (sector : ℕ) (x : List ℕ) → IsOfBytes (data_at s.geometry block) writes.bytes sector x → IsOfData g block sector
        of_block sector x of =
            let sectors : length writes.bytes / 512 ≡ s.geometry.shape.spb =
            ap (λ (k : ℕ). k / 512) writes.size ∙ mul-div_cancel_left s.geometry.shape.spb (omega arith) in
            subst (λ (z : Geometry). IsOfData z block sector) own
            (record { low = writes.low; begins = of.begins; ends = omega (arith, of.ends, sectors) })
    bitmap_serve_only ticket own same written Turns.Flush is writes = of_marked parts.tags same writes

    -- ---- a step

    clean_only : (o : Option ℕ) → s.geometry ≡ g → {a b : List Content} → WritesClean o s a b → Only a b
    clean_only None own kept = WritesOnly-kept Model.Bitmap g entry changes kept
    clean_only (Some region) own adds = of_bits s.geometry _ own adds

    recalc_only : (o : Option ℕ) → s.geometry ≡ g → {a b : List Content} → WritesRecalc o parts s a b → Only a b
    recalc_only None own kept = WritesOnly-kept Model.Bitmap g entry changes kept
    recalc_only (Some region) own adds = of_changed s.geometry _ _ own adds

    pub bitmap_step_only : s.geometry ≡ g → parts.tags.geometry ≡ g → (actor : Actor) {a b : List Content} → WritesAs actor parts s a b → Only a b
    bitmap_step_only own same Actors.Commit kept = WritesOnly-kept Model.Bitmap g entry changes kept
    bitmap_step_only own same Actors.Place kept = WritesOnly-kept Model.Bitmap g entry changes kept
    bitmap_step_only own same Actors.Settle kept = WritesOnly-kept Model.Bitmap g entry changes kept
    bitmap_step_only own same Actors.Clean writes = clean_only (least_to_clean parts s) own writes
    bitmap_step_only own same Actors.Recalc writes = recalc_only (least_awaiting s) own writes

    -- ---- a close

    pub bitmap_close_only : s.geometry ≡ g → parts.tags.geometry ≡ g → {a b : List Content} → EachSince (OnlyAdds (IsOfClose s parts.tags)) a b → Only a b
    bitmap_close_only own same writes =
        adds_wider (IsOfClose s parts.tags) (IsOfRun Model.Bitmap g entry changes)
        (λ sector x of. ⊎_elim
        (λ tags. in_tags sector x (subst (λ (z : Geometry). HoldsTag z sector) same tags.tags))
        (λ cleared. in_bits s.geometry (bits_cleared (counts_of s) cleared.count) sector x own cleared.sector_) of) writes
