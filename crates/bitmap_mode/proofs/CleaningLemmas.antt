-- A bit that is cleared of a region that needs none.
use Rattle.std.proofs.Common.{◌≡◌, ℕ, ◌<◌, Bool, true, false, not, ◌&&◌, sym, ◌∙◌, subst, List}
use Rattle.std.proofs.lemmas.Bool.{and_parts, not-true, or_from}
use Rattle.disk_model.specs.Disk.{Content}
use Rattle.image_model.specs.Geometry.{Geometry, regions}
use Rattle.device_model.specs.Regions.{RegionCounts, with_region}
use Rattle.bitmap_model.specs.BitmapDisk.{BitmapDisk, needs_bit}
use Rattle.bitmap_model.specs.Steps.{with_clear}
use Rattle.bitmap_laws.specs.CallLaws.{AddsBits, AreSameBits, StandsThrough}
use Rattle.bitmap_laws.specs.ServeLaws.{ClearsBit}
use Rattle.bitmap_laws.proofs.CallLemmas.{clear_law}
use Rattle.bitmap_laws.proofs.ServeLemmas.{bit_cleared_law}
use Rattle.dirty_bitmap.specs.Bits.{bits_of}
use Rattle.tag_store.specs.Store.{Store, given_tags}
use Rattle.bitmap_mode.specs.States.{States, counts_of, may_be_clean}
use Rattle.bitmap_mode.specs.Standing.{StandsAs}
use Rattle.bitmap_mode.proofs.StatesLemmas.{bits_are, region_same}

-- Such a region neither awaits nor is fresh, and its bit is set.
pub clean_parts : (c : RegionCounts) (r : ℕ) → may_be_clean c r ≡ true → (c.set_bits r ≡ true) × (c.awaiting r ≡ false) × (c.fresh r ≡ false)
clean_parts c r is =
    let parts = and_parts (c.set_bits r && not (c.awaiting r)) (not (c.fresh r)) is in
    let first = and_parts (c.set_bits r) (not (c.awaiting r)) parts.0 in
    (first.0, not-true (c.awaiting r) first.1, not-true (c.fresh r) parts.1)

module _ (d : BitmapDisk) (marked : ℕ → Bool) (s : States) (store : Store) {a : List Content} (stands : StandsAs d marked s store a) (same : store.geometry ≡ s.geometry) (bits_there : s.bits.geometry ≡ s.geometry)
    (region : ℕ) (low : region < regions s.geometry) (rests : may_be_clean (counts_of s) region ≡ true) where
  there : d.geometry ≡ s.geometry
  there = stands.geometry ∙ same

  in_bits : d.geometry ≡ s.bits.geometry
  in_bits = there ∙ sym bits_there

  unneeded : needs_bit d region ≡ false
  unneeded =
      let parts = clean_parts (counts_of s) region rests in
      let inside = subst (λ (y : Geometry). region < regions y) (sym there) low in
      or_from (d.awaiting region) (d.fresh region) (sym (stands.regions_.awaiting region inside) ∙ parts.1) (sym (stands.regions_.fresh region inside) ∙ parts.2)

  own_bits : AreSameBits s.bits.geometry (bits_of s.bits) d.bits
  own_bits = bits_are s.bits.geometry d (counts_of s) in_bits stands.regions_

  -- While it is cleared the disk stands for the one without it,
  pub clean_through : {b : List Content} → AddsBits s.bits.geometry (with_region region false (bits_of s.bits)) a b → StandsThrough (with_clear d region) marked a b
  clean_through {b} adds = clear_law d s.bits.geometry marked (bits_of s.bits) region (given_tags store) a b in_bits own_bits unneeded stands.now adds

  -- and then it is that.
  pub is_cleaned : {b : List Content} (new : States) → new.awaiting ≡ s.awaiting → new.fresh ≡ s.fresh → AreSameBits s.bits.geometry (bits_of new.bits) (with_region region false (bits_of s.bits))
      → ClearsBit s.bits.geometry (bits_of s.bits) region (given_tags store) (given_tags store) a b → StandsAs (with_clear d region) marked new store b
  is_cleaned {b} new awaits fresh bits clears =
      let inside = subst (λ (y : Geometry). region < regions y) (sym bits_there) low in
      let in_s = λ (r : ℕ) (r_low : r < regions d.geometry). subst (λ (y : Geometry). r < regions y) in_bits r_low in
      record {
        geometry = stands.geometry;
        regions_ = record {
          set_bits = λ r r_low. bits r (in_s r r_low) ∙ region_same region false (bits_of s.bits) d.bits r (stands.regions_.set_bits r r_low);
          awaiting = λ r r_low. rw awaits (stands.regions_.awaiting r r_low);
          fresh = λ r r_low. rw fresh (stands.regions_.fresh r r_low);
        };
        now = (bit_cleared_law d s.bits.geometry marked (bits_of s.bits) region (given_tags store) (given_tags store) a b in_bits own_bits inside unneeded stands.now clears).1;
      }
