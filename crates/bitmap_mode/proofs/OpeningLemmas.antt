-- The regions when an image is opened: each whose bit is set awaits.
use Rattle.std.proofs.Common.{◌≡◌, ℕ, ◌<◌, ◌≤◌, Bool, true, false, not, ◌&&◌, Some, refl, sym, ◌∙◌, ap, subst}
use Rattle.disk_model.specs.Disk.{Content, Image, last_image}
use Rattle.image_model.specs.Bitmap.{is_dirty}
use Rattle.image_model.specs.Geometry.{Geometry, bitmap_sectors, journal_sectors, regions}
use Rattle.image_model.specs.Superblock.{Superblock}
use Rattle.device_model.specs.Regions.{RegionCounts}
use Rattle.journal_laws.specs.RegionLaws.{AreRegions}
use Rattle.place_model.specs.Format.{DiskFormat}
use Rattle.bitmap_model.specs.Opening.{opened_disk}
use Rattle.bitmap_laws.specs.CallLaws.{AreSameBits}
use Rattle.dirty_bitmap.specs.Bits.{RegionBits, bits_of}
use Rattle.dirty_bitmap.specs.Regions.{Regions, has_region}
use Rattle.recalculation.specs.Awaiting.{AwaitingRegions, IsOpening, awaiting_of}
use Rattle.recalculation.proofs.AwaitingLemmas.{bits_region}
use Rattle.bitmap_mode.specs.Standing.{HasNoBits}
use Rattle.bitmap_mode.specs.States.{AreSameCounts, IsStates, counts_by, counts_opened}

-- What is set and not set is nothing.
never : (t other : Bool) → ((t && not t) && other) ≡ false
never true other = refl
never false other = refl

module _ (fields : Superblock) (g : Geometry) (bits : RegionBits) (awaiting : AwaitingRegions) (fresh : Regions) (opening : IsOpening fields g (Some bits) awaiting) (none : (r : ℕ) → has_region fresh r ≡ false) where
  awaits_set : (r : ℕ) → r < regions g → awaiting_of awaiting r ≡ bits_of bits r
  awaits_set r low = opening.regions_ r low ∙ bits_region fields g bits r low

  pub opened_states : (to_clean : Regions) → bitmap_sectors g ≤ journal_sectors g → bits.geometry ≡ g → fresh.size ≡ regions g → to_clean ≡ fresh → IsStates g bits awaiting fresh to_clean
  opened_states to_clean fits there size same = record {
    fits = fits;
    bits_geometry = there;
    awaiting_geometry = opening.geometry;
    awaiting_first = opening.first;
    fresh_size = size;
    clean = (
      ap (λ (set : Regions). set.size) same ∙ size,
      λ r low.
          ap (λ (set : Regions). has_region set r) same ∙ none r
          ∙ sym (ap (λ (t : Bool). (bits_of bits r && not t) && not (has_region fresh r)) (awaits_set r low) ∙ never (bits_of bits r) (not (has_region fresh r))),
    );
  }

  pub opened_counts : AreSameCounts g (counts_by bits awaiting fresh) (counts_opened (bits_of bits))
  opened_counts = record { set_bits = λ r low. refl; awaiting = awaits_set; fresh = λ r low. none r }

-- They are those of an image with these bits.
pub counted_regions : (g : Geometry) (bits : ℕ → Bool) (counts : RegionCounts) (d : DiskFormat) (image : Image) → AreSameCounts g counts (counts_opened bits) → d.geometry ≡ g → AreSameBits g bits (is_dirty g image)
    → AreRegions counts (opened_disk d image)
counted_regions g bits counts d image same there loaded =
    let low_in = λ (r : ℕ) (low : r < regions d.geometry). subst (λ (y : Geometry). r < regions y) there low in
    let dirty = λ (r : ℕ) (low : r < regions d.geometry). loaded r (low_in r low) ∙ ap (λ (y : Geometry). is_dirty y image r) (sym there) in
    record {
      set_bits = λ r low. same.set_bits r (low_in r low) ∙ dirty r low;
      awaiting = λ r low. same.awaiting r (low_in r low) ∙ dirty r low;
      fresh = λ r low. same.fresh r (low_in r low);
    }

-- Where none is set in memory nor in the image the bits are the same.
pub no_bits : (g : Geometry) (d : DiskFormat) (c : Content) → d.geometry ≡ g → HasNoBits d c → AreSameBits g (λ region. false) (is_dirty g (last_image c))
no_bits g d c there none region low =
    sym (none region (subst (λ (y : Geometry). region < regions y) (sym there) low)) ∙ ap (λ (y : Geometry). is_dirty y (last_image c) region) there

-- Those that are counted are the same where the bits are.
pub counts_same : (g : Geometry) (one other : ℕ → Bool) (counts : RegionCounts) → AreSameCounts g counts (counts_opened one) → AreSameBits g one other → AreSameCounts g counts (counts_opened other)
counts_same g one other counts same bits = record {
  set_bits = λ r low. same.set_bits r low ∙ bits r low;
  awaiting = λ r low. same.awaiting r low ∙ bits r low;
  fresh = same.fresh;
}
