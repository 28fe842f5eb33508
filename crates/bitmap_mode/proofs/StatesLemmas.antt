-- The regions in memory, and those of the disk, once a region or all of them change.
use Rattle.std.proofs.Common.{◌≡◌, ◌≢◌, inl, inr, ℕ, ◌<◌, Bool, true, false, not, ◌&&◌, refl, sym, ◌∙◌, subst}
use Rattle.std.proofs.lemmas.Bool.{and_from, and_left, and_right, cases_eq, not_from_false, not_from_true}
use Rattle.image_model.specs.Geometry.{Geometry, regions}
use Rattle.device_model.specs.Regions.{RegionCounts, with_region, written_region}
use Rattle.journal_laws.specs.RegionLaws.{AreRegions}
use Rattle.bitmap_model.specs.BitmapDisk.{BitmapDisk}
use Rattle.bitmap_model.proofs.BitLemmas.{with_region-here, with_region-other}
use Rattle.bitmap_laws.specs.CallLaws.{AreSameBits}
use Rattle.dirty_bitmap.specs.Bits.{RegionBits, bits_of}
use Rattle.dirty_bitmap.specs.Regions.{Regions, has_region}
use Rattle.recalculation.specs.Awaiting.{AwaitingRegions, awaiting_of}
use Rattle.bitmap_mode.specs.States.{AreSameCounts, AreToClean, IsStates, counts_by, may_be_clean}

-- ---- counts that tell the same

-- They are those of the disk as well,
pub regions_same : (g : Geometry) (d : BitmapDisk) (one other : RegionCounts) → d.geometry ≡ g → AreSameCounts g one other → AreRegions other d → AreRegions one d
regions_same g d one other is same are =
    let low_in = λ (r : ℕ) (low : r < regions d.geometry). subst (λ (y : Geometry). r < regions y) is low in
    record {
      set_bits = λ r low. same.set_bits r (low_in r low) ∙ are.set_bits r low;
      awaiting = λ r low. same.awaiting r (low_in r low) ∙ are.awaiting r low;
      fresh = λ r low. same.fresh r (low_in r low) ∙ are.fresh r low;
    }

-- whose bits they tell.
pub bits_are : (g : Geometry) (d : BitmapDisk) (counts : RegionCounts) → d.geometry ≡ g → AreRegions counts d → AreSameBits g counts.set_bits d.bits
bits_are g d counts is are r low = are.set_bits r (subst (λ (y : Geometry). r < regions y) (sym is) low)

-- The same change of both keeps them the same.
pub region_same : (r : ℕ) (value : Bool) (one other : ℕ → Bool) (x : ℕ) → one x ≡ other x → with_region r value one x ≡ with_region r value other x
region_same r value one other x same = rw same refl

-- Once a block is written they are those before it, but of its region.
pub counts_are_written : (g : Geometry) (bits : RegionBits) (awaiting : AwaitingRegions) (fresh set : Regions) → IsStates g bits awaiting fresh set → (bits_ : RegionBits) (fresh_ : Regions) (r : ℕ)
    → AreSameBits bits.geometry (bits_of bits_) (with_region r true (bits_of bits)) → ((x : ℕ) → has_region fresh_ x ≡ with_region r true (has_region fresh) x)
    → AreSameCounts g (counts_by bits_ awaiting fresh_) (written_region r (counts_by bits awaiting fresh))
counts_are_written g bits awaiting fresh set is bits_ fresh_ r marks freshens = record {
  set_bits = λ x low. marks x (subst (λ (y : Geometry). x < regions y) (sym is.bits_geometry) low);
  awaiting = λ x low. refl;
  fresh = λ x low. freshens x;
}

-- ---- which may be cleaned

-- That is told by what is told of the region.
clean_same : (one other : RegionCounts) (r : ℕ) → one.set_bits r ≡ other.set_bits r → one.awaiting r ≡ other.awaiting r → one.fresh r ≡ other.fresh r → may_be_clean one r ≡ may_be_clean other r
clean_same one other r set waits fresh = rw (set, waits, fresh) refl

pub clean_if_set : (c : RegionCounts) (r : ℕ) → c.set_bits r ≡ false → may_be_clean c r ≡ false
clean_if_set c r clear = and_left _ (not (c.fresh r)) (and_left (c.set_bits r) (not (c.awaiting r)) clear)

pub clean_unless_awaiting : (c : RegionCounts) (r : ℕ) → c.awaiting r ≡ true → may_be_clean c r ≡ false
clean_unless_awaiting c r waits = and_left _ (not (c.fresh r)) (and_right (c.set_bits r) (not (c.awaiting r)) (not_from_true (c.awaiting r) waits))

clean_unless_fresh : (c : RegionCounts) (r : ℕ) → c.fresh r ≡ true → may_be_clean c r ≡ false
clean_unless_fresh c r fresh = and_right (c.set_bits r && not (c.awaiting r)) (not (c.fresh r)) (not_from_true (c.fresh r) fresh)

-- A region is fresh no more.
module _ (g : Geometry) (bits : RegionBits) (awaiting : AwaitingRegions) (fresh fresh_ set : Regions) (r : ℕ) (was : has_region fresh r ≡ true)
    (rests : (x : ℕ) → has_region fresh_ x ≡ with_region r false (has_region fresh) x) (old : AreToClean g bits awaiting fresh set) where
  -- Every other one is as it was.
  rested_with : (set_ : Regions) → set_.size ≡ set.size → ((x : ℕ) → r ≢ x → has_region set_ x ≡ has_region set x) → (r < regions g → has_region set_ r ≡ may_be_clean (counts_by bits awaiting fresh_) r)
      → AreToClean g bits awaiting fresh_ set_
  rested_with set_ size others here = (
    size ∙ old.0,
    λ x low. elim (cases_eq r x) [
      | inl same ↦
          subst (λ (y : ℕ). has_region set_ y ≡ may_be_clean (counts_by bits awaiting fresh_) y) same (here (subst (λ (y : ℕ). y < regions g) (sym same) low))
      | inr apart ↦
          others x apart ∙ old.1 x low
          ∙ clean_same (counts_by bits awaiting fresh) (counts_by bits awaiting fresh_) x refl refl (sym (rests x ∙ with_region-other r x false (has_region fresh) apart))
    ],
  )

  -- It may be cleaned where its bit is set and it does not await,
  pub rested_in : (set_ : Regions) → bits_of bits r ≡ true → awaiting_of awaiting r ≡ false → set_.size ≡ set.size → ((x : ℕ) → has_region set_ x ≡ with_region r true (has_region set) x)
      → AreToClean g bits awaiting fresh_ set_
  rested_in set_ marked idle size puts =
      rested_with set_ size (λ x apart. puts x ∙ with_region-other r x true (has_region set) apart)
      (λ low. puts r ∙ with_region-here r r true (has_region set) refl
      ∙ sym (and_from _ (not (has_region fresh_ r)) (and_from (bits_of bits r) (not (awaiting_of awaiting r)) marked (not_from_false (awaiting_of awaiting r) idle))
      (not_from_false (has_region fresh_ r) (rests r ∙ with_region-here r r false (has_region fresh) refl))))

  -- and else it may not.
  pub rested_out : may_be_clean (counts_by bits awaiting fresh_) r ≡ false → AreToClean g bits awaiting fresh_ set
  rested_out none = rested_with set refl (λ x apart. refl) (λ low. old.1 r low ∙ clean_unless_fresh (counts_by bits awaiting fresh) r was ∙ sym none)
