-- The counts of the regions and the disk in bitmap mode, at opening and through each step.
use Rattle.std.proofs.Common.{◌≡◌, inl, inr, ℕ, zero, suc, ◌+◌, ◌<◌, ◌≤◌, ◌==◌, ◌&&◌, ◌||◌, not, Bool, true, false, if◌then◌else◌, refl, sym, ◌∙◌, ap, subst, arith, Option, Some, None, find, option_map}
use Rattle.std.specs.List.{range_with_len}
use Rattle.std.proofs.lemmas.Bool.{cases_Bool, true≢false, false_from_ne_true}
use Rattle.std.proofs.lemmas.Option.{none-some, same_Some}
use Rattle.image_model.specs.Geometry.{region_of, regions}
use Rattle.image_model.proofs.BitmapLemmas.{awaits-journal, region_awaits-block, region_awaits-bitmap}
use Rattle.device_model.specs.Regions.{RegionCounts, with_region, recalculated_region, least_region}
use Rattle.bitmap_model.specs.Steps.{with_clear, after_recalculation}
use Rattle.journal_laws.specs.RegionLaws.{AreRegions, RegionsBegin, RegionsWritten, RegionsFlushed, RegionsRecalculated, RecalculateLaw, CleanLaw, AwaitingLaw}

-- ---- the region that is chosen

-- The first number that passes is in the range, and passes.
find-range : (p : ℕ → Bool) (from count r : ℕ) → find p (range_with_len from count) ≡ Some r → (from ≤ r) × (r < from + count) × (p r ≡ true)
find-range p from zero r e = absurd (none-some r e)
find-range p from (suc count) r e = elim (cases_Bool (p from)) [
  | inl passes ↦
      let same : from ≡ r = same_Some from r (rw passes at e) in
      (omega arith, omega arith, ap p (sym same) ∙ passes)
  | inr fails ↦
      let later = find-range p (from + 1) count r (rw fails at e) in
      (omega (arith, later.0), omega (arith, later.1), later.2)
]

-- What is made of the region that is found, if one is.
some_of : {A : Type 0} (f : ℕ → A) (o : Option ℕ) (x : A) → option_map f o ≡ Some x → (r : ℕ) × (o ≡ Some r) × (f r ≡ x)
some_of f None x e = absurd (none-some x e)
some_of f (Some r) x e = (r, refl, same_Some (f r) x e)

least_region_is : {A : Type 0} (count : ℕ) (test : ℕ → Bool) (f : ℕ → A) (x : A) → option_map f (least_region count test) ≡ Some x
    → (r : ℕ) × (r < count) × (test r ≡ true) × (f r ≡ x)
least_region_is count test f x e =
    let found = some_of f (least_region count test) x e in
    let inside = find-range test 0 count found.0 found.1 in
    (found.0, omega (arith, inside.1), inside.2, found.2)

-- ---- steps

-- The same change of both keeps them the same.
same_region : (r : ℕ) (value : Bool) (one other : ℕ → Bool) (region : ℕ) → one region ≡ other region → with_region r value one region ≡ with_region r value other region
same_region r value one other region same = ap (λ (b : Bool). if region == r then value else b) same

pub regions_begin : RegionsBegin
regions_begin d image set = record {
  set_bits = λ region low. refl;
  awaiting = λ region low. region_awaits-bitmap d.superblock d.geometry image region low set;
  fresh = λ region low. refl;
}

pub regions_written : RegionsWritten
regions_written counts d write are =
    let r = region_of d.geometry write.block in
    record {
      set_bits = λ region low. same_region r true counts.set_bits d.bits region (are.set_bits region low);
      awaiting = are.awaiting;
      fresh = λ region low. same_region r true counts.fresh d.fresh region (are.fresh region low);
    }

pub regions_flushed : RegionsFlushed
regions_flushed counts d are = record { set_bits = are.set_bits; awaiting = are.awaiting; fresh = λ region low. refl }

pub regions_recalculated : RegionsRecalculated
regions_recalculated counts d r are = record {
  set_bits = are.set_bits;
  awaiting = λ region low. same_region r false counts.awaiting d.awaiting region (are.awaiting region low);
  fresh = λ region low. same_region r true counts.fresh d.fresh region (are.fresh region low);
}

pub recalculate_law : RecalculateLaw
recalculate_law counts after d are e =
    let chosen = least_region_is (regions d.geometry) counts.awaiting (λ r. recalculated_region r counts) after e in
    record {
      region = chosen.0;
      inside = chosen.1;
      fits_it = sym (are.awaiting chosen.0 chosen.1) ∙ chosen.2;
      then_is = subst (λ (c : RegionCounts). AreRegions c (after_recalculation d chosen.0)) chosen.3 (regions_recalculated counts d chosen.0 are);
    }

-- A region whose bit may be cleared neither awaits nor is fresh.
none_needed : (set awaits fresh used : Bool) → set && not awaits && not fresh && not used ≡ true → awaits || fresh ≡ false
none_needed false awaits fresh used e = absurd (true≢false (sym e))
none_needed true true fresh used e = absurd (true≢false (sym e))
none_needed true false true used e = absurd (true≢false (sym e))
none_needed true false false used e = refl

pub clean_law : CleanLaw
clean_law counts after d is_used are e =
    let test : ℕ → Bool = λ r. counts.set_bits r && not (counts.awaiting r) && not (counts.fresh r) && not (is_used r) in
    let cleared : ℕ → RegionCounts = λ r. record counts { set_bits = with_region r false counts.set_bits } in
    let chosen = least_region_is (regions d.geometry) test cleared after e in
    let r = chosen.0 in
    record {
      region = r;
      inside = chosen.1;
      fits_it =
          ap (λ (awaits : Bool). awaits || d.fresh r) (sym (are.awaiting r chosen.1)) ∙ ap (λ (fresh : Bool). counts.awaiting r || fresh) (sym (are.fresh r chosen.1))
          ∙ none_needed (counts.set_bits r) (counts.awaiting r) (counts.fresh r) (is_used r) chosen.2;
      then_is = subst (λ (c : RegionCounts). AreRegions c (with_clear d r)) chosen.3 (record {
        set_bits = λ region low. same_region r false counts.set_bits d.bits region (are.set_bits region low);
        awaiting = are.awaiting;
        fresh = are.fresh;
      });
    }

-- ---- blocks that await

pub awaiting_law : AwaitingLaw
awaiting_law d image b clear low rests = false_from_ne_true _ (λ waits.
    true≢false (sym (region_awaits-block d.superblock d.geometry image b low (awaits-journal d.superblock d.geometry image b clear ∙ waits)) ∙ rests))
