-- The region of a block that is read, as the laws of direct mode have it.
use Rattle.std.proofs.Common.{◌≡◌, inl, ℕ, ◌<◌, Bool, true, false, if◌then◌else◌, refl, sym, ◌∙◌, ap, subst, List, Result, Ok, Err, OnOk}
use Rattle.std.proofs.lemmas.Bool.{eq-eqb}
use Rattle.disk_model.specs.Disk.{Content, OnlyAdds}
use Rattle.disk_model.specs.Moments.{EachSince}
use Rattle.disk_model.proofs.DiskLemmas.{OnlyAdds-wider}
use Rattle.disk_model.proofs.MomentsLemmas.{EachMoment-weaker, FromStart-weaker, adds_wider}
use Rattle.place_model.specs.Tags.{IsOfTags, HoldsTag}
use Rattle.image_model.specs.Geometry.{Geometry, region_of, regions}
use Rattle.image_model.proofs.Regions.{region_of-lt}
use Rattle.device_model.specs.Regions.{with_region}
use Rattle.direct_model.specs.DirectDisk.{DirectDisk}
use Rattle.direct_mode.specs.CallLaws.{AddsTags, StandsThrough}
use Rattle.place_model.specs.Places.{IsOfPlaces, WritesPlaces}
use Rattle.direct_mode.proofs.CallLemmas.{still_law}
use Rattle.direct_mode.specs.Cells.{HasCells}
use Rattle.hmac_tag.specs.TagMaker.{TagRule}
use Rattle.tag_store.specs.Store.{Store, given_tags}
use Rattle.recalculate_laws.proofs.TakingLemmas.{direct_taken_law, direct_taking_law}
use Rattle.recalculation.specs.declared.recalculating.Recalculation.{Recalculation}
use Rattle.recalculation.specs.Awaiting.{awaiting_of}
use Rattle.recalculation.specs.Recalculation.{IsRecalculationOf, TakesAwaiting, TakesAwaitingIn}
use Rattle.recalculation.proofs.KeptLemmas.{taken_is, takes_in, takes_region}
use Rattle.direct_device.specs.Taking.{IsTaken, IsToRead, awaiting_read}

module _ (d : DirectDisk) (awaiting : ℕ → Bool) (rule : TagRule) (old : Recalculation) (store : Store) (block : ℕ) (a : List Content) (low : block < store.geometry.blocks) (is : IsToRead d awaiting rule old store a) where
  abbrev region : ℕ
  region = region_of d.geometry block

  inside : region_of d.geometry block < regions d.geometry
  inside = region_of-lt d.geometry block (subst (λ (x : Geometry). block < x.blocks) (sym is.cells.geometry) low)

  place_is : (place : ℕ) → place ≡ region_of old.awaiting.geometry block → place ≡ region_of d.geometry block
  place_is place at = at ∙ ap (λ (x : Geometry). region_of x block) is.recalculation_.geometry

  told : (place : ℕ) → place ≡ region_of old.awaiting.geometry block → awaiting_of old.awaiting place ≡ awaiting (region_of d.geometry block)
  told place at = ap (awaiting_of old.awaiting) (place_is place at) ∙ is.recalculation_.regions_ (region_of d.geometry block) inside

  -- Where it does not await all stays.
  pub not_taken : (place : ℕ) → place ≡ region_of old.awaiting.geometry block → awaiting_of old.awaiting place ≡ false → IsTaken d awaiting block old store a a
  not_taken place at rests =
      let clear : awaiting (region_of d.geometry block) ≡ false = sym (told place at) ∙ rests in
      let same : awaiting_read d.geometry block awaiting ≡ awaiting = ap (λ (t : Bool). if t then with_region (region_of d.geometry block) false awaiting else awaiting) clear in
      record {
        through = still_law d a a refl (λ c now. (is.cells.now c now).stands);
        cells = subst (λ (x : ℕ → Bool). HasCells d x store a) (sym same) is.cells;
        recalculation_ = subst (λ (x : ℕ → Bool). IsRecalculationOf d.superblock d.geometry x old) (sym same) is.recalculation_;
        rests = ap (λ (x : ℕ → Bool). x (region_of d.geometry block)) same ∙ clear;
      }

  module _ (place : ℕ) (at : place ≡ region_of old.awaiting.geometry block) (waits : awaiting_of old.awaiting place ≡ true) where
    set : awaiting (region_of d.geometry block) ≡ true
    set = sym (told place at) ∙ waits

    -- While it is recalculated the disk stands for the same,
    pub read_taking : (b : List Content) → TakesAwaitingIn rule place old store.geometry (given_tags store) a b → StandsThrough d a b
    read_taking b adds =
        let here = subst (λ (r : ℕ). TakesAwaitingIn rule r old store.geometry (given_tags store) a b) (place_is place at) adds in
        direct_taking_law d (region_of d.geometry block) awaiting (given_tags store) a b is.cells.now
        (takes_in d.format awaiting old is.recalculation_ rule is.rule_ (region_of d.geometry block) inside set (given_tags store) a b
        (subst (λ (x : Geometry). TakesAwaitingIn rule (region_of d.geometry block) old x (given_tags store) a b) (sym is.cells.geometry) here))

    -- and then it awaits no more.
    pub read_taken : (new : Recalculation) (last : Store) (b : List Content) → last.geometry ≡ store.geometry → TakesAwaiting rule place old new store.geometry (given_tags store) (given_tags last) a b
        → StandsThrough d a b → IsTaken d awaiting block new last a b
    read_taken new last b places takes through =
        let here = subst (λ (r : ℕ). TakesAwaiting rule r old new store.geometry (given_tags store) (given_tags last) a b) (place_is place at) takes in
        let own = subst (λ (x : Geometry). TakesAwaiting rule (region_of d.geometry block) old new x (given_tags store) (given_tags last) a b) (sym is.cells.geometry) here in
        let same : awaiting_read d.geometry block awaiting ≡ with_region (region_of d.geometry block) false awaiting = ap (λ (t : Bool). if t then with_region (region_of d.geometry block) false awaiting else awaiting) set in
        record {
          through = through;
          cells = subst (λ (x : ℕ → Bool). HasCells d x last b) (sym same) (record {
            geometry = is.cells.geometry ∙ sym places;
            now = direct_taken_law d (region_of d.geometry block) awaiting (given_tags store) (given_tags last) a b is.cells.now
                (takes_region d.format awaiting old is.recalculation_ rule is.rule_ (region_of d.geometry block) inside set (given_tags store) (given_tags last) a b own.takes);
          });
          recalculation_ = subst (λ (x : ℕ → Bool). IsRecalculationOf d.superblock d.geometry x new) (sym same)
              (taken_is d.format awaiting old is.recalculation_ rule (region_of d.geometry block) new (given_tags store) (given_tags last) a b own);
          rests = ap (λ (x : ℕ → Bool). x (region_of d.geometry block)) same ∙ ap (λ (t : Bool). if t then false else awaiting (region_of d.geometry block)) (eq-eqb (region_of d.geometry block) (region_of d.geometry block) refl);
        }

-- ---- what is written

-- Sectors of tags alone, while it is recalculated.
pub taking_places : (IsWritten : ℕ → Type 0) (old new : Store) {a b : List Content} → new.geometry ≡ old.geometry → EachSince (OnlyAdds (λ sector x. HoldsTag old.geometry sector)) a b
    → WritesPlaces IsWritten old.geometry new.geometry a b
taking_places IsWritten old new same moments = record {
  geometry = same;
  each = adds_wider (λ sector x. HoldsTag old.geometry sector) (IsOfPlaces old.geometry IsWritten) (λ sector x tag. inl tag) moments;
}

pub tags_adds : (g : Geometry) (tags new : Content → ℕ → List ℕ) {a b : List Content} → AddsTags g tags new a b → EachSince (OnlyAdds (λ sector x. HoldsTag g sector)) a b
tags_adds g tags new {a} m = EachMoment-weaker (FromStart-weaker a (λ start. OnlyAdds (IsOfTags g (tags start) (new start)) start) (OnlyAdds (λ sector x. HoldsTag g sector))
    (λ start c told adds. OnlyAdds-wider (IsOfTags g (tags start) (new start)) (λ sector x. HoldsTag g sector) (λ sector x of. record {
      block = of.block;
      byte = of.byte;
      block_low = of.block_low;
      byte_low = of.byte_low;
      is = of.is;
    }) start c adds)) m

-- Two things that hold of a success.
pub both_ok : {T E : Type 0} (A B : Type 0) (r : Result T E) → OnOk r A → OnOk r B → OnOk r (A × B)
both_ok A B (Ok x) a b = (a, b)
both_ok A B (Err e) a b = tt
