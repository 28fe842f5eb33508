-- The bytes that no tag takes stay while tags are put.
use Rattle.std.proofs.Common.{◌≡◌, ◌⊎◌, inl, inr, ⊎_elim, ℕ, ◌<◌, refl, sym, ◌∙◌, ap, subst, Option, Some, None, List, length, slice_index, Result, Ok, Err, OnOk, OnErr}
use Rattle.std.proofs.lemmas.Option.{same_Some}
use Rattle.disk_model.specs.Disk.{Content, OnlyAdds, last_image}
use Rattle.disk_model.specs.Identity.{DiskIdentity}
use Rattle.disk_model.specs.Moments.{EachSince, content_now}
use Rattle.disk_model.proofs.DiskLemmas.{OnlyAdds-join, OnlyAdds-none, OnlyAdds-wider}
use Rattle.disk_model.proofs.MomentsLemmas.{EachMoment-join, EachMoment-weaker, FromStart-weaker, no_moment}
use Rattle.image_model.specs.Geometry.{Geometry}
use Rattle.buffer_cache.specs.declared.held.Held.{Held}
use Rattle.buffer_cache.specs.Cached.{held_or}
use Rattle.buffer_cache.specs.HeldSectors.{held_in}
use Rattle.tag_store.specs.Store.{IsOfPut, IsStore, Store, StoresFirst, StoresTag, given, with_tag}
use Rattle.tag_store.specs.StoreLaws.{AreWhole}
use Rattle.tag_store.proofs.PutLemmas.{put_bytes_law}
use Rattle.tag_store.proofs.StoreLawsLemmas.{rest_law}
use Rattle.bitmap_laws.proofs.CallLemmas.{start_told}
use Rattle.direct_mode.proofs.StoreCalls.{ReadsWhole}
use Rattle.recalculation.specs.Rest.{HasRest, IsUntagged, KeepsRest, StaysButTags}

-- ---- calls in a row

-- A call that changes nothing keeps them,
pub KeepsRest-still : (store : Store) (a b : List Content) → b ≡ a → KeepsRest store store a b
KeepsRest-still store a b same =
    subst (λ (x : List Content). KeepsRest store store a x) (sym same) (record {
      geometry = refl;
      gives = λ c told d told_d sector. record { each = λ at none. ap (λ (x : Content). slice_index (given store x sector) at) (same_Some d c (sym told_d ∙ told)) };
      adds = no_moment a _;
    })

-- What may be added to a content that came of another may be added to that.
HasRest-earlier : (old mid : Store) (start middle : Content) → mid.geometry ≡ old.geometry → ((sector : ℕ) → HasRest old start sector (given mid middle sector)) → (sector : ℕ) (x : List ℕ) → HasRest mid middle sector x → HasRest old start sector x
HasRest-earlier old mid start middle same gives sector x has = record {
  each = λ at none. has.each at (subst (λ (g : Geometry). IsUntagged g sector at) (sym same) none) ∙ (gives sector).each at none;
}

-- and so do two in a row.
pub KeepsRest-then : (old mid new : Store) (a m b : List Content) → KeepsRest old mid a m → KeepsRest mid new m b → KeepsRest old new a b
KeepsRest-then old mid new a m b first second = record {
  geometry = second.geometry ∙ first.geometry;
  gives = λ start told d told_d sector.
      let middle = start_told (λ c. OnlyAdds (HasRest mid c) c) d second.adds told_d in
      HasRest-earlier old mid start middle.0 first.geometry (first.gives start told middle.0 middle.1) sector (given new d sector) (second.gives middle.0 middle.1 d told_d sector);
  adds = EachMoment-join (λ start. OnlyAdds (HasRest old start) start) (λ start. OnlyAdds (HasRest mid start) start) first.adds second.adds (λ start middle later told told_m so_far adds.
      OnlyAdds-join (HasRest old start) start middle later
      (⊎_elim (λ e. subst (OnlyAdds (HasRest old start) start) (sym e) (OnlyAdds-none (HasRest old start) start)) (λ p. p) so_far)
      (OnlyAdds-wider (HasRest mid middle) (HasRest old start) (HasRest-earlier old mid start middle first.geometry (first.gives start told middle told_m)) middle later adds));
}

-- What stays in a call and in the next stays in both.
pub stays_then : (old mid new : Store) (disk between now : DiskIdentity) (a m b : List Content) → StaysButTags old mid disk between a m → StaysButTags mid new between now m b → StaysButTags old new disk now a b
stays_then old mid new disk between now a m b first second = record {
  store_ = second.store_;
  places = second.places ∙ first.places;
  rest = KeepsRest-then old mid new a m b first.rest second.rest;
  identity = second.identity ∙ first.identity;
}

-- ---- a put

-- Each sector that a store gives is whole where those are that reads give.
pub given-whole : (store : Store) (disk : DiskIdentity) (m : List Content) (c : Content) → IsStore store disk m → AreWhole disk.sectors (last_image c) → AreWhole disk.sectors (given store c)
given-whole store disk m c is whole sector low = by_held (held_in store.sectors sector) refl
  where
    by_held : (o : Option Held) → held_in store.sectors sector ≡ o → length (held_or o (last_image c sector)) ≡ 512
    by_held None e = whole sector low
    by_held (Some held) e = is.cache.whole sector held e

-- The sector is given as before, or with the tag that is put.
abbrev IsPutOrKept : ℕ → List ℕ → (old new : Store) → (c d : Content) → ℕ → Type 0
IsPutOrKept block put old new c d sector = (given new d sector ≡ given old c sector) ⊎ (given new d sector ≡ with_tag old.geometry block put (given old c) sector)

module _ (old new : Store) (disk : DiskIdentity) (block : ℕ) (put : List ℕ) (a b : List Content) (is : IsStore old disk a) (whole : ReadsWhole disk a) (low : block < old.geometry.blocks) (size : length put ≡ old.geometry.shape.tag_size)
    (same : new.geometry ≡ old.geometry) (moments : EachSince (λ start. OnlyAdds (IsOfPut block put old start) start) a b) where
  all_whole : (c : Content) → content_now a ≡ Some c → AreWhole disk.sectors (given old c)
  all_whole c told = given-whole old disk a c is (whole c told)

  by_put : ((c : Content) → content_now a ≡ Some c → (d : Content) → content_now b ≡ Some d → (sector : ℕ) → IsPutOrKept block put old new c d sector) → KeepsRest old new a b
  by_put given_ = record {
    geometry = same;
    gives = λ c told d told_d sector. record {
      each = λ at none. ⊎_elim
          (λ e. ap (λ (x : List ℕ). slice_index x at) e)
          (λ e. ap (λ (x : List ℕ). slice_index x at) e ∙ put_bytes_law old.geometry disk.sectors block put (given old c) sector at is.geometry (all_whole c told) low size (none block low))
          (given_ c told d told_d sector);
    };
    adds = EachMoment-weaker (FromStart-weaker a (λ start. OnlyAdds (IsOfPut block put old start) start) (λ start. OnlyAdds (HasRest old start) start)
        (λ start c told adds. OnlyAdds-wider (IsOfPut block put old start) (HasRest old start)
        (λ sector x of. record { each = λ at none. rest_law old disk a start block put sector x at is (all_whole start told) low size of (none block low) }) start c adds)) moments;
  }

  -- A tag that is put changes none of them, whether that fails or not.
  pub KeepsRest-put : {E : Type 0} (result : Result (Unit {0}) E) → OnOk result (StoresTag block put old new a b) → OnErr result (StoresFirst block put old new a b) → KeepsRest old new a b
  KeepsRest-put (Ok done) stored failed = by_put (λ c told d told_d sector. inr (stored.given_ c told d told_d sector))
  KeepsRest-put (Err fault) stored failed = by_put (λ c told d told_d sector. ⊎_elim inl (λ first. inr first.1) (failed.given_ c told d told_d sector))
