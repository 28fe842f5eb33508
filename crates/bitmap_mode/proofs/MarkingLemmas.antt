-- What calls on the bitmap leave of a store of tags.
use Rattle.std.proofs.Common.{◌≡◌, inl, inr, ℕ, ◌≤◌, Bool, true, refl, sym, ◌∙◌, ap, subst, Option, Some, None, List, length, Result, Ok, Err, OnOk, OnErr}
use Rattle.std.proofs.lemmas.Bool.{cases_Bool}
use Rattle.disk_model.specs.Disk.{Content, OnlyAdds, last_image, newest_only}
use Rattle.disk_model.specs.Identity.{DiskIdentity}
use Rattle.disk_model.specs.Moments.{EachSince, IsChangedBy, content_now}
use Rattle.disk_model.proofs.MomentsLemmas.{EachMoment-kept, adds_wider}
use Rattle.image_model.specs.Geometry.{Geometry, bitmap_sectors, journal_sectors}
use Rattle.device_model.specs.Regions.{with_region}
use Rattle.direct_laws.specs.CallLaws.{GivesTags}
use Rattle.bitmap_laws.specs.CallLaws.{AddsBits, IsBitmapSector, KeepsElsewhere}
use Rattle.bitmap_laws.proofs.CallLemmas.{elsewhere_law, start_told}
use Rattle.buffer_cache.specs.declared.held.Held.{Held}
use Rattle.buffer_cache.specs.Cached.{held_or}
use Rattle.buffer_cache.specs.HeldSectors.{held_in}
use Rattle.tag_store.specs.Store.{IsStore, Store, given, given_tags}
use Rattle.tag_store.specs.StoreLaws.{AreWhole, ReadTagsAlike}
use Rattle.tag_store.proofs.StoreLawsLemmas as Laws
use Rattle.direct_mode.proofs.StoreCalls.{ReadsWhole}
use Rattle.bitmap_mode.specs.Writing.{IsOfBit}

-- Each sector that a store gives is whole where those are that the disk reads.
pub given_whole : (store : Store) (disk : DiskIdentity) (m : List Content) (c : Content) → IsStore store disk m → AreWhole disk.sectors (last_image c) → AreWhole disk.sectors (given store c)
given_whole store disk m c is whole sector low = by_held (held_in store.sectors sector) refl
  where
    by_held : (o : Option Held) → held_in store.sectors sector ≡ o → length (held_or o (last_image c sector)) ≡ 512
    by_held None e = whole sector low
    by_held (Some held) e = is.cache.whole sector held e

module _ (store : Store) (disk : DiskIdentity) (a b : List Content) (is : IsStore store disk a) (fits : bitmap_sectors store.geometry ≤ journal_sectors store.geometry)
    (elsewhere : KeepsElsewhere store.geometry a b) where
  -- Its sectors are read as before,
  alike : (start c : Content) → content_now a ≡ Some start → content_now b ≡ Some c → ReadTagsAlike store.geometry start c
  alike start c told told_c sector holds =
      ap (last_image c) holds.is
      ∙ elsewhere_law store.geometry disk.sectors a b is.geometry fits elsewhere start told c told_c holds.block holds.byte holds.block_low holds.byte_low
      ∙ ap (last_image start) (sym holds.is)

  -- so it is one of the disk then,
  pub is_store : (bits : ℕ → Bool) → AddsBits store.geometry bits a b → IsStore store disk b
  is_store bits m = Laws.elsewhere_law store disk a b is (λ c told_c.
      let start = start_told (OnlyAdds (IsBitmapSector store.geometry bits)) c m told_c in
      (start.0, start.1, alike start.0 c start.1 told_c))

  -- and gives the same tags.
  pub gives_same : ReadsWhole disk a → ReadsWhole disk b → GivesTags store.geometry (given_tags store) (given_tags store) a b
  gives_same whole whole_b start told c told_c n low =
      Laws.same_tags_law store disk a start c is (given_whole store disk a start is (whole start told)) (given_whole store disk a c is (whole_b c told_c)) (alike start c told told_c) n low

-- What a bit adds that is set: a sector of the bitmap where it was clear, and nothing where it was set.
pub bit_adds : (g : Geometry) (bits : ℕ → Bool) (region : ℕ) (a b : List Content) → (bits region ≡ true → b ≡ a) → AddsBits g (with_region region true bits) a b → EachSince (OnlyAdds (IsOfBit g bits region)) a b
bit_adds g bits region a b still adds = elim (cases_Bool (bits region)) [
  | inl set ↦ EachMoment-kept _ (still set)
  | inr clear ↦ adds_wider (IsBitmapSector g (with_region region true bits)) (IsOfBit g bits region) (λ sector x of. record { clear = clear; sector_ = of }) adds
]

-- After a sync, also one that failed, the store is one of the disk.
pub store_synced : {T E : Type 0} (r : Result T E) (store : Store) (disk : DiskIdentity) (a b : List Content) → IsStore store disk a → OnOk r (IsChangedBy newest_only a b) → OnErr r (b ≡ a) → IsStore store disk b
store_synced (Ok x) store disk a b is synced same = Laws.synced_law store disk a b is synced
store_synced (Err e) store disk a b is synced same = subst (λ (m : List Content). IsStore store disk m) (sym same) is
