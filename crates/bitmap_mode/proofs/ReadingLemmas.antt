-- A block that is read, once its region is recalculated where that awaits.
use Rattle.std.proofs.Common.{◌≡◌, ⊎_elim, inr, ℕ, ◌*◌, ◌<◌, sym, ◌∙◌, ap, subst, arith, List, [], ◌∷◌, ◌++◌, length, slice_index, Some}
use Rattle.disk_model.specs.Disk.{Content, OnlyAdds, Reads}
use Rattle.disk_model.specs.Moments.{EachMoment, HasNow, content_now}
use Rattle.disk_model.proofs.DiskLemmas.{OnlyAdds-join, OnlyAdds-none, OnlyAdds-wider, Reads-same}
use Rattle.disk_model.proofs.MomentsLemmas.{EachMoment-join}
use Rattle.image_model.specs.Geometry.{Geometry, IsGeometry, data_at}
use Rattle.place_model.specs.Tags.{IsOfTags}
use Rattle.place_model.proofs.BlocksLemmas.{KeepsOthers-data}
use Rattle.direct_laws.specs.CallLaws.{AddsTags, GivesTags, KeepsOthersNow}
use Rattle.bitmap_laws.proofs.CallLemmas.{start_told}

-- A disk that told its content tells it after a call.
pub end_told : {a b : List Content} {P : Content → Type 0} (c : Content) → EachMoment a b P → content_now a ≡ Some c → (x : Content) × (content_now b ≡ Some x)
end_told {a} {b} c m told = last m.since m.grows
  where
    last : (since : List Content) → b ≡ since ++ a → (x : Content) × (content_now b ≡ Some x)
    last [] grows = (c, ap content_now grows ∙ told)
    last (x ∷ since) grows = (x, ap content_now grows)

-- One that tells it told it at the start.
pub tags_told : (g : Geometry) (old new : Content → ℕ → List ℕ) {a b : List Content} (c : Content) → AddsTags g old new a b → content_now b ≡ Some c → (start : Content) × (content_now a ≡ Some start)
tags_told g old new c adds told = start_told (λ start. OnlyAdds (IsOfTags g (old start) (new start)) start) c adds told

-- ---- data, where sectors of tags alone were written

module _ (g : Geometry) (sectors block : ℕ) (bytes : List ℕ) (is : IsGeometry g sectors) (low : block < g.blocks) (size : length bytes ≡ 512 * g.shape.spb) (a b : List Content) (others : KeepsOthersNow g a b) where
  -- What reads give then they gave before,
  pub read_before : ((c : Content) → content_now a ≡ Some c → (x : Content) × (content_now b ≡ Some x)) → HasNow (Reads (data_at g block) bytes) b → HasNow (Reads (data_at g block) bytes) a
  read_before came reads c told =
      let last = came c told in
      Reads-same (data_at g block) bytes last.0 c (λ k below. sym (KeepsOthers-data g sectors c last.0 is (others c told last.0 last.1) block k low (omega (arith, below, size)))) (reads last.0 last.1)

  -- and the other way round.
  pub read_after : ((c : Content) → content_now b ≡ Some c → (x : Content) × (content_now a ≡ Some x)) → HasNow (Reads (data_at g block) bytes) a → HasNow (Reads (data_at g block) bytes) b
  read_after came reads c told =
      let first = came c told in
      Reads-same (data_at g block) bytes first.0 c (λ k below. KeepsOthers-data g sectors first.0 c is (others first.0 first.1 c told) block k low (omega (arith, below, size))) (reads first.0 first.1)

-- ---- tags

-- Tags are put, and then some of these written back.
pub adds_back_then : (g : Geometry) (tags new mid : Content → ℕ → List ℕ) {a m b : List Content} → AddsTags g tags new a m → GivesTags g new mid a m → AddsTags g mid mid m b → AddsTags g tags new a b
adds_back_then g tags new mid first gives second =
    EachMoment-join (λ start. OnlyAdds (IsOfTags g (tags start) (new start)) start) (λ start. OnlyAdds (IsOfTags g (mid start) (mid start)) start) first second
    (λ start middle later told told_middle so_far adds.
    OnlyAdds-join (IsOfTags g (tags start) (new start)) start middle later
    (⊎_elim (λ e. subst (OnlyAdds (IsOfTags g (tags start) (new start)) start) (sym e) (OnlyAdds-none (IsOfTags g (tags start) (new start)) start)) (λ p. p) so_far)
    (OnlyAdds-wider (IsOfTags g (mid middle) (mid middle)) (IsOfTags g (tags start) (new start)) (λ sector x of. record {
      whole = of.whole;
      block = of.block;
      byte = of.byte;
      block_low = of.block_low;
      byte_low = of.byte_low;
      is = of.is;
      each = λ n i low i_low here.
          let told_so = λ (tag : List ℕ). slice_index tag i in
          ⊎_elim (λ e. inr (e ∙ ap told_so (gives start told middle told_middle n low))) (λ e. inr (e ∙ ap told_so (gives start told middle told_middle n low))) (of.each n i low i_low here);
    }) middle later adds))
