-- Sector 0 is written with other fields, beside a store of tags.
use Rattle.std.proofs.Common.{◌≡◌, ◌++◌, inl, inr, ℕ, sym, ◌∙◌, ap, subst, arith, Some, List, length, drop, Result, Ok, Err, OnErr, OnOk}
use Rattle.std.proofs.lemmas.Option.{same_Some}
use Rattle.disk_model.specs.Disk.{AddsSome, Content, OnlyAdds, Reads, last_candidate, last_image, newest_only}
use Rattle.disk_model.specs.Identity.{DiskIdentity}
use Rattle.disk_model.specs.Moments.{EachSince, IsChangedBy, content_now}
use Rattle.disk_model.proofs.DiskLemmas.{AddsSome-none, IsOfRun-one, Reads-one, with_run-other}
use Rattle.disk_model.proofs.MomentsLemmas.{write_adds}
use Rattle.image_model.specs.Superblock.{Superblock, superblock_bytes}
use Rattle.place_model.proofs.TagsLemmas.{tag_byte-behind}
use Rattle.direct_laws.specs.CallLaws.{GivesTags}
use Rattle.change_model.specs.Fields.{with_head}
use Rattle.buffer_cache.proofs.CachedLemmas.{told_at_end}
use Rattle.tag_store.specs.Store.{IsStore, Store, given_tags}
use Rattle.place_model.specs.Tags.{HoldsTag}
use Rattle.tag_store.proofs.StoreLawsLemmas.{elsewhere_law, same_tags_law, synced_law}
use Rattle.direct_mode.proofs.StoreCalls.{ReadsWhole, given-whole}

-- What is written is sector 0 as it was read, with the fields.
pub head_of : (fields : Superblock) (old head : List ℕ) (start : Content) → Reads 0 old start → length old ≡ 512 → head ≡ superblock_bytes fields ++ drop 64 old → head ≡ with_head fields (last_image start 0)
head_of fields old head start read size written = written ∙ ap (λ (xs : List ℕ). superblock_bytes fields ++ drop 64 xs) (Reads-one 0 old start size read)

module _ (store : Store) (disk now : DiskIdentity) (head : List ℕ) {a b : List Content} (is : IsStore store disk a) (there : now ≡ disk) (size : length head ≡ 512) (moments : EachSince (AddsSome 0 head) a b) where
  -- It is no sector of tags,
  tags_elsewhere : (start d : Content) → AddsSome 0 head start d → (s : ℕ) → HoldsTag store.geometry s → d s ≡ start s
  tags_elsewhere start d adds s holds = elim (adds s) [
    | inl same ↦ same
    | inr written ↦ written ∙ with_run-other 0 head start s size (λ first.
        let behind = tag_byte-behind store.geometry disk.sectors holds.block holds.byte is.geometry holds.block_low in
        let at = holds.is in
        omega (arith, behind, at, first))
  ]

  start_of : (d : Content) → content_now b ≡ Some d → (c : Content) × (content_now a ≡ Some c) × ((s : ℕ) → HoldsTag store.geometry s → d s ≡ c s)
  start_of d told =
      let start = (told_at_end (AddsSome 0 head) (AddsSome-none 0 head) moments).each d told in
      (start.0, start.1, λ s holds. tags_elsewhere start.0 d start.2 s holds)

  store_there : IsStore store disk b
  store_there = elsewhere_law store disk a b is (λ d told. let start = start_of d told in (start.0, start.1, λ sector holds. ap last_candidate (start.2 sector holds)))

  -- so the store is one of the disk then,
  pub store_written : IsStore store now b
  store_written = subst (λ (i : DiskIdentity). IsStore store i b) (sym there) store_there

  -- and gives the same tags.
  pub gives_written : ReadsWhole disk a → ReadsWhole disk b → GivesTags store.geometry (given_tags store) (given_tags store) a b
  gives_written whole whole_b start told c told_c n low =
      let from = start_of c told_c in
      let same : from.0 ≡ start = same_Some from.0 start (sym from.1 ∙ told) in
      same_tags_law store disk a start c is (given-whole store disk a start is (whole start told)) (given-whole store disk b c store_there (whole_b c told_c))
      (λ sector holds. ap last_candidate (from.2 sector holds) ∙ ap (λ (x : Content). last_image x sector) same) n low

  -- Nothing else is written,
  pub head_adds : EachSince (OnlyAdds (λ s x. s ≡ 0)) a b
  head_adds = write_adds (λ s x. s ≡ 0) 0 head moments (λ s x of. (IsOfRun-one 0 head s x size of).0)

-- After a sync, also one that failed, the store is one of the disk.
pub store_synced : {T E : Type 0} (r : Result T E) (store : Store) (disk : DiskIdentity) (a b : List Content) → IsStore store disk a → OnOk r (IsChangedBy newest_only a b) → OnErr r (b ≡ a) → IsStore store disk b
store_synced (Ok x) store disk a b is synced same = synced_law store disk a b is synced
store_synced (Err e) store disk a b is synced same = subst (λ (m : List Content). IsStore store disk m) (sym same) is
