-- For callers: what a store's calls may write and leave, in the words of every mode (specs/Tags.antt of place_model).
use Rattle.std.proofs.Common.{◌≡◌, inl, inr, ⊎_elim, ℕ, ◌<◌, List, length, slice_index, ◌∙◌, ap, Some}
use Rattle.disk_model.specs.Disk.{Content, Image, OnlyAdds}
use Rattle.disk_model.specs.Identity.{DiskIdentity}
use Rattle.disk_model.specs.Moments.{EachSince, content_now}
use Rattle.disk_model.proofs.MomentsLemmas.{adds_told, adds_wider, EachMoment-weaker, FromStart-weaker}
use Rattle.disk_model.proofs.DiskLemmas.{OnlyAdds-wider}
use Rattle.image_model.specs.Geometry.{Geometry}
use Rattle.place_model.specs.Tags.{IsOfTags, KeepsOthers, ReadsTags, with_block_tag}
use Rattle.buffer_cache.specs.Cached.{IsAmidWriteBack, IsWrittenBack}
use Rattle.buffer_cache.proofs.CachedLemmas.{write_back_adds}
use Rattle.tag_store.specs.Store.{IsMarkedTags, IsOfPut, IsOutForTag, IsStore, KeepsStore, Store, StoresFirst, StoresTag, given, given_tags, tags_in, with_tag}
use Rattle.tag_store.specs.StoreLaws.{AreWhole}
use Rattle.tag_store.proofs.StoreLemmas.{marked_adds}
use Rattle.tag_store.proofs.StoreLawsLemmas.{keeps_others_law, others_law, marked_law, put_law, reads_tags_law}
use Rattle.tag_store.proofs.PutLemmas.{put_tags_law}

-- ---- what may be written

-- The same tags told otherwise.
pub IsOfTags-same : (g : Geometry) (old new old_ new_ : ℕ → List ℕ) (sector : ℕ) (x : List ℕ) → ((b : ℕ) → b < g.blocks → old b ≡ old_ b) → ((b : ℕ) → b < g.blocks → new b ≡ new_ b)
    → IsOfTags g old new sector x → IsOfTags g old_ new_ sector x
IsOfTags-same g old new old_ new_ sector x same same_new of = record {
  whole = of.whole;
  block = of.block;
  byte = of.byte;
  block_low = of.block_low;
  byte_low = of.byte_low;
  is = of.is;
  each = λ b i low i_low here. ⊎_elim
      (λ e. inl (e ∙ ap (λ (tag : List ℕ). slice_index tag i) (same b low)))
      (λ e. inr (e ∙ ap (λ (tag : List ℕ). slice_index tag i) (same_new b low))) (of.each b i low i_low here);
}

module _ (store : Store) (disk : DiskIdentity) {a b : List Content} (is : IsStore store disk a) (whole : (c : Content) → content_now a ≡ Some c → AreWhole disk.sectors (given store c)) where
  -- What is marked has tags that the store gives,
  marked_adds_tags : EachSince (OnlyAdds (IsMarkedTags store)) a b → EachSince (λ start. OnlyAdds (IsOfTags store.geometry (given_tags store start) (given_tags store start)) start) a b
  marked_adds_tags moments =
      adds_told (λ start. IsOfTags store.geometry (given_tags store start) (given_tags store start)) (IsMarkedTags store)
      (λ start told sector x marked. (marked_law store disk a start sector x is (whole start told) marked).1) moments

  -- so a get adds such,
  pub get_adds_tags : (block : ℕ) → EachSince (OnlyAdds (IsOutForTag block store)) a b → EachSince (λ start. OnlyAdds (IsOfTags store.geometry (given_tags store start) (given_tags store start)) start) a b
  get_adds_tags block moments = marked_adds_tags (adds_wider (IsOutForTag block store) (IsMarkedTags store) (λ sector x out. out.marked) moments)

  -- a write-back,
  pub back_adds_tags : EachSince (IsAmidWriteBack store.sectors) a b → EachSince (λ start. OnlyAdds (IsOfTags store.geometry (given_tags store start) (given_tags store start)) start) a b
  back_adds_tags moments = marked_adds_tags (marked_adds store disk is (write_back_adds store.sectors moments))

  -- and a put those, and the one that is put.
  pub put_adds_tags : (block : ℕ) (tag : List ℕ) → block < store.geometry.blocks → length tag ≡ store.geometry.shape.tag_size → EachSince (λ start. OnlyAdds (IsOfPut block tag store start) start) a b
      → EachSince (λ start. OnlyAdds (IsOfTags store.geometry (given_tags store start) (with_block_tag block tag (given_tags store start))) start) a b
  put_adds_tags block tag low size moments =
      EachMoment-weaker (FromStart-weaker a (λ start. OnlyAdds (IsOfPut block tag store start) start)
      (λ start. OnlyAdds (IsOfTags store.geometry (given_tags store start) (with_block_tag block tag (given_tags store start))) start)
      (λ start c told adds. OnlyAdds-wider (IsOfPut block tag store start) (IsOfTags store.geometry (given_tags store start) (with_block_tag block tag (given_tags store start)))
      (λ sector x of. put_law store disk a start block tag sector x is (whole start told) low size of) start c adds)) moments

-- ---- what reads give behind a call

module _ (old new : Store) (disk now : DiskIdentity) {a b : List Content} (is : IsStore old disk a) (is_now : IsStore new now b) where
  -- Of the sectors without tags they give what they gave,
  pub keeps_others : KeepsStore old new a b → (c d : Content) → content_now a ≡ Some c → content_now b ≡ Some d → KeepsOthers old.geometry c d
  keeps_others keeps c d told told_end =
      keeps_others_law old new disk now a b c d is is_now keeps.geometry (λ sector none. keeps.sectors.given c told d told_end sector)

  pub put_keeps_others : (block : ℕ) (tag : List ℕ) → block < old.geometry.blocks → length tag ≡ old.geometry.shape.tag_size → new.geometry ≡ old.geometry → StoresTag block tag old new a b
      → (c d : Content) → content_now a ≡ Some c → content_now b ≡ Some d → KeepsOthers old.geometry c d
  put_keeps_others block tag low size same stored c d told told_end =
      keeps_others_law old new disk now a b c d is is_now same
      (λ sector none. stored.given_ c told d told_end sector ∙ others_law old.geometry disk.sectors block tag (given old c) sector is.geometry low size none)

  pub failed_put_keeps_others : (block : ℕ) (tag : List ℕ) → block < old.geometry.blocks → length tag ≡ old.geometry.shape.tag_size → new.geometry ≡ old.geometry → StoresFirst block tag old new a b
      → (c d : Content) → content_now a ≡ Some c → content_now b ≡ Some d → KeepsOthers old.geometry c d
  failed_put_keeps_others block tag low size same stored c d told told_end =
      keeps_others_law old new disk now a b c d is is_now same
      (λ sector none. ⊎_elim (λ e. e)
      (λ first. first.1 ∙ others_law old.geometry disk.sectors block tag (given old c) sector is.geometry low size none) (stored.given_ c told d told_end sector))

  -- and of the tags, after a write-back, what the store gave.
  pub back_reads_tags : ((c : Content) → content_now a ≡ Some c → AreWhole disk.sectors (given old c)) → IsWrittenBack old.sectors new.sectors a b
      → (c d : Content) → content_now a ≡ Some c → content_now b ≡ Some d → ReadsTags old.geometry (given_tags old c) d
  back_reads_tags whole back c d told told_end = reads_tags_law old disk a c d is (whole c told) (λ sector. back.read c told d told_end sector)

  -- A put changes the tag of its block alone,
  pub put_gives_tags : (block : ℕ) (tag : List ℕ) → block < old.geometry.blocks → length tag ≡ old.geometry.shape.tag_size → new.geometry ≡ old.geometry → ((c : Content) → content_now a ≡ Some c → AreWhole disk.sectors (given old c))
      → StoresTag block tag old new a b → (c d : Content) → content_now a ≡ Some c → content_now b ≡ Some d → (k : ℕ) → k < old.geometry.blocks → given_tags new d k ≡ with_block_tag block tag (given_tags old c) k
  put_gives_tags block tag low size same whole stored c d told told_end k k_low =
      let image : given new d ≡ with_tag old.geometry block tag (given old c) = λ i s. stored.given_ c told d told_end s i in
      ap (λ (g : Geometry). tags_in g (given new d) k) same
      ∙ ap (λ (x : Image). tags_in old.geometry x k) image
      ∙ put_tags_law old.geometry disk.sectors block tag (given old c) is.geometry (whole c told) low size k k_low

  -- and no other call changes any.
  pub keeps_gives_tags : KeepsStore old new a b → (c d : Content) → content_now a ≡ Some c → content_now b ≡ Some d → (k : ℕ) → given_tags new d k ≡ given_tags old c k
  keeps_gives_tags keeps c d told told_end k =
      let image : given new d ≡ given old c = λ i s. keeps.sectors.given c told d told_end s i in
      ap (λ (g : Geometry). tags_in g (given new d) k) keeps.geometry ∙ ap (λ (x : Image). tags_in old.geometry x k) image
