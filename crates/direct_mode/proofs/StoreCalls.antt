-- What the calls of a store of tags say, in the words of direct mode.
use Rattle.std.proofs.Common.{◌≡◌, ◌==◌, inl, inr, ⊎_elim, ℕ, ◌<◌, if◌then◌else◌, refl, sym, ◌∙◌, ap, subst, arith, Option, Some, None, List, length, slice_index}
use Rattle.std.specs.List.{Contains}
use Rattle.std.specs.Option.{option_map}
use Rattle.std.proofs.lemmas.Option.{same_Some}
use Rattle.disk_model.specs.Disk.{AddsSome, Content, IsImage, IsOfRun, OnlyAdds, Reads, last_image, newest_only, with_run}
use Rattle.disk_model.specs.Identity.{DiskIdentity}
use Rattle.disk_model.specs.Moments.{EachSince, HasNow, IsChangedBy, content_now}
use Rattle.disk_model.proofs.DiskLemmas.{AddsSome-adds, OnlyAdds-join, OnlyAdds-none, OnlyAdds-wider, Reads-same, Reads-with_run}
use Rattle.disk_model.proofs.MomentsLemmas.{EachMoment-join, EachMoment-kept, EachMoment-weaker, FromStart-weaker}
use Rattle.image_model.specs.Geometry.{Geometry, data_at, tag_at}
use Rattle.place_model.specs.Blocks.{IsBlockWrite}
use Rattle.place_model.specs.Tags.{KeepsOthers, with_block_tag}
use Rattle.place_model.proofs.BlocksLemmas.{KeepsOthers-data}
use Rattle.direct_model.specs.DirectDisk.{DirectDisk}
use Rattle.direct_laws.specs.CallLaws.{AddsTags, GivesTags, ReadsTagsNow}
use Rattle.direct_laws.specs.ServeLaws.{PutsTag, WritesBack}
use Rattle.buffer_cache.specs.declared.held.Held.{Held}
use Rattle.buffer_cache.specs.Cached.{IsAmidWriteBack, IsWrittenBack, held_or}
use Rattle.buffer_cache.specs.HeldSectors.{held_in}
use Rattle.buffer_cache.proofs.CachedLemmas.{changed_now, told_at_end}
use Rattle.tag_store.specs.Store.{IsFirstOfTag, IsOfPut, IsOutForTag, IsStore, KeepsButTag, KeepsStore, Store, StoresTag, given, given_tags, with_tag}
use Rattle.tag_store.specs.StoreLaws.{AreWhole}
use Rattle.tag_store.proofs.CallerLemmas.{back_adds_tags, back_reads_tags, get_adds_tags, keeps_gives_tags, keeps_others, put_adds_tags, put_gives_tags, put_keeps_others}
use Rattle.tag_store.proofs.SpansLemmas.{first_in_span}
use Rattle.tag_store.proofs.StoreLawsLemmas.{same_tags_law}
use Rattle.tag_store.proofs.StoreLemmas.{HoldsTag-span, same_at_end, tag-span}
use Rattle.direct_mode.specs.Cells.{IsBlock, IsOfBlock, block_write}

-- Each sector that is told has 512 bytes as it is read.
abbrev pub ReadsWhole : DiskIdentity → List Content → Type 0
ReadsWhole disk moments = (c : Content) → content_now moments ≡ Some c → AreWhole disk.sectors (last_image c)

pub reads_whole : (disk : DiskIdentity) (moments : List Content) → ((c : Content) → content_now moments ≡ Some c → IsImage c (last_image c))
    → ((c : Content) (sector : ℕ) (x : List ℕ) → content_now moments ≡ Some c → sector < disk.sectors → Contains (c sector) x → length x ≡ 512) → ReadsWhole disk moments
reads_whole disk moments image whole c told sector low = whole c sector (last_image c sector) told low (image c told sector)

-- So has each that the store gives.
pub given-whole : (store : Store) (disk : DiskIdentity) (m : List Content) (c : Content) → IsStore store disk m → AreWhole disk.sectors (last_image c) → AreWhole disk.sectors (given store c)
given-whole store disk m c is whole sector low = by_held (held_in store.sectors sector) refl
  where
    by_held : (o : Option Held) → held_in store.sectors sector ≡ o → length (held_or o (last_image c sector)) ≡ 512
    by_held None e = whole sector low
    by_held (Some held) e = is.cache.whole sector held e

-- ---- calls that keep the store

-- A call that keeps the moments writes no tag back.
pub back_kept : (g : Geometry) (tags : Content → ℕ → List ℕ) (a b : List Content) → b ≡ a → WritesBack g tags tags a b
back_kept g tags a b same = record {
  adds = EachMoment-kept _ same;
  others = λ start told c told_c. subst (KeepsOthers g start) (one start c told told_c) (record { each = λ sector none. refl });
  gives = λ start told c told_c n low. subst (λ (x : Content). tags x n ≡ tags start n) (one start c told told_c) refl;
}
  where
    one : (start c : Content) → content_now a ≡ Some start → content_now b ≡ Some c → start ≡ c
    one start c told told_c = same_Some start c (sym told ∙ ap content_now (sym same) ∙ told_c)

module _ (store new : Store) (disk now : DiskIdentity) {a b : List Content} (is : IsStore store disk a) (is_new : IsStore new now b) (whole : ReadsWhole disk a) where
  all_whole : (c : Content) → content_now a ≡ Some c → AreWhole disk.sectors (given store c)
  all_whole c told = given-whole store disk a c is (whole c told)

  kept : KeepsStore store new a b → AddsTags store.geometry (given_tags store) (given_tags store) a b → WritesBack store.geometry (given_tags store) (given_tags new) a b
  kept keeps adds = record {
    adds = adds;
    others = λ start told c told_c. keeps_others store new disk now is is_new keeps start c told told_c;
    gives = λ start told c told_c n low. keeps_gives_tags store new disk now is is_new keeps start c told told_c n;
  }

  -- A tag is got,
  pub gets_tag : (block : ℕ) → KeepsStore store new a b → EachSince (OnlyAdds (IsOutForTag block store)) a b → WritesBack store.geometry (given_tags store) (given_tags new) a b
  gets_tag block keeps moments = kept keeps (get_adds_tags store disk is all_whole block moments)

  -- the tags are written back,
  pub adds_back : EachSince (IsAmidWriteBack store.sectors) a b → AddsTags store.geometry (given_tags store) (given_tags store) a b
  adds_back moments = back_adds_tags store disk is all_whole moments

  pub writes_back : KeepsStore store new a b → EachSince (IsAmidWriteBack store.sectors) a b → WritesBack store.geometry (given_tags store) (given_tags new) a b
  writes_back keeps moments = kept keeps (adds_back moments)

  -- and then reads give them.
  pub reads_tags : KeepsStore store new a b → IsWrittenBack store.sectors new.sectors a b → ((c : Content) → content_now b ≡ Some c → (start : Content) × (content_now a ≡ Some start))
      → ReadsTagsNow store.geometry (given_tags new) b
  reads_tags keeps back came c told =
      let start = came c told in
      let read = back_reads_tags store new disk now is is_new all_whole back start.0 c start.1 told in
      record { each = λ n i low i_low. read.each n i low i_low ∙ ap (λ (tag : List ℕ). slice_index tag i) (sym (keeps_gives_tags store new disk now is is_new keeps start.0 c start.1 told n)) }

  -- ---- a put

  module _ (block : ℕ) (tag : List ℕ) (low : block < store.geometry.blocks) (size : length tag ≡ store.geometry.shape.tag_size) where
    pub adds_put : EachSince (λ start. OnlyAdds (IsOfPut block tag store start) start) a b → AddsTags store.geometry (given_tags store) (λ c. with_block_tag block tag (given_tags store c)) a b
    adds_put moments = put_adds_tags store disk is all_whole block tag low size moments

    pub puts_tag : StoresTag block tag store new a b → KeepsButTag block store new → EachSince (λ start. OnlyAdds (IsOfPut block tag store start) start) a b
        → PutsTag store.geometry block tag (given_tags store) (given_tags new) a b
    puts_tag stored keeps moments = record {
      adds = adds_put moments;
      others = λ start told c told_c. put_keeps_others store new disk now is is_new block tag low size keeps.geometry stored start c told told_c;
      gives = λ start told c told_c n n_low. put_gives_tags store new disk now is is_new block tag low size keeps.geometry all_whole stored start c told told_c n n_low;
    }

-- What is put of a block behind a call that leaves the tags is told by the content before that.
pub gives_put : (g : Geometry) (block : ℕ) (tag : List ℕ) (tags now : Content → ℕ → List ℕ) (a m b : List Content) → GivesTags g tags tags a m → ((c : Content) → content_now b ≡ Some c → (start : Content) × (content_now m ≡ Some start))
    → GivesTags g (λ c. with_block_tag block tag (tags c)) now m b → GivesTags g (λ c. with_block_tag block tag (tags c)) now a b
gives_put g block tag tags now a m b same came put start told c told_c n low =
    let mid = came c told_c in
    put mid.0 mid.1 c told_c n low ∙ ap (λ (x : List ℕ). if block == n then tag else x) (same start told mid.0 mid.1 n low)

-- ---- a block and its tag

pub is_block_write : (g : Geometry) (d : DirectDisk) (ticket block : ℕ) (bytes : List ℕ) → d.geometry ≡ g → IsBlock g block bytes → IsBlockWrite d.geometry (block_write ticket block bytes)
is_block_write g d ticket block bytes e is = subst (λ (y : Geometry). IsBlockWrite y (block_write ticket block bytes)) (sym e) (record { block = is.low; bytes = is.size })

-- Reads give the bytes of a block after its tag was put.
pub reads_block : (store : Store) (disk : DiskIdentity) (now : Content → ℕ → List ℕ) (block : ℕ) (bytes tag : List ℕ) (a m b : List Content) → IsStore store disk m → IsBlock store.geometry block bytes
    → IsChangedBy (with_run (data_at store.geometry block) bytes) a m → EachSince (λ start. OnlyAdds (IsOfPut block tag store start) start) m b → PutsTag store.geometry block tag (given_tags store) now m b
    → HasNow (Reads (data_at store.geometry block) bytes) b
reads_block store disk now block bytes tag a m b is block_ written moments put c told =
    let middle = (told_at_end (λ start. OnlyAdds (IsOfPut block tag store start) start) (λ x. OnlyAdds-none (IsOfPut block tag store x) x) moments).each c told in
    let first = changed_now (with_run (data_at store.geometry block) bytes) (content_now a) (content_now m) written middle.0 middle.1 in
    let size = block_.size in
    Reads-same (data_at store.geometry block) bytes middle.0 c
    (λ k below. KeepsOthers-data store.geometry disk.sectors middle.0 c is.geometry (put.others middle.0 middle.1 c told) block k block_.low (omega (arith, below, size)))
    (subst (Reads (data_at store.geometry block) bytes) (sym first.2) (Reads-with_run (data_at store.geometry block) bytes first.0))

module _ (store : Store) (disk now : DiskIdentity) (block : ℕ) (bytes tag : List ℕ) {a m : List Content} (is : IsStore store disk a) (there : now ≡ disk) (block_ : IsBlock store.geometry block bytes)
    (data_ : EachSince (AddsSome (data_at store.geometry block) bytes) a m) where
  -- While the data are written,
  pub adds_data : EachSince (λ start. OnlyAdds (IsOfBlock block bytes tag store start) start) a m
  adds_data = EachMoment-weaker (FromStart-weaker a (AddsSome (data_at store.geometry block) bytes) (λ start. OnlyAdds (IsOfBlock block bytes tag store start) start)
      (λ start c told some. OnlyAdds-wider (IsOfRun (data_at store.geometry block) bytes) (IsOfBlock block bytes tag store start) (λ s x of. inl of) start c
      (AddsSome-adds (data_at store.geometry block) bytes start c some))) data_

  -- the first sector of the tag stays as it is given,
  first_same : (start middle : Content) → content_now a ≡ Some start → content_now m ≡ Some middle → (sector : ℕ) → IsFirstOfTag store.geometry block sector
      → with_tag store.geometry block tag (given store middle) sector ≡ with_tag store.geometry block tag (given store start) sector
  first_same start middle told told_middle sector first =
      let span = tag-span store.geometry disk.sectors block store.geometry.shape.tag_size is.geometry block_.low refl in
      let came = same_at_end store disk now block bytes is there block_.size data_ middle told_middle in
      let holds = HoldsTag-span store.geometry block store.geometry.shape.tag_size sector block_.low refl
      (first_in_span (tag_at store.geometry block).sector (tag_at store.geometry block).byte store.geometry.shape.tag_size sector span.begins span.some first.is) in
      let same : middle sector ≡ start sector = came.2 sector holds ∙ ap (λ (c : Content). c sector) (same_Some came.0 start (sym came.1 ∙ told)) in
      ap (λ (xs : List (List ℕ)). with_tag store.geometry block tag (given store (λ s. xs)) sector) same

  -- so what a put may write then it might have written before,
  put_before : (start middle : Content) → content_now a ≡ Some start → content_now m ≡ Some middle → (sector : ℕ) (x : List ℕ) → IsOfPut block tag store middle sector x → IsOfPut block tag store start sector x
  put_before start middle told told_middle sector x of = ⊎_elim inl (λ first. inr (first.0, first.1 ∙ first_same start middle told told_middle sector first.0)) of

  -- and both add so through a whole write.
  pub adds_block : {b : List Content} → EachSince (λ start. OnlyAdds (IsOfPut block tag store start) start) m b → EachSince (λ start. OnlyAdds (IsOfBlock block bytes tag store start) start) a b
  adds_block put = EachMoment-join (λ start. OnlyAdds (IsOfBlock block bytes tag store start) start) (λ start. OnlyAdds (IsOfPut block tag store start) start) adds_data put
      (λ start middle later told told_middle so_far adds.
      OnlyAdds-join (IsOfBlock block bytes tag store start) start middle later
      (⊎_elim (λ e. subst (OnlyAdds (IsOfBlock block bytes tag store start) start) (sym e) (OnlyAdds-none (IsOfBlock block bytes tag store start) start)) (λ p. p) so_far)
      (OnlyAdds-wider (IsOfPut block tag store middle) (IsOfBlock block bytes tag store start) (λ s x of. inr (put_before start middle told told_middle s x of)) middle later adds))

-- ---- a sync

-- It leaves what the store gives.
pub gives_synced : (store : Store) (disk : DiskIdentity) (a b : List Content) → IsStore store disk a → ReadsWhole disk a → IsChangedBy newest_only a b → GivesTags store.geometry (given_tags store) (given_tags store) a b
gives_synced store disk a b is whole synced start told c told_c n low =
    let first = changed_now newest_only (content_now a) (content_now b) synced c told_c in
    let same : c ≡ newest_only start = first.2 ∙ ap newest_only (same_Some first.0 start (sym first.1 ∙ told)) in
    let whole_start = given-whole store disk a start is (whole start told) in
    same_tags_law store disk a start c is whole_start (subst (λ (x : Content). AreWhole disk.sectors (given store x)) (sym same) whole_start)
    (λ sector holds. ap (λ (x : Content). last_image x sector) same) n low

-- A change of the content after another one.
pub changed_then : (f g : Content → Content) (first middle last : Option Content) → middle ≡ option_map f first → last ≡ option_map g middle → last ≡ option_map (λ c. g (f c)) first
changed_then f g None middle last e h = h ∙ ap (option_map g) e
changed_then f g (Some c) middle last e h = h ∙ ap (option_map g) e
