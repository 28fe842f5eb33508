-- Lemmas on the words of specs/Store.antt, for the calls of a store.
use Rattle.std.proofs.Common.{◌≡◌, inl, inr, ⊎_elim, ℕ, ◌-◌, ◌*◌, ◌<◌, List, length, slice_index, true, refl, sym, ◌∙◌, ap, subst, arith, Option, Some, None}
use Rattle.std.specs.Option.{is_some}
use Rattle.std.proofs.lemmas.Bool.{false≢true}
use Rattle.std.proofs.lemmas.Option.{same_Some}
use Rattle.disk_model.specs.Disk.{AddsSome, Content, Image, IsRun, OnlyAdds, last_candidate}
use Rattle.disk_model.specs.Identity.{DiskIdentity, IsBound}
use Rattle.disk_model.specs.Moments.{EachSince, content_now}
use Rattle.disk_model.proofs.DiskLemmas.{AddsSome-none, OnlyAdds-wider, with_run-out}
use Rattle.disk_model.proofs.MomentsLemmas.{EachMoment-weaker, FromStart-weaker, adds_wider}
use Rattle.image_model.specs.Cells.{placed_cells_of}
use Rattle.image_model.specs.Geometry.{Geometry, IsGeometry, tag_at, data_at}
use Rattle.image_model.proofs.GeometryLemmas.{tag_at-inside, data_at-inside}
use Rattle.place_model.specs.Tags.{tag_byte_at, HoldsTag}
use Rattle.place_model.proofs.PlacedLemmas.{placed_tag, placed_tag-byte, placed_tag-length}
use Rattle.place_model.proofs.TagsLemmas.{tag_byte-no_data}
use Rattle.buffer_cache.specs.declared.held.Held.{Held}
use Rattle.buffer_cache.specs.declared.held.HeldSectors.{HeldSectors}
use Rattle.buffer_cache.specs.Cached.{IsMarkedSector, IsOfDisk, held_or}
use Rattle.buffer_cache.specs.HeldSectors.{held_in}
use Rattle.buffer_cache.proofs.CachedLemmas.{IsOfDisk-elsewhere, told_at_end}
use Rattle.tag_store.specs.Spans.{HoldsSpan, IsFirstOfTwo, IsInSpan, IsOfSpan, IsOutForSpan, IsSpan, span_of}
use Rattle.tag_store.specs.Store.{IsMarkedTags, IsOfPut, IsOutForTag, IsStore, KeepsTags, Store, given, tags_in}

-- ---- where a tag stands

-- The tag of a block is a span of the disk.
pub tag-span : (g : Geometry) (sectors b size : ℕ) → IsGeometry g sectors → b < g.blocks → size ≡ g.shape.tag_size → IsSpan (tag_at g b).sector (tag_at g b).byte size sectors
tag-span g sectors b size geometry low is =
    let tag = tag_at-inside g sectors b geometry low in
    let bytes = data_at-inside g sectors b geometry low in
    let some = geometry.tag_size.0 in
    let most = geometry.tag_size.1 in
    record { begins = tag.2; some = omega arith; short = omega arith; ends = omega arith; device = geometry.device }

pub tags_in-span : (g : Geometry) (image : Image) (b : ℕ) → tags_in g image b ≡ span_of (tag_at g b).sector (tag_at g b).byte g.shape.tag_size image
unfolding placed_cells_of
tags_in-span g image b = refl

-- The data of a block are a run of the disk.
pub data-run : (g : Geometry) (sectors b size : ℕ) → IsGeometry g sectors → b < g.blocks → size ≡ 512 * g.shape.spb → IsRun (data_at g b) size sectors
data-run g sectors b size geometry low is =
    let inside = data_at-inside g sectors b geometry low in
    let some = geometry.spb.0 in
    record { whole = omega arith; some = omega arith; inside = omega arith }

-- A sector with a byte of the span has one of the tag.
pub HoldsTag-span : (g : Geometry) (b size sector : ℕ) → b < g.blocks → size ≡ g.shape.tag_size → IsInSpan (tag_at g b).sector (tag_at g b).byte size sector → HoldsTag g sector
unfolding tag_byte_at
HoldsTag-span g b size sector low same of = record { block = b; byte = of.byte; block_low = low; byte_low = omega arith; is = of.is }

-- The tag of a block is the same in two images whose sectors of tags are.
pub tags_in-same : (g : Geometry) (sectors : ℕ) → IsGeometry g sectors → (x y : Image) → ((s : ℕ) → s < sectors → length (x s) ≡ 512) → ((s : ℕ) → s < sectors → length (y s) ≡ 512)
    → ((s : ℕ) → HoldsTag g s → y s ≡ x s) → (b : ℕ) → b < g.blocks → tags_in g y b ≡ tags_in g x b
tags_in-same g sectors geometry x y whole_x whole_y same b low =
    placed_tag g sectors geometry y whole_y b low (placed_cells_of g x b) (placed_tag-length g sectors geometry x whole_x b low (placed_cells_of g x b))
    (λ i i_low.
    let holds : HoldsTag g (tag_byte_at g b i).sector = record { block = b; byte = i; block_low = low; byte_low = i_low; is = refl } in
    ap (λ (bytes : List ℕ). slice_index bytes (tag_byte_at g b i).byte) (same (tag_byte_at g b i).sector holds)
    ∙ sym (placed_tag-byte g sectors geometry x whole_x b low (placed_cells_of g x b) i i_low))

-- What is given of a sector hangs on the sector alone.
given-same : (store : Store) (s : ℕ) (c d : Content) → d s ≡ c s → given store d s ≡ given store c s
given-same store s c d same = ap (λ (xs : List (List ℕ)). held_or (held_in store.sectors s) (last_candidate xs)) same

-- ---- a store and its disk

found_or : (o : Option Held) → is_some o ≡ true → (held : Held) × (o ≡ Some held)
found_or None found = absurd (false≢true found)
found_or (Some held) found = (held, refl)

-- What comes to be held are sectors of the tag of a block.
pub IsStore-also : (g : Geometry) (disk now : DiskIdentity) {a b : List Content} (r s : HeldSectors) (block size : ℕ) → block < g.blocks → size ≡ g.shape.tag_size
    → IsStore (record { geometry = g; sectors = r }) disk a → now ≡ disk → IsOfDisk s now b → HoldsSpan (tag_at g block).sector (tag_at g block).byte size r s
    → IsStore (record { geometry = g; sectors = s }) now b
IsStore-also g disk now r s block size low same is there cache held = record {
  bound = subst (λ (d : DiskIdentity). IsBound d.name) (sym there) is.bound;
  geometry = subst (λ (d : DiskIdentity). IsGeometry g d.sectors) (sym there) is.geometry;
  cache = cache;
  tags_only = λ sector found e. ⊎_elim
      (λ before. let was = found_or (held_in r sector) before in is.tags_only sector was.0 was.1)
      (λ of. HoldsTag-span g block size sector low same of) (held.each sector found e);
}

-- ---- what may be written

pub IsMarkedTags-held : (store : Store) (disk : DiskIdentity) {m : List Content} (sector : ℕ) (x : List ℕ) → IsStore store disk m → IsMarkedSector store.sectors sector x → IsMarkedTags store sector x
IsMarkedTags-held store disk sector x is of = record { tags = is.tags_only sector of.held of.is; marked = of }

pub marked_adds : (store : Store) (disk : DiskIdentity) {m a b : List Content} → IsStore store disk m → EachSince (OnlyAdds (IsMarkedSector store.sectors)) a b → EachSince (OnlyAdds (IsMarkedTags store)) a b
marked_adds store disk is moments = adds_wider (IsMarkedSector store.sectors) (IsMarkedTags store) (λ sector x of. IsMarkedTags-held store disk sector x is of) moments

IsOutForTag-span : (store : Store) (disk : DiskIdentity) {m : List Content} (block size sector : ℕ) (x : List ℕ) → IsStore store disk m → size ≡ store.geometry.shape.tag_size
    → IsOutForSpan (tag_at store.geometry block).sector (tag_at store.geometry block).byte size store.sectors sector x → IsOutForTag block store sector x
IsOutForTag-span store disk block size sector x is same out = record {
  marked = IsMarkedTags-held store disk sector x is out.marked;
  used = ⊎_elim inl (λ past. inr (omega arith)) out.used;
}

pub out_adds : (store : Store) (disk : DiskIdentity) {m a b : List Content} (block size : ℕ) → IsStore store disk m → size ≡ store.geometry.shape.tag_size
    → EachSince (OnlyAdds (IsOutForSpan (tag_at store.geometry block).sector (tag_at store.geometry block).byte size store.sectors)) a b → EachSince (OnlyAdds (IsOutForTag block store)) a b
out_adds store disk block size is same moments =
    adds_wider (IsOutForSpan (tag_at store.geometry block).sector (tag_at store.geometry block).byte size store.sectors) (IsOutForTag block store)
    (λ sector x out. IsOutForTag-span store disk block size sector x is same out) moments

-- ---- a tag that is put

first_of_size : (at from size length_ sector : ℕ) → size ≡ length_ → IsFirstOfTwo at from length_ sector → IsFirstOfTwo at from size sector
first_of_size at from size length_ sector same of = record { is = of.is; past = let past = of.past in omega arith }

module _ (g : Geometry) (block : ℕ) (tag : List ℕ) (size : length tag ≡ g.shape.tag_size) (r s : HeldSectors) where
  abbrev old : Store
  old = record { geometry = g; sectors = r }

  abbrev new : Store
  new = record { geometry = g; sectors = s }

  pub put_adds : (disk : DiskIdentity) {m a b : List Content} → IsStore old disk m → EachSince (λ start. OnlyAdds (IsOfSpan (tag_at g block).sector (tag_at g block).byte tag r start) start) a b
      → EachSince (λ start. OnlyAdds (IsOfPut block tag old start) start) a b
  put_adds disk {m} {a} {b} is moments =
      EachMoment-weaker (FromStart-weaker a (λ start. OnlyAdds (IsOfSpan (tag_at g block).sector (tag_at g block).byte tag r start) start) (λ start. OnlyAdds (IsOfPut block tag old start) start)
      (λ start c told adds. OnlyAdds-wider (IsOfSpan (tag_at g block).sector (tag_at g block).byte tag r start) (IsOfPut block tag old start)
      (λ sector x of. ⊎_elim (λ out. inl (IsOutForTag-span old disk block (length tag) sector x is size out))
      (λ first. inr (first_of_size (tag_at g block).sector (tag_at g block).byte g.shape.tag_size (length tag) sector (sym size) first.0, first.1)) of) start c adds)) moments

-- ---- a block that is written

-- A write of a block's data leaves each sector of tags.
pub tag_sector-same : (g : Geometry) (sectors block sector : ℕ) (bytes : List ℕ) (c d : Content) → IsGeometry g sectors → length bytes ≡ 512 * g.shape.spb → HoldsTag g sector → AddsSome (data_at g block) bytes c d → d sector ≡ c sector
tag_sector-same g sectors block sector bytes c d geometry size holds adds = elim (adds sector) [
  | inl same ↦ same
  | inr written ↦ written ∙ with_run-out (data_at g block) bytes c sector
      (λ above under.
      let off = tag_byte-no_data g sectors holds.block block holds.byte (sector - data_at g block) geometry holds.byte_low (omega (arith, size)) in
      off (sym holds.is ∙ omega arith))
]

module _ (store : Store) (disk now : DiskIdentity) (block : ℕ) (bytes : List ℕ) {a b : List Content} (is : IsStore store disk a) (there : now ≡ disk) (size : length bytes ≡ 512 * store.geometry.shape.spb)
    (moments : EachSince (AddsSome (data_at store.geometry block) bytes) a b) where
  pub same_at_end : (d : Content) → content_now b ≡ Some d → (c : Content) × (content_now a ≡ Some c) × ((s : ℕ) → HoldsTag store.geometry s → d s ≡ c s)
  same_at_end d told =
      let start = (told_at_end (AddsSome (data_at store.geometry block) bytes) (AddsSome-none (data_at store.geometry block) bytes) moments).each d told in
      (start.0, start.1, λ s holds. tag_sector-same store.geometry disk.sectors block s bytes start.0 d is.geometry size holds start.2)

  pub IsStore-written : IsStore store now b
  IsStore-written = record {
    bound = subst (λ (i : DiskIdentity). IsBound i.name) (sym there) is.bound;
    geometry = subst (λ (i : DiskIdentity). IsGeometry store.geometry i.sectors) (sym there) is.geometry;
    cache = IsOfDisk-elsewhere now store.sectors (subst (λ (i : DiskIdentity). IsOfDisk store.sectors i a) (sym there) is.cache)
        (λ d told.
        let start = same_at_end d told in
        (start.0, start.1, λ s held e. ap last_candidate (start.2 s (is.tags_only s held e))));
    tags_only = is.tags_only;
  }

  pub KeepsTags-written : ((c : Content) → content_now a ≡ Some c → (s : ℕ) → s < disk.sectors → length (given store c s) ≡ 512) → ((c : Content) → content_now b ≡ Some c → (s : ℕ) → s < disk.sectors → length (given store c s) ≡ 512)
      → KeepsTags store a b
  KeepsTags-written whole whole_now = record {
    each = λ c told d told_end block_ low.
        let start = same_at_end d told_end in
        let same : start.0 ≡ c = same_Some _ _ (sym start.1 ∙ told) in
        tags_in-same store.geometry disk.sectors is.geometry (given store c) (given store d) (whole c told) (whole_now d told_end)
        (λ s holds. given-same store s c d (start.2 s holds ∙ ap (λ (x : Content). x s) same)) block_ low;
  }
