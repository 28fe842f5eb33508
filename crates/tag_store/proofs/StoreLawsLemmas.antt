-- The laws of specs/StoreLaws.antt.
use Rattle.std.proofs.Common.{◌≡◌, ◌≢◌, inl, inr, ⊎_elim, ℕ, ◌+◌, ◌-◌, ◌<◌, List, length, take, slice_index, refl, sym, ◌∙◌, ap, subst, arith, Option, Some, None}
use Rattle.std.proofs.lemmas.Bool.{cases_eq, cases_lt}
use Rattle.std.proofs.lemmas.List.{drop_all}
use Rattle.std.proofs.lemmas.Option.{none-some}
use Rattle.disk_model.specs.Disk.{Content, Image, last_image, newest_only}
use Rattle.disk_model.specs.Moments.{content_now}
use Rattle.image_model.specs.Cells.{placed_cells_of}
use Rattle.image_model.specs.Geometry.{Geometry, IsGeometry, tag_at, tag_offset}
use Rattle.image_model.proofs.GeometryLemmas.{tag_at-inside, data_at-inside}
use Rattle.place_model.specs.Tags.{IsOfTags, tag_byte_at, with_block_tag, HoldsTag}
use Rattle.place_model.proofs.PlacedLemmas.{placed_tag-byte}
use Rattle.buffer_cache.specs.declared.held.Held.{Held}
use Rattle.buffer_cache.specs.Cached.{held_or, with_given_piece}
use Rattle.buffer_cache.specs.HeldSectors.{held_in}
use Rattle.buffer_cache.proofs.CachedLemmas.{IsOfDisk-elsewhere, IsOfDisk-none, changed_now}
use Rattle.tag_store.specs.Spans.{IsInSpan, IsSpan}
use Rattle.tag_store.specs.Store.{IsFirstOfTag, IsMarkedTags, Store, given, given_tags, tags_in, with_tag}
use Rattle.tag_store.specs.StoreLaws.{AreWhole, DirectLaw, ElsewhereLaw, FreshLaw, KeepsOthersLaw, MarkedLaw, OtherRegionsLaw, OthersLaw, PutLaw, ReadsTagsLaw, RestLaw, SameTagsLaw, SyncedLaw}
use Rattle.tag_store.proofs.PutLemmas.{with_span-other, with_tag-byte, with_tag-length, with_tag-rest}
use Rattle.tag_store.proofs.SpansLemmas.{first_in_span, next_in_span, with_given_piece-none, with_given_piece-other}
use Rattle.tag_store.proofs.StoreLemmas.{HoldsTag-span, tag-span, tags_in-same}

-- ---- what may be written

-- A sector with a byte of a tag is one of the disk.
HoldsTag-inside : (g : Geometry) (sectors sector : ℕ) → IsGeometry g sectors → HoldsTag g sector → sector < sectors
unfolding tag_byte_at
HoldsTag-inside g sectors sector geometry holds =
    let tag = tag_at-inside g sectors holds.block geometry holds.block_low in
    let bytes = data_at-inside g sectors holds.block geometry holds.block_low in
    let is = holds.is in
    let low = holds.byte_low in
    omega arith

-- The first sector of a tag has its first byte.
HoldsTag-first : (g : Geometry) (sectors block sector : ℕ) → IsGeometry g sectors → block < g.blocks → IsFirstOfTag g block sector → HoldsTag g sector
unfolding tag_byte_at
HoldsTag-first g sectors block sector geometry low first =
    let tag = tag_at-inside g sectors block geometry low in
    let is = first.is in
    record { block = block; byte = 0; block_low = low; byte_low = geometry.tag_size.0; is = omega arith }

-- What stands in a sector of tags of an image, has its tags in it,
IsOfTags-image : (g : Geometry) (sectors : ℕ) (image : Image) (new : ℕ → List ℕ) (sector : ℕ) (x : List ℕ) → IsGeometry g sectors → AreWhole sectors image → HoldsTag g sector → x ≡ image sector → IsOfTags g (tags_in g image) new sector x
IsOfTags-image g sectors image new sector x geometry whole holds is = record {
  whole = ap (λ (xs : List ℕ). length xs) is ∙ whole sector (HoldsTag-inside g sectors sector geometry holds);
  block = holds.block;
  byte = holds.byte;
  block_low = holds.block_low;
  byte_low = holds.byte_low;
  is = holds.is;
  each = λ b i b_low i_low here. inl
      (ap (λ (bytes : List ℕ). slice_index bytes (tag_byte_at g b i).byte) (is ∙ ap image here)
      ∙ sym (placed_tag-byte g sectors geometry image whole b b_low (placed_cells_of g image b) i i_low));
}

-- and with a tag put, those with this one.
IsOfTags-put : (g : Geometry) (sectors : ℕ) (image : Image) (block : ℕ) (tag : List ℕ) (sector : ℕ) (x : List ℕ) → IsGeometry g sectors → AreWhole sectors image → block < g.blocks → length tag ≡ g.shape.tag_size → HoldsTag g sector
    → x ≡ with_tag g block tag image sector → IsOfTags g (tags_in g image) (with_block_tag block tag (tags_in g image)) sector x
IsOfTags-put g sectors image block tag sector x geometry whole low size holds is = record {
  whole = ap (λ (xs : List ℕ). length xs) is ∙ with_tag-length g sectors block tag image geometry whole low size sector ∙ whole sector (HoldsTag-inside g sectors sector geometry holds);
  block = holds.block;
  byte = holds.byte;
  block_low = holds.block_low;
  byte_low = holds.byte_low;
  is = holds.is;
  each = λ b i b_low i_low here. inr
      (ap (λ (bytes : List ℕ). slice_index bytes (tag_byte_at g b i).byte) (is ∙ ap (with_tag g block tag image) here)
      ∙ with_tag-byte g sectors block tag image geometry whole low size b i b_low i_low);
}

marked_is_given : (store : Store) (start : Content) (sector : ℕ) (x : List ℕ) → IsMarkedTags store sector x → x ≡ given store start sector
marked_is_given store start sector x marked = marked.marked.bytes ∙ sym (ap (λ (o : Option Held). held_or o (last_image start sector)) marked.marked.is)

pub marked_law : MarkedLaw
marked_law store disk moments start sector x is whole marked =
    let same = marked_is_given store start sector x marked in
    (same, IsOfTags-image store.geometry disk.sectors (given store start) (given_tags store start) sector x is.geometry whole marked.tags same)

pub put_law : PutLaw
put_law store disk moments start block tag sector x is whole low size of =
    let tags = with_block_tag block tag (given_tags store start) in
    ⊎_elim (λ out. IsOfTags-image store.geometry disk.sectors (given store start) tags sector x is.geometry whole out.marked.tags (marked_is_given store start sector x out.marked))
    (λ first. IsOfTags-put store.geometry disk.sectors (given store start) block tag sector x is.geometry whole low size
    (HoldsTag-first store.geometry disk.sectors block sector is.geometry low first.0) first.1) of

pub rest_law : RestLaw
rest_law store disk moments start block tag sector x at is whole low size of none =
    ⊎_elim (λ out. ap (λ (bytes : List ℕ). slice_index bytes at) (marked_is_given store start sector x out.marked))
    (λ first. ap (λ (bytes : List ℕ). slice_index bytes at) first.1
    ∙ with_tag-rest store.geometry disk.sectors block tag (given store start) is.geometry whole low size sector at none) of

-- ---- what reads give

pub reads_tags_law : ReadsTagsLaw
reads_tags_law store disk moments c d is whole read = record {
  each = λ b i low i_low.
      ap (λ (bytes : List ℕ). slice_index bytes (tag_byte_at store.geometry b i).byte) (read (tag_byte_at store.geometry b i).sector)
      ∙ sym (placed_tag-byte store.geometry disk.sectors is.geometry (given store c) whole b low (placed_cells_of store.geometry (given store c) b) i i_low);
}

pub direct_law : DirectLaw
direct_law store disk moments c sector is none = by_held (held_in store.sectors sector) refl
  where
    by_held : (o : Option Held) → held_in store.sectors sector ≡ o → held_or o (last_image c sector) ≡ last_image c sector
    by_held None e = refl
    by_held (Some held) e =
        let holds = is.tags_only sector held e in
        absurd (none holds.block holds.byte holds.block_low holds.byte_low holds.is)

-- A sector in which no byte of a tag stands has none of the block's.
pub others_law : OthersLaw
others_law g sectors block tag image sector geometry low size none = elim (cases_eq sector (tag_at g block).sector) [
  | inl same ↦ absurd (none_of (first_in_span (tag_at g block).sector (tag_at g block).byte g.shape.tag_size sector span.begins span.some same))
  | inr ne ↦ elim (cases_eq sector ((tag_at g block).sector + 1)) [
    | inr ne_next ↦ with_span-other (tag_at g block).sector (tag_at g block).byte tag image sector ne ne_next
    | inl next ↦ elim (cases_lt 512 ((tag_at g block).byte + g.shape.tag_size)) [
      | inl past ↦ absurd (none_of (next_in_span (tag_at g block).sector (tag_at g block).byte g.shape.tag_size sector span.begins span.short past next))
      | inr fits ↦
          ap (λ (rest : List ℕ). with_given_piece ((tag_at g block).sector + 1) 0 rest (with_given_piece (tag_at g block).sector (tag_at g block).byte (take (512 - (tag_at g block).byte) tag) image) sector)
          (drop_all (512 - (tag_at g block).byte) tag (omega arith))
          ∙ with_given_piece-none ((tag_at g block).sector + 1) (with_given_piece (tag_at g block).sector (tag_at g block).byte (take (512 - (tag_at g block).byte) tag) image) sector
          ∙ with_given_piece-other (tag_at g block).sector (tag_at g block).byte (take (512 - (tag_at g block).byte) tag) image sector ne
    ]
  ]
]
  where
    span : IsSpan (tag_at g block).sector (tag_at g block).byte g.shape.tag_size sectors
    span = tag-span g sectors block g.shape.tag_size geometry low refl

    none_of : IsInSpan (tag_at g block).sector (tag_at g block).byte g.shape.tag_size sector → ⊥
    none_of of = let holds = HoldsTag-span g block g.shape.tag_size sector low refl of in none holds.block holds.byte holds.block_low holds.byte_low holds.is

pub keeps_others_law : KeepsOthersLaw
keeps_others_law old new disk now before after c d is is_now same given_same = record {
  each = λ sector none.
      sym (direct_law new now after d sector is_now (subst (λ (g : Geometry). (b i : ℕ) → b < g.blocks → i < g.shape.tag_size → sector ≢ (tag_byte_at g b i).sector) (sym same) none))
      ∙ given_same sector none
      ∙ direct_law old disk before c sector is none;
}

pub fresh_law : FreshLaw
fresh_law g disk moments slots bound geometry =
    (record { bound = bound; geometry = geometry; cache = IsOfDisk-none disk moments slots; tags_only = λ sector held e. absurd (none-some held e) }, λ c. refl)

-- ---- other calls of the disk

pub elsewhere_law : ElsewhereLaw
elsewhere_law store disk before after is alike = record {
  bound = is.bound;
  geometry = is.geometry;
  cache = IsOfDisk-elsewhere disk store.sectors is.cache
      (λ d told.
      let start = alike d told in
      (start.0, start.1, λ sector held e. start.2 sector (is.tags_only sector held e)));
  tags_only = is.tags_only;
}

pub synced_law : SyncedLaw
synced_law store disk before after is synced =
    elsewhere_law store disk before after is
    (λ d told.
    let start = changed_now newest_only (content_now before) (content_now after) synced d told in
    (start.0, start.1, λ sector holds. ap (λ (c : Content). last_image c sector) start.2))

pub same_tags_law : SameTagsLaw
same_tags_law store disk moments c d is whole whole_now alike b low =
    tags_in-same store.geometry disk.sectors is.geometry (given store c) (given store d) whole whole_now
    (λ sector holds. ap (held_or (held_in store.sectors sector)) (alike sector holds)) b low

-- Blocks and tags lie where they lay, whatever the regions are.
holds_under : (g : Geometry) (log2_region sector : ℕ) → HoldsTag g sector → HoldsTag (record g { log2_region = log2_region }) sector
unfolding tag_byte_at tag_at tag_offset
holds_under g log2_region sector holds = record { block = holds.block; byte = holds.byte; block_low = holds.block_low; byte_low = holds.byte_low; is = holds.is }

pub other_regions_law : OtherRegionsLaw
unfolding placed_cells_of tag_at tag_offset
other_regions_law store disk moments log2_region is geometry = (
  record {
    bound = is.bound;
    geometry = geometry;
    cache = is.cache;
    tags_only = λ sector held there. holds_under store.geometry log2_region sector (is.tags_only sector held there);
  },
  λ c b. refl,
)
