-- A tag that is put, byte by byte.
use Rattle.std.proofs.Common.{◌≡◌, ◌≢◌, inl, inr, ℕ, ◌+◌, ◌-◌, ◌/◌, ◌%◌, ◌<◌, ◌≤◌, min, Bool, ◌==◌, if◌then◌else◌, List, [], ◌++◌, length, take, drop, get_or, slice_index, refl, sym, ◌∙◌, ap, subst, arith, length-append, length-take, length-drop}
use Rattle.std.proofs.lemmas.Bool.{cases_Bool, cases_eq, cases_lt, cases_order, eq-eqb, ne_eqb}
use Rattle.std.proofs.lemmas.List.{get_or_append_left, get_or-append_right, get_or-take, get_or-drop}
use Rattle.disk_model.specs.Disk.{Image}
use Rattle.image_model.specs.Cells.{Cell, placed_cells_of}
use Rattle.image_model.specs.Geometry.{Geometry, IsGeometry, tag_at, byte_place}
use Rattle.image_model.proofs.GeometryLemmas.{placed, tags_in_order, tag_at-inside, data_at-inside}
use Rattle.place_model.specs.Tags.{tag_byte_at, with_block_tag}
use Rattle.place_model.proofs.PlacedLemmas.{placed_tag, placed_tag-byte, placed_tag-length}
use Rattle.buffer_cache.specs.Cached.{with_given_piece}
use Rattle.buffer_cache.specs.HeldSectors.{with_piece}
use Rattle.tag_store.specs.Spans.{with_span}
use Rattle.tag_store.specs.Store.{tags_in, with_tag}
use Rattle.tag_store.specs.StoreLaws.{AreWhole, IsNoByteOf, PutBytesLaw, PutTagsLaw, PutWholeLaw}
use Rattle.tag_store.proofs.SpansLemmas.{with_given_piece-other, with_span-first}

-- ---- the bytes of a sector with a piece changed

pub length-with_piece : (from : ℕ) (piece bytes : List ℕ) → from + length piece ≤ length bytes → length (with_piece from piece bytes) ≡ length bytes
length-with_piece from piece bytes fits = simp (length-append, length-take, length-drop) (omega arith)

with_piece-below : (from : ℕ) (piece bytes : List ℕ) (n : ℕ) → from ≤ length bytes → n < from → get_or (with_piece from piece bytes) n 0 ≡ get_or bytes n 0
with_piece-below from piece bytes n fits below =
    let size : length (take from bytes) ≡ from = simp length-take (omega arith) in
    get_or_append_left (take from bytes ++ piece) (drop (from + length piece) bytes) 0 n (omega (arith, size, length-append (take from bytes) piece))
    ∙ get_or_append_left (take from bytes) piece 0 n (omega (arith, size))
    ∙ get_or-take from bytes n 0 below

with_piece-in : (from : ℕ) (piece bytes : List ℕ) (n i : ℕ) → from ≤ length bytes → i < length piece → n ≡ from + i → get_or (with_piece from piece bytes) n 0 ≡ get_or piece i 0
with_piece-in from piece bytes n i fits inside is =
    let size : length (take from bytes) ≡ from = simp length-take (omega arith) in
    let same : n - from ≡ i = omega arith in
    get_or_append_left (take from bytes ++ piece) (drop (from + length piece) bytes) 0 n (omega (arith, size, length-append (take from bytes) piece))
    ∙ get_or-append_right (take from bytes) piece from n 0 size (omega arith)
    ∙ ap (λ (k : ℕ). get_or piece k 0) same

with_piece-above : (from : ℕ) (piece bytes : List ℕ) (n : ℕ) → from + length piece ≤ length bytes → from + length piece ≤ n → get_or (with_piece from piece bytes) n 0 ≡ get_or bytes n 0
with_piece-above from piece bytes n fits above =
    let size : length (take from bytes ++ piece) ≡ from + length piece = simp (length-append, length-take) (omega arith) in
    let same : from + length piece + (n - (from + length piece)) ≡ n = omega arith in
    get_or-append_right (take from bytes ++ piece) (drop (from + length piece) bytes) (from + length piece) n 0 size above
    ∙ get_or-drop (from + length piece) bytes (n - (from + length piece)) 0
    ∙ ap (λ (k : ℕ). get_or bytes k 0) same

-- ---- the sectors of a span

with_given_piece-here : (at from : ℕ) (piece : List ℕ) (image : Image) → with_given_piece at from piece image at ≡ with_piece from piece (image at)
with_given_piece-here at from piece image = ap (λ (t : Bool). if t then with_piece from piece (image at) else image at) (eq-eqb at at refl)

module _ (at from : ℕ) (bytes : List ℕ) (image : Image) where
  with_span-at : with_span at from bytes image at ≡ with_piece from (take (512 - from) bytes) (image at)
  with_span-at = with_span-first at from bytes image at refl ∙ with_given_piece-here at from (take (512 - from) bytes) image

  with_span-next : with_span at from bytes image (at + 1) ≡ with_piece 0 (drop (512 - from) bytes) (image (at + 1))
  with_span-next =
      with_given_piece-here (at + 1) 0 (drop (512 - from) bytes) (with_given_piece at from (take (512 - from) bytes) image)
      ∙ ap (with_piece 0 (drop (512 - from) bytes)) (with_given_piece-other at from (take (512 - from) bytes) image (at + 1) (λ same. omega arith))

  pub with_span-other : (sector : ℕ) → sector ≢ at → sector ≢ at + 1 → with_span at from bytes image sector ≡ image sector
  with_span-other sector ne ne_next =
      with_given_piece-other (at + 1) 0 (drop (512 - from) bytes) (with_given_piece at from (take (512 - from) bytes) image) sector ne_next
      ∙ with_given_piece-other at from (take (512 - from) bytes) image sector ne

  module _ (begins : from < 512) (short : length bytes ≤ 512) (whole : length (image at) ≡ 512) (whole_next : 512 < from + length bytes → length (image (at + 1)) ≡ 512) where
    first_size : length (take (512 - from) bytes) ≤ 512 - from
    first_size = simp length-take (omega arith)

    rest_size : length (drop (512 - from) bytes) ≡ length bytes - (512 - from)
    rest_size = length-drop (512 - from) bytes

    rest_fits : 0 + length (drop (512 - from) bytes) ≤ length (image (at + 1))
    rest_fits = elim (cases_lt 512 (from + length bytes)) [ inl past ↦ let next = whole_next past in omega (arith, rest_size) | inr fits ↦ omega (arith, rest_size) ]

    pub length-with_span : (sector : ℕ) → length (with_span at from bytes image sector) ≡ length (image sector)
    length-with_span sector = elim (cases_eq sector at) [
      | inl same ↦ subst (λ (s : ℕ). length (with_span at from bytes image s) ≡ length (image s)) (sym same)
          (ap (λ (xs : List ℕ). length xs) with_span-at ∙ length-with_piece from (take (512 - from) bytes) (image at) (omega (arith, first_size, whole)))
      | inr ne ↦ elim (cases_eq sector (at + 1)) [
        | inl same ↦ subst (λ (s : ℕ). length (with_span at from bytes image s) ≡ length (image s)) (sym same)
            (ap (λ (xs : List ℕ). length xs) with_span-next ∙ length-with_piece 0 (drop (512 - from) bytes) (image (at + 1)) rest_fits)
        | inr ne_next ↦ ap (λ (xs : List ℕ). length xs) (with_span-other sector ne ne_next)
      ]
    ]

    -- Byte i of the span is that of the bytes,
    pub with_span-byte : (i : ℕ) → i < length bytes → get_or (with_span at from bytes image (at + (from + i) / 512)) ((from + i) % 512) 0 ≡ get_or bytes i 0
    with_span-byte i low = elim (cases_lt (from + i) 512) [
      | inl first ↦
          let sector : at + (from + i) / 512 ≡ at = omega arith in
          let size : i < length (take (512 - from) bytes) = simp length-take (omega arith) in
          ap (λ (s : ℕ). get_or (with_span at from bytes image s) ((from + i) % 512) 0) sector
          ∙ ap (λ (xs : List ℕ). get_or xs ((from + i) % 512) 0) with_span-at
          ∙ with_piece-in from (take (512 - from) bytes) (image at) ((from + i) % 512) i (omega (arith, whole)) size (omega arith)
          ∙ get_or-take (512 - from) bytes i 0 (omega arith)
      | inr second ↦
          let sector : at + (from + i) / 512 ≡ at + 1 = omega arith in
          let place : 512 - from + (from + i - 512) ≡ i = omega arith in
          ap (λ (s : ℕ). get_or (with_span at from bytes image s) ((from + i) % 512) 0) sector
          ∙ ap (λ (xs : List ℕ). get_or xs ((from + i) % 512) 0) with_span-next
          ∙ with_piece-in 0 (drop (512 - from) bytes) (image (at + 1)) ((from + i) % 512) (from + i - 512) (omega arith) (omega (arith, rest_size)) (omega arith)
          ∙ get_or-drop (512 - from) bytes (from + i - 512) 0
          ∙ ap (λ (k : ℕ). get_or bytes k 0) place
    ]

    -- and any other byte is as before.
    pub with_span-rest : (sector n : ℕ) → ((i : ℕ) → i < length bytes → at + (from + i) / 512 ≡ sector → (from + i) % 512 ≡ n → ⊥) → get_or (with_span at from bytes image sector) n 0 ≡ get_or (image sector) n 0
    with_span-rest sector n none = elim (cases_eq sector at) [
      | inl same ↦ subst (λ (s : ℕ). get_or (with_span at from bytes image s) n 0 ≡ get_or (image s) n 0) (sym same)
          (ap (λ (xs : List ℕ). get_or xs n 0) with_span-at ∙ elim (cases_lt n from) [
            | inl below ↦ with_piece-below from (take (512 - from) bytes) (image at) n (omega (arith, whole)) below
            | inr not_below ↦ elim (cases_lt n (from + length (take (512 - from) bytes))) [
              | inl inside ↦
                  let size : n < from + min (512 - from) (length bytes) = simp length-take at inside in
                  absurd (none (n - from) (omega arith) (omega arith) (omega arith))
              | inr above ↦ with_piece-above from (take (512 - from) bytes) (image at) n (omega (arith, first_size, whole)) above
            ]
          ])
      | inr ne ↦ elim (cases_eq sector (at + 1)) [
        | inl same ↦ subst (λ (s : ℕ). get_or (with_span at from bytes image s) n 0 ≡ get_or (image s) n 0) (sym same)
            (ap (λ (xs : List ℕ). get_or xs n 0) with_span-next ∙ elim (cases_lt n (length (drop (512 - from) bytes))) [
              | inl inside ↦ absurd (none (512 - from + n) (omega (arith, rest_size)) (omega (arith, rest_size)) (omega (arith, rest_size)))
              | inr above ↦ with_piece-above 0 (drop (512 - from) bytes) (image (at + 1)) n rest_fits (omega (arith, above))
            ])
        | inr ne_next ↦ ap (λ (xs : List ℕ). get_or xs n 0) (with_span-other sector ne ne_next)
      ]
    ]

-- ---- the tags of an image

-- The bytes of tags of two blocks lie apart.
tag_bytes-apart : (g : Geometry) (sectors b c i j : ℕ) → IsGeometry g sectors → b ≢ c → i < g.shape.tag_size → j < g.shape.tag_size
    → (tag_at g c).sector + ((tag_at g c).byte + j) / 512 ≡ (tag_at g b).sector + ((tag_at g b).byte + i) / 512 → ((tag_at g c).byte + j) % 512 ≡ ((tag_at g b).byte + i) % 512 → ⊥
tag_bytes-apart g sectors b c i j geometry other i_low j_low sector place = elim (cases_order b c) [
  | inl same ↦ other same
  | inr (inl less) ↦ let before = tags_in_order g b c (placed g sectors b geometry) (placed g sectors c geometry) less in omega arith
  | inr (inr more) ↦ let before = tags_in_order g c b (placed g sectors c geometry) (placed g sectors b geometry) more in omega arith
]

module _ (g : Geometry) (sectors block : ℕ) (tag : List ℕ) (image : Image) (geometry : IsGeometry g sectors) (whole : AreWhole sectors image) (low : block < g.blocks) (size : length tag ≡ g.shape.tag_size) where
  begins : (tag_at g block).byte < 512
  begins = (tag_at-inside g sectors block geometry low).2

  short : length tag ≤ 512
  short = let most = geometry.tag_size.1 in omega arith

  first_whole : length (image (tag_at g block).sector) ≡ 512
  first_whole =
      let tag_ = tag_at-inside g sectors block geometry low in
      let data_ = data_at-inside g sectors block geometry low in
      whole (tag_at g block).sector (let some = geometry.tag_size.0 in omega arith)

  next_whole : 512 < (tag_at g block).byte + length tag → length (image ((tag_at g block).sector + 1)) ≡ 512
  next_whole past =
      let tag_ = tag_at-inside g sectors block geometry low in
      let data_ = data_at-inside g sectors block geometry low in
      whole ((tag_at g block).sector + 1) (omega arith)

  pub with_tag-length : (sector : ℕ) → length (with_tag g block tag image sector) ≡ length (image sector)
  with_tag-length sector = length-with_span (tag_at g block).sector (tag_at g block).byte tag image begins short first_whole next_whole sector

  pub with_tag-whole : AreWhole sectors (with_tag g block tag image)
  with_tag-whole sector inside = with_tag-length sector ∙ whole sector inside

  pub with_tag-rest : (sector at : ℕ) → IsNoByteOf g block sector at → slice_index (with_tag g block tag image sector) at ≡ slice_index (image sector) at
  unfolding tag_byte_at
  with_tag-rest sector at none =
      with_span-rest (tag_at g block).sector (tag_at g block).byte tag image begins short first_whole next_whole sector at
      (λ i i_low same place. none i (omega arith) (same_pair same place))
    where
      same_pair : {a b x y : ℕ} → a ≡ b → x ≡ y → byte_place a x ≡ byte_place b y
      same_pair e f i = record { sector = e i; byte = f i }

  tag_byte : (i : ℕ) → i < g.shape.tag_size → slice_index (with_tag g block tag image (tag_byte_at g block i).sector) (tag_byte_at g block i).byte ≡ slice_index tag i
  unfolding tag_byte_at
  tag_byte i i_low = with_span-byte (tag_at g block).sector (tag_at g block).byte tag image begins short first_whole next_whole i (omega arith)

  other_byte : (b i : ℕ) → b ≢ block → i < g.shape.tag_size → slice_index (with_tag g block tag image (tag_byte_at g b i).sector) (tag_byte_at g b i).byte ≡ slice_index (image (tag_byte_at g b i).sector) (tag_byte_at g b i).byte
  unfolding tag_byte_at
  other_byte b i other i_low =
      with_span-rest (tag_at g block).sector (tag_at g block).byte tag image begins short first_whole next_whole ((tag_at g b).sector + ((tag_at g b).byte + i) / 512) (((tag_at g b).byte + i) % 512)
      (λ j j_low same place. tag_bytes-apart g sectors b block i j geometry other i_low (omega arith) same place)

  -- Each byte of a tag in the image with the tag put.
  pub with_tag-byte : (b i : ℕ) → b < g.blocks → i < g.shape.tag_size
      → slice_index (with_tag g block tag image (tag_byte_at g b i).sector) (tag_byte_at g b i).byte ≡ slice_index (with_block_tag block tag (tags_in g image) b) i
  with_tag-byte b i b_low i_low = elim (cases_eq b block) [
    | inl same ↦
        subst (λ (k : ℕ). slice_index (with_tag g block tag image (tag_byte_at g k i).sector) (tag_byte_at g k i).byte ≡ slice_index (with_block_tag block tag (tags_in g image) k) i) (sym same)
        (tag_byte i i_low ∙ sym (ap (λ (t : Bool). slice_index (if t then tag else tags_in g image block) i) (eq-eqb block block refl)))
    | inr other ↦
        other_byte b i other i_low
        ∙ sym (placed_tag-byte g sectors geometry image whole b b_low (placed_cells_of g image b) i i_low)
        ∙ sym (ap (λ (t : Bool). slice_index (if t then tag else tags_in g image b) i) (ne_eqb block b (λ same. other (sym same))))
  ]

  pub with_tag-tags : (b : ℕ) → b < g.blocks → tags_in g (with_tag g block tag image) b ≡ with_block_tag block tag (tags_in g image) b
  with_tag-tags b b_low =
      let cell : Cell = record { bytes = []; tag = with_block_tag block tag (tags_in g image) b } in
      placed_tag g sectors geometry (with_tag g block tag image) with_tag-whole b b_low cell (length-of_tags b b_low) (λ i i_low. with_tag-byte b i b_low i_low)
    where
      length-of_tags : (b : ℕ) → b < g.blocks → length (with_block_tag block tag (tags_in g image) b) ≡ g.shape.tag_size
      length-of_tags b b_low = elim (cases_Bool (block == b)) [
        | inl same ↦ ap (λ (t : Bool). length (if t then tag else tags_in g image b)) same ∙ size
        | inr other ↦ ap (λ (t : Bool). length (if t then tag else tags_in g image b)) other ∙ placed_tag-length g sectors geometry image whole b b_low (placed_cells_of g image b)
      ]

-- ---- for the laws

pub put_tags_law : PutTagsLaw
put_tags_law g sectors block tag image geometry whole low size b b_low = with_tag-tags g sectors block tag image geometry whole low size b b_low

pub put_bytes_law : PutBytesLaw
put_bytes_law g sectors block tag image sector at geometry whole low size none = with_tag-rest g sectors block tag image geometry whole low size sector at none

pub put_whole_law : PutWholeLaw
put_whole_law g sectors block tag image geometry whole low size = with_tag-whole g sectors block tag image geometry whole low size
