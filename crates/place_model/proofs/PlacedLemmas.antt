-- The placed cells of an image, by the sectors that hold their parts.
use Rattle.std.proofs.Common.{◌≡◌, inl, inr, ℕ, suc, ◌+◌, ◌-◌, ◌*◌, ◌/◌, ◌%◌, ◌<◌, ◌≤◌, true, false, refl, sym, ◌∙◌, ap, arith, Option, None, List, ◌++◌, length, drop, slice_index, append-nil, length-append}
use Rattle.std.proofs.lemmas.Bool.{cases_Bool, cases_lt}
use Rattle.std.proofs.lemmas.Grind.{same_number_lists}
use Rattle.std.proofs.lemmas.List.{get_or-drop, get_or-take, get_or_append_left, get_or-append-add}
use Rattle.disk_model.specs.Disk.{Image, sector_in}
use Rattle.image_model.proofs.GeometryLemmas.{data_at-inside, tag_at-inside}
use Rattle.image_model.proofs.SectorLemmas.{length-piece, bytes_at_read, sector_in-bytes_at}
use Rattle.image_model.specs.Bitmap.{awaits}
use Rattle.image_model.specs.Cells.{Cell, salt_of, placed_cells_of, recalculated_cell, counted_entries, last_entry, block_tag, cells_of}
use Rattle.image_model.specs.Geometry.{Geometry, data_at, tag_at, IsGeometry}
use Rattle.image_model.specs.Sectors.{piece, bytes_at}
use Rattle.image_model.specs.Superblock.{Superblock}
use Rattle.place_model.specs.Tags.{tag_byte_at}

-- Cells with equal parts are equal.
pub same_cell : (a b : Cell) → a.bytes ≡ b.bytes → a.tag ≡ b.tag → a ≡ b
same_cell a b e f =
    ap (λ (x : List ℕ). let cell : Cell = record { bytes = x; tag = a.tag } in cell) e
    ∙ ap (λ (x : List ℕ). let cell : Cell = record { bytes = b.bytes; tag = x } in cell) f

-- ---- what is placed

pub placed_cells_of-bytes : (g : Geometry) (image : Image) (b : ℕ) → (placed_cells_of g image b).bytes ≡ bytes_at image (data_at g b) g.shape.spb
unfolding placed_cells_of
placed_cells_of-bytes g image b = refl

module _ (g : Geometry) (sectors : ℕ) (geometry : IsGeometry g sectors) (image : Image) (whole : (sector : ℕ) → sector < sectors → length (image sector) ≡ 512)
    (b : ℕ) (low : b < g.blocks) (cell : Cell) where
  -- The bytes are the cell's where each sector has its part of them,
  pub placed_bytes : length cell.bytes ≡ 512 * g.shape.spb → ((k : ℕ) → k < g.shape.spb → image (data_at g b + k) ≡ sector_in cell.bytes k) → (placed_cells_of g image b).bytes ≡ cell.bytes
  unfolding placed_cells_of
  placed_bytes size each = sym (bytes_at_read image (data_at g b) g.shape.spb cell.bytes size (λ k inside. sym (each k inside)))

  pub two_sectors : bytes_at image (tag_at g b).sector 2 ≡ image (tag_at g b).sector ++ image (suc (tag_at g b).sector)
  two_sectors = ap (λ (xs : List ℕ). image (tag_at g b).sector ++ xs) (append-nil (image (suc (tag_at g b).sector)))

  first_whole : length (image (tag_at g b).sector) ≡ 512
  first_whole =
      let tag = tag_at-inside g sectors b geometry low in
      let data_ = data_at-inside g sectors b geometry low in
      whole (tag_at g b).sector (let some = geometry.tag_size.0 in omega arith)

  pub long : (tag_at g b).byte + g.shape.tag_size ≤ length (image (tag_at g b).sector ++ image (suc (tag_at g b).sector))
  long = elim (cases_lt 512 ((tag_at g b).byte + g.shape.tag_size)) [
    | inr within ↦ omega (arith, first_whole, length-append (image (tag_at g b).sector) (image (suc (tag_at g b).sector)))
    | inl past ↦
        let tag = tag_at-inside g sectors b geometry low in
        let data_ = data_at-inside g sectors b geometry low in
        let second = whole (suc (tag_at g b).sector) (omega arith) in
        let small = geometry.tag_size.1 in
        omega (arith, first_whole, second, length-append (image (tag_at g b).sector) (image (suc (tag_at g b).sector)))
  ]

  -- Byte i of the tag is the one where the layout puts it.
  byte_is : (i : ℕ) → i < g.shape.tag_size → slice_index (image (tag_at g b).sector ++ image (suc (tag_at g b).sector)) ((tag_at g b).byte + i) ≡ slice_index (image (tag_byte_at g b i).sector) (tag_byte_at g b i).byte
  unfolding tag_byte_at
  byte_is i inside = elim (cases_lt ((tag_at g b).byte + i) 512) [
    | inl first ↦
        let here : (tag_at g b).sector + ((tag_at g b).byte + i) / 512 ≡ (tag_at g b).sector = omega arith in
        let at : ((tag_at g b).byte + i) % 512 ≡ (tag_at g b).byte + i = omega arith in
        rw (here, at) (get_or_append_left (image (tag_at g b).sector) (image (suc (tag_at g b).sector)) 0 ((tag_at g b).byte + i) (omega (arith, first_whole)))
    | inr second ↦
        let small = geometry.tag_size.1 in
        let tag = tag_at-inside g sectors b geometry low in
        let here : (tag_at g b).sector + ((tag_at g b).byte + i) / 512 ≡ suc (tag_at g b).sector = omega arith in
        let at : ((tag_at g b).byte + i) % 512 ≡ (tag_at g b).byte + i - 512 = omega arith in
        let sum : length (image (tag_at g b).sector) + ((tag_at g b).byte + i - 512) ≡ (tag_at g b).byte + i = omega (arith, first_whole) in
        rw (here, at) (
        ap (λ (n : ℕ). slice_index (image (tag_at g b).sector ++ image (suc (tag_at g b).sector)) n) (sym sum)
        ∙ get_or-append-add (image (tag_at g b).sector) (image (suc (tag_at g b).sector)) ((tag_at g b).byte + i - 512) 0)
  ]

  -- Each byte of the placed tag is the one where the layout puts it,
  pub placed_tag-byte : (i : ℕ) → i < g.shape.tag_size → slice_index (placed_cells_of g image b).tag i ≡ slice_index (image (tag_byte_at g b i).sector) (tag_byte_at g b i).byte
  unfolding placed_cells_of
  placed_tag-byte i inside =
      ap (λ (bytes : List ℕ). slice_index (piece bytes (tag_at g b).byte g.shape.tag_size) i) two_sectors
      ∙ get_or-take g.shape.tag_size (drop (tag_at g b).byte (image (tag_at g b).sector ++ image (suc (tag_at g b).sector))) i 0 inside
      ∙ get_or-drop (tag_at g b).byte (image (tag_at g b).sector ++ image (suc (tag_at g b).sector)) i 0
      ∙ byte_is i inside

  pub placed_tag-length : length (placed_cells_of g image b).tag ≡ g.shape.tag_size
  unfolding placed_cells_of
  placed_tag-length =
      ap (λ (bytes : List ℕ). length (piece bytes (tag_at g b).byte g.shape.tag_size)) two_sectors
      ∙ length-piece (image (tag_at g b).sector ++ image (suc (tag_at g b).sector)) (tag_at g b).byte g.shape.tag_size long

  -- and the tag is the cell's where each byte of it is.
  pub placed_tag : length cell.tag ≡ g.shape.tag_size → ((i : ℕ) → i < g.shape.tag_size → slice_index (image (tag_byte_at g b i).sector) (tag_byte_at g b i).byte ≡ slice_index cell.tag i) → (placed_cells_of g image b).tag ≡ cell.tag
  unfolding placed_cells_of
  placed_tag size each =
      ap (λ (bytes : List ℕ). piece bytes (tag_at g b).byte g.shape.tag_size) two_sectors ∙ tag_is
    where
      tag_is : piece (image (tag_at g b).sector ++ image (suc (tag_at g b).sector)) (tag_at g b).byte g.shape.tag_size ≡ cell.tag
      tag_is =
          let size_is = length-piece (image (tag_at g b).sector ++ image (suc (tag_at g b).sector)) (tag_at g b).byte g.shape.tag_size long in
          same_number_lists (piece (image (tag_at g b).sector ++ image (suc (tag_at g b).sector)) (tag_at g b).byte g.shape.tag_size) cell.tag (size_is ∙ sym size) (λ i inside.
          let inside_tag : i < g.shape.tag_size = omega (arith, size_is) in
          get_or-take g.shape.tag_size (drop (tag_at g b).byte (image (tag_at g b).sector ++ image (suc (tag_at g b).sector))) i 0 inside_tag
          ∙ get_or-drop (tag_at g b).byte (image (tag_at g b).sector ++ image (suc (tag_at g b).sector)) i 0
          ∙ byte_is i inside_tag ∙ each i inside_tag)

-- A sector of the placed bytes is the image's.
pub placed_sector : (g : Geometry) (sectors : ℕ) (image : Image) (b k : ℕ) → IsGeometry g sectors → ((sector : ℕ) → sector < sectors → length (image sector) ≡ 512) → b < g.blocks → k < g.shape.spb
    → sector_in (placed_cells_of g image b).bytes k ≡ image (data_at g b + k)
unfolding placed_cells_of
placed_sector g sectors image b k geometry whole low k_low =
    let inside = data_at-inside g sectors b geometry low in
    sector_in-bytes_at image (data_at g b) g.shape.spb k (λ sector above under. whole sector (omega arith)) k_low

-- What is placed, with the tag of its bytes where the block awaits it.
module _ (key : Option (List ℕ)) (s : Superblock) (g : Geometry) (image : Image) (b : ℕ) where
  pub recalculated-bytes : (recalculated_cell key s g image b).bytes ≡ (placed_cells_of g image b).bytes
  recalculated-bytes = elim (cases_Bool (awaits s g image b)) [ inl waits ↦ rw waits refl | inr rests ↦ rw rests refl ]

  pub recalculated-tag : awaits s g image b ≡ false → (recalculated_cell key s g image b).tag ≡ (placed_cells_of g image b).tag
  recalculated-tag rests = rw rests refl

  pub recalculated-computed : awaits s g image b ≡ true → (recalculated_cell key s g image b).tag ≡ block_tag key (salt_of s) g (b * g.shape.spb) (placed_cells_of g image b).bytes
  recalculated-computed waits = rw waits refl

  -- A block of which no entry counts has that cell.
  pub cells_of-none : last_entry g (counted_entries s g image) b ≡ None → cells_of key s g image b ≡ recalculated_cell key s g image b
  unfolding cells_of
  cells_of-none none = rw none refl
