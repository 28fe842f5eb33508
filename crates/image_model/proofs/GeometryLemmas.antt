-- Lemmas on the words of specs/Geometry.antt.
use Rattle.std.proofs.Common.{◌≡◌, ◌≢◌, ◌⊎◌, inl, inr, ℕ, zero, suc, ◌+◌, ◌-◌, ◌*◌, ◌/◌, ◌%◌, ◌^◌, ◌<◌, ◌≤◌, refl, sym, ap, subst, ◌∙◌, arith}
use Rattle.std.proofs.lemmas.Bool.{cases_order}
use Rattle.std.proofs.lemmas.Nat.{row_fits, div-mul-add, mod-mul-add, div-add-mod', mod_below}
use Rattle.std.proofs.Math.Nat.{mul-div_cancel}
use Rattle.image_model.specs.Superblock.{Superblock}
use Rattle.image_model.specs.Geometry.{Geometry, IsGeometry, section_sectors, tag_run_of, layout_of, section_at, initial, area_at, sector_at, data_at, tag_offset, tag_at}

-- ---- where a block lies in its area

-- Sector j of a block, where an area has so many whole blocks.
sector_of_block : (b spb blocks j : ℕ) → 0 < blocks → j < spb → ((b * spb + j) / (blocks * spb) ≡ b / blocks) × ((b * spb + j) % (blocks * spb) ≡ b % blocks * spb + j)
sector_of_block b spb blocks j some inside =
    let low = mod_below b blocks some in
    let fits : b % blocks * spb + spb ≤ blocks * spb = row_fits (b % blocks) spb blocks spb low (omega arith) in
    let split : b * spb + j ≡ b / blocks * (blocks * spb) + (b % blocks * spb + j) =
    ap (λ n. n * spb + j) (sym (div-add-mod' b blocks)) ∙ omega arith in (
      ap (λ n. n / (blocks * spb)) split ∙ div-mul-add (b / blocks) (blocks * spb) (b % blocks * spb + j) (omega arith),
      ap (λ n. n % (blocks * spb)) split ∙ mod-mul-add (b / blocks) (blocks * spb) (b % blocks * spb + j) (omega arith),
    )

-- Where sector j of a block lies, if an area has so many whole blocks.
sector_at-is : (g : Geometry) (b blocks j : ℕ) → 0 < blocks → g.interleave ≡ blocks * g.shape.spb → j < g.shape.spb → sector_at g (b * g.shape.spb + j) ≡ area_at g (b / blocks) + g.tag_run + (b % blocks * g.shape.spb + j)
unfolding sector_at
sector_at-is g b blocks j some whole inside =
    let at = sector_of_block b g.shape.spb blocks j some inside in
    let area_is : (b * g.shape.spb + j) / g.interleave ≡ b / blocks = ap (λ n. (b * g.shape.spb + j) / n) whole ∙ at.0 in
    let offset_is : (b * g.shape.spb + j) % g.interleave ≡ b % blocks * g.shape.spb + j = ap (λ n. (b * g.shape.spb + j) % n) whole ∙ at.1 in
    rw (area_is, offset_is) refl

data_at-is : (g : Geometry) (b blocks : ℕ) → 0 < blocks → g.interleave ≡ blocks * g.shape.spb → 0 < g.shape.spb → data_at g b ≡ area_at g (b / blocks) + g.tag_run + b % blocks * g.shape.spb
unfolding data_at
data_at-is g b blocks some whole positive =
    let here : b * g.shape.spb ≡ b * g.shape.spb + 0 = omega arith in
    ap (sector_at g) here ∙ sector_at-is g b blocks 0 some whole positive ∙ omega arith

-- Sector j of a block lies j sectors behind the block's first.
pub sector_at-block : (g : Geometry) (b blocks j : ℕ) → 0 < blocks → g.interleave ≡ blocks * g.shape.spb → j < g.shape.spb → sector_at g (b * g.shape.spb + j) ≡ data_at g b + j
sector_at-block g b blocks j some whole inside =
    omega (arith, sector_at-is g b blocks j some whole inside, data_at-is g b blocks some whole (omega arith))

tag_at-is : (g : Geometry) (b blocks : ℕ) → 0 < blocks → g.interleave ≡ blocks * g.shape.spb → 0 < g.shape.spb → 512 * (tag_at g b).sector + (tag_at g b).byte ≡ 512 * area_at g (b / blocks) + b % blocks * g.shape.tag_size
unfolding tag_at tag_offset
tag_at-is g b blocks some whole positive =
    let at = sector_of_block b g.shape.spb blocks 0 some positive in
    let here : b * g.shape.spb ≡ b * g.shape.spb + 0 = omega arith in
    let area_is : b * g.shape.spb / g.interleave ≡ b / blocks = ap (λ n. n / g.interleave) here ∙ ap (λ n. (b * g.shape.spb + 0) / n) whole ∙ at.0 in
    let offset_is : b * g.shape.spb % g.interleave ≡ b % blocks * g.shape.spb = ap (λ n. n % g.interleave) here ∙ ap (λ n. (b * g.shape.spb + 0) % n) whole ∙ at.1 ∙ omega arith in
    let place_is : b * g.shape.spb % g.interleave / g.shape.spb ≡ b % blocks = ap (λ n. n / g.shape.spb) offset_is ∙ mul-div_cancel (b % blocks) positive in
    rw (area_is, place_is) (omega arith)

-- Where a block lies: the area, its place among the area's blocks, and what follows for its data and its tag.
pub record IsPlaced (g : Geometry) (b : ℕ) : Type 0 where
  pub area : ℕ
  pub place : ℕ
  pub block_is : b ≡ area * (g.interleave / g.shape.spb) + place
  pub place_low : place < g.interleave / g.shape.spb
  pub data_is : data_at g b ≡ area_at g area + g.tag_run + place * g.shape.spb
  pub data_ends : place * g.shape.spb + g.shape.spb ≤ g.interleave
  pub tag_is : 512 * (tag_at g b).sector + (tag_at g b).byte ≡ 512 * area_at g area + place * g.shape.tag_size
  pub tag_ends : place * g.shape.tag_size + g.shape.tag_size ≤ 512 * g.tag_run

-- An area has a block.
pub area_blocks_some : (blocks spb interleave : ℕ) → interleave ≡ blocks * spb → 8 ≤ interleave → 0 < blocks
area_blocks_some zero spb interleave is some = absurd (omega arith)
area_blocks_some (suc blocks) spb interleave is some = omega arith

pub placed : (g : Geometry) (sectors b : ℕ) → IsGeometry g sectors → IsPlaced g b
placed g sectors b h =
    let blocks = g.interleave / g.shape.spb in
    let some = area_blocks_some blocks g.shape.spb g.interleave h.whole_blocks h.interleave in
    let low = mod_below b blocks some in
    let whole = h.whole_blocks in
    let tags = h.tags in
    let data_fits : b % blocks * g.shape.spb + g.shape.spb ≤ blocks * g.shape.spb = row_fits (b % blocks) g.shape.spb blocks g.shape.spb low (omega arith) in
    let tag_fits : b % blocks * g.shape.tag_size + g.shape.tag_size ≤ blocks * g.shape.tag_size = row_fits (b % blocks) g.shape.tag_size blocks g.shape.tag_size low (omega arith) in
    record {
      area = b / blocks;
      place = b % blocks;
      block_is = sym (div-add-mod' b blocks);
      place_low = low;
      data_is = data_at-is g b blocks some whole h.spb.0;
      data_ends = omega arith;
      tag_is = tag_at-is g b blocks some whole h.spb.0;
      tag_ends = omega arith;
    }

-- Of two places in rows of the same length the later one lies in a later row, or further on in the same.
in_order : (n a r c s : ℕ) → r < n → s < n → a * n + r < c * n + s → (a < c) ⊎ ((a ≡ c) × (r < s))
in_order n a r c s r_low s_low before =
    elim (cases_order a c) [
      | inl same ↦ let rows : a * n ≡ c * n = ap (λ k. k * n) same in inr (same, omega arith)
      | inr (inl less) ↦ inl less
      | inr (inr more) ↦ let rows : c * n + n ≤ a * n = row_fits c n a n more (omega arith) in absurd (omega arith)
    ]

-- An area ends before a later one begins.
pub area_at-lt : (g : Geometry) (a c : ℕ) → a < c → area_at g a + g.tag_run + g.interleave ≤ area_at g c
area_at-lt g a c less = let rows : a * (g.tag_run + g.interleave) + (g.tag_run + g.interleave) ≤ c * (g.tag_run + g.interleave) = row_fits a (g.tag_run + g.interleave) c (g.tag_run + g.interleave) less (omega arith) in omega arith

-- The data of a block end before those of a later one begin.
pub data_in_order : (g : Geometry) (b c : ℕ) → IsPlaced g b → IsPlaced g c → b < c → data_at g b + g.shape.spb ≤ data_at g c
data_in_order g b c p q before =
    elim (in_order (g.interleave / g.shape.spb) p.area p.place q.area q.place p.place_low q.place_low (omega arith)) [
      | inl less ↦ let apart = area_at-lt g p.area q.area less in omega arith
      | inr same ↦
          let begins : area_at g p.area ≡ area_at g q.area = ap (area_at g) same.0 in
          let rows : p.place * g.shape.spb + g.shape.spb ≤ q.place * g.shape.spb = row_fits p.place g.shape.spb q.place g.shape.spb same.1 (omega arith) in
          omega arith
    ]

-- The tag of a block ends before that of a later one begins.
pub tags_in_order : (g : Geometry) (b c : ℕ) → IsPlaced g b → IsPlaced g c → b < c → 512 * (tag_at g b).sector + (tag_at g b).byte + g.shape.tag_size ≤ 512 * (tag_at g c).sector + (tag_at g c).byte
tags_in_order g b c p q before =
    elim (in_order (g.interleave / g.shape.spb) p.area p.place q.area q.place p.place_low q.place_low (omega arith)) [
      | inl less ↦ let apart = area_at-lt g p.area q.area less in omega arith
      | inr same ↦
          let begins : area_at g p.area ≡ area_at g q.area = ap (area_at g) same.0 in
          let rows : p.place * g.shape.tag_size + g.shape.tag_size ≤ q.place * g.shape.tag_size = row_fits p.place g.shape.tag_size q.place g.shape.tag_size same.1 (omega arith) in
          omega arith
    ]

-- A tag and the data of a block lie apart, whichever blocks they are of.
pub tag_and_data : (g : Geometry) (b c : ℕ) → IsPlaced g b → IsPlaced g c →
    (512 * (tag_at g b).sector + (tag_at g b).byte + g.shape.tag_size ≤ 512 * data_at g c) ⊎ (512 * data_at g c + 512 * g.shape.spb ≤ 512 * (tag_at g b).sector + (tag_at g b).byte)
tag_and_data g b c p q =
    elim (cases_order p.area q.area) [
      | inl same ↦ let begins : area_at g p.area ≡ area_at g q.area = ap (area_at g) same in inl (omega arith)
      | inr (inl less) ↦ let apart = area_at-lt g p.area q.area less in inl (omega arith)
      | inr (inr more) ↦ let apart = area_at-lt g q.area p.area more in inr (omega arith)
    ]

-- ---- for callers

-- A section of the journal ends before the next one, and before the first area.
pub section_at-lt : (g : Geometry) (i k : ℕ) → i < k → section_at g i + section_sectors g.shape ≤ section_at g k
section_at-lt g i k less = let rows : i * section_sectors g.shape + section_sectors g.shape ≤ k * section_sectors g.shape = row_fits i (section_sectors g.shape) k (section_sectors g.shape) less (omega arith) in omega arith

-- The data of a block begin behind the journal, and end on the disk.
pub data_at-inside : (g : Geometry) (sectors b : ℕ) → IsGeometry g sectors → b < g.blocks → (initial g ≤ data_at g b) × (data_at g b + g.shape.spb ≤ sectors)
data_at-inside g sectors b h inside =
    let p = placed g sectors b h in
    let begins = p.data_is in
    let last = h.last in (
      omega arith,
      elim (cases_order b (g.blocks - 1)) [
        | inl same ↦ subst (λ n. data_at g n + g.shape.spb ≤ sectors) (sym same) last
        | inr (inl before) ↦ let less = data_in_order g b (g.blocks - 1) p (placed g sectors (g.blocks - 1) h) before in omega arith
        | inr (inr behind) ↦ absurd (omega arith)
      ],
    )

-- The byte where a tag begins is one of its sector.
tag_at-byte : (g : Geometry) (b : ℕ) → (tag_at g b).byte < 512
unfolding tag_at tag_offset
tag_at-byte g b = mod_below (b * g.shape.spb % g.interleave / g.shape.spb * g.shape.tag_size) 512 (omega arith)

-- The tag of a block begins behind the journal, and ends on the disk, where the data of its area begin or before.
pub tag_at-inside : (g : Geometry) (sectors b : ℕ) → IsGeometry g sectors → b < g.blocks → (initial g ≤ (tag_at g b).sector) × (512 * (tag_at g b).sector + (tag_at g b).byte + g.shape.tag_size ≤ 512 * data_at g b) × ((tag_at g b).byte < 512)
tag_at-inside g sectors b h inside =
    let p = placed g sectors b h in
    let low = tag_at-byte g b in
    let begins = p.tag_is in
    let ends = p.tag_ends in
    let after = p.data_is in
    (omega arith, omega arith, low)

-- A sector with a byte of a tag holds no data.
pub tag_sector-no_data : (g : Geometry) (sectors b c sector k : ℕ) → IsGeometry g sectors → 512 * (tag_at g b).sector + (tag_at g b).byte < 512 * (sector + 1) → 512 * sector < 512 * (tag_at g b).sector + (tag_at g b).byte + g.shape.tag_size → k < g.shape.spb → sector ≢ data_at g c + k
tag_sector-no_data g sectors b c sector k h begins ends inside same =
    elim (tag_and_data g b c (placed g sectors b h) (placed g sectors c h)) [ inl before ↦ omega arith | inr behind ↦ omega arith ]

-- A geometry on a disk is one on each larger disk.
pub IsGeometry-larger : (g : Geometry) (sectors larger : ℕ) → IsGeometry g sectors → sectors ≤ larger → larger ≤ 2 ^ 48 → IsGeometry g larger
IsGeometry-larger g sectors larger h more most =
    let last = h.last in
    record {
      spb = h.spb;
      tag_size = h.tag_size;
      sections = h.sections;
      whole_blocks = h.whole_blocks;
      interleave = h.interleave;
      tags = h.tags;
      blocks = h.blocks;
      last = omega arith;
      device = most;
      journal = h.journal;
    }

-- How many sectors are provided changes no place.
pub sector_at-provided : (s : Superblock) (provided x : ℕ) → sector_at (layout_of (record s { provided = provided })) x ≡ sector_at (layout_of s) x
unfolding sector_at tag_run_of
sector_at-provided s provided x = refl

pub data_at-provided : (s : Superblock) (provided b : ℕ) → data_at (layout_of (record s { provided = provided })) b ≡ data_at (layout_of s) b
unfolding data_at sector_at tag_run_of
data_at-provided s provided b = refl

pub tag_at-provided : (s : Superblock) (provided b : ℕ) → tag_at (layout_of (record s { provided = provided })) b ≡ tag_at (layout_of s) b
unfolding tag_at tag_offset tag_run_of
tag_at-provided s provided b = refl
