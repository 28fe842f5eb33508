-- The parts of a disk lie apart.
use Rattle.std.proofs.Common.{◌≢◌, ◌⊎◌, inl, inr, ℕ, ◌*◌, ◌<◌, ◌≤◌, refl, ap, arith}
use Rattle.std.proofs.Math.Logic.{⊎_swap}
use Rattle.std.proofs.lemmas.Bool.{cases_order}
use Rattle.image_model.specs.Geometry.{IsGeometry, Geometry}
use Rattle.image_model.specs.GeometryLaws.{Part, Head, Section, TagOf, DataOf, IsPart, first_byte, end_byte, LiesApart}
use Rattle.image_model.proofs.GeometryLemmas.{placed, data_in_order, tags_in_order, tag_and_data, section_at-lt, data_at-inside, tag_at-inside}

abbrev IsApart : Geometry → Part → Part → Type 0
IsApart g p q = (end_byte g p ≤ first_byte g q) ⊎ (end_byte g q ≤ first_byte g p)

sections_apart : (g : Geometry) (i k : ℕ) → i ≢ k → IsApart g (Section i) (Section k)
sections_apart g i k other =
    elim (cases_order i k) [
      | inl same ↦ absurd (other same)
      | inr (inl less) ↦ let before = section_at-lt g i k less in inl (omega arith)
      | inr (inr more) ↦ let before = section_at-lt g k i more in inr (omega arith)
    ]

tags_apart : (g : Geometry) (sectors b c : ℕ) → IsGeometry g sectors → b ≢ c → IsApart g (TagOf b) (TagOf c)
tags_apart g sectors b c h other =
    elim (cases_order b c) [
      | inl same ↦ absurd (other same)
      | inr (inl less) ↦ inl (tags_in_order g b c (placed g sectors b h) (placed g sectors c h) less)
      | inr (inr more) ↦ inr (tags_in_order g c b (placed g sectors c h) (placed g sectors b h) more)
    ]

data_apart : (g : Geometry) (sectors b c : ℕ) → IsGeometry g sectors → b ≢ c → IsApart g (DataOf b) (DataOf c)
data_apart g sectors b c h other =
    elim (cases_order b c) [
      | inl same ↦ absurd (other same)
      | inr (inl less) ↦ let before = data_in_order g b c (placed g sectors b h) (placed g sectors c h) less in inl (omega arith)
      | inr (inr more) ↦ let before = data_in_order g c b (placed g sectors c h) (placed g sectors b h) more in inr (omega arith)
    ]

section_before_tag : (g : Geometry) (sectors i b : ℕ) → IsGeometry g sectors → i < g.sections → b < g.blocks → IsApart g (Section i) (TagOf b)
section_before_tag g sectors i b h is_section is_block =
    let before = section_at-lt g i g.sections is_section in
    let tag = tag_at-inside g sectors b h is_block in
    inl (omega arith)

section_before_data : (g : Geometry) (sectors i b : ℕ) → IsGeometry g sectors → i < g.sections → b < g.blocks → IsApart g (Section i) (DataOf b)
section_before_data g sectors i b h is_section is_block =
    let before = section_at-lt g i g.sections is_section in
    let inside = data_at-inside g sectors b h is_block in
    inl (omega arith)

head_before_tag : (g : Geometry) (sectors b : ℕ) → IsGeometry g sectors → b < g.blocks → IsApart g Head (TagOf b)
head_before_tag g sectors b h is_block = let tag = tag_at-inside g sectors b h is_block in inl (omega arith)

head_before_data : (g : Geometry) (sectors b : ℕ) → IsGeometry g sectors → b < g.blocks → IsApart g Head (DataOf b)
head_before_data g sectors b h is_block = let inside = data_at-inside g sectors b h is_block in inl (omega arith)

tag_then_data : (g : Geometry) (sectors b c : ℕ) → IsGeometry g sectors → IsApart g (TagOf b) (DataOf c)
tag_then_data g sectors b c h = tag_and_data g b c (placed g sectors b h) (placed g sectors c h)

-- Any two parts lie apart.
parts_apart : (g : Geometry) (sectors : ℕ) → IsGeometry g sectors → (p q : Part) → IsPart g p → IsPart g q → p ≢ q → IsApart g p q
parts_apart g sectors h Head Head is_p is_q other = absurd (other refl)
parts_apart g sectors h Head (Section k) is_p is_q other = inl (omega arith)
parts_apart g sectors h Head (TagOf c) is_p is_q other = head_before_tag g sectors c h is_q
parts_apart g sectors h Head (DataOf c) is_p is_q other = head_before_data g sectors c h is_q
parts_apart g sectors h (Section i) Head is_p is_q other = inr (omega arith)
parts_apart g sectors h (Section i) (Section k) is_p is_q other = sections_apart g i k (λ same. other (ap Section same))
parts_apart g sectors h (Section i) (TagOf c) is_p is_q other = section_before_tag g sectors i c h is_p is_q
parts_apart g sectors h (Section i) (DataOf c) is_p is_q other = section_before_data g sectors i c h is_p is_q
parts_apart g sectors h (TagOf b) Head is_p is_q other = ⊎_swap (head_before_tag g sectors b h is_p)
parts_apart g sectors h (TagOf b) (Section k) is_p is_q other = ⊎_swap (section_before_tag g sectors k b h is_q is_p)
parts_apart g sectors h (TagOf b) (TagOf c) is_p is_q other = tags_apart g sectors b c h (λ same. other (ap TagOf same))
parts_apart g sectors h (TagOf b) (DataOf c) is_p is_q other = tag_then_data g sectors b c h
parts_apart g sectors h (DataOf b) Head is_p is_q other = ⊎_swap (head_before_data g sectors b h is_p)
parts_apart g sectors h (DataOf b) (Section k) is_p is_q other = ⊎_swap (section_before_data g sectors k b h is_q is_p)
parts_apart g sectors h (DataOf b) (TagOf c) is_p is_q other = ⊎_swap (tag_then_data g sectors c b h)
parts_apart g sectors h (DataOf b) (DataOf c) is_p is_q other = data_apart g sectors b c h (λ same. other (ap DataOf same))

-- Each part is on the disk.
part_inside : (g : Geometry) (sectors : ℕ) → IsGeometry g sectors → (p : Part) → IsPart g p → end_byte g p ≤ 512 * sectors
part_inside g sectors h Head is_part = let inside = data_at-inside g sectors 0 h h.blocks in omega arith
part_inside g sectors h (Section i) is_part =
    let before = section_at-lt g i g.sections is_part in
    let inside = data_at-inside g sectors 0 h h.blocks in
    omega arith
part_inside g sectors h (TagOf b) is_part =
    let tag = tag_at-inside g sectors b h is_part in
    let inside = data_at-inside g sectors b h is_part in
    omega arith
part_inside g sectors h (DataOf b) is_part = let inside = data_at-inside g sectors b h is_part in omega arith

-- ---- for callers

-- The parts of a geometry lie apart, and on the disk.
pub lies_apart : (g : Geometry) (sectors : ℕ) → IsGeometry g sectors → LiesApart g sectors
lies_apart g sectors h = record { inside = part_inside g sectors h; apart = parts_apart g sectors h }
