-- The image of empty sections is that of an empty journal.
use Rattle.std.proofs.Common.{◌≡◌, inl, inr, ℕ, ◌+◌, ◌-◌, ◌*◌, ◌<◌, ◌≤◌, List, [], length, replicate, sym, ◌∙◌, ap, subst, arith, Option, None, filter_map}
use Rattle.std.proofs.Math.Nat.{mul-le-mul_right}
use Rattle.std.proofs.lemmas.Bool.{cases_lt}
use Rattle.commit_id.specs.declared.shape.Shape.{Shape}
use Rattle.commit_id.specs.Shape.{as_shape}
use Rattle.image_model.specs.Geometry.{Geometry, Shape as SectionShape, journal_sectors, section_at, section_entries, section_sectors}
use Rattle.image_model.specs.Section.{Entry, section_bytes}
use Rattle.image_model.proofs.SectorLemmas.{length-piece}
use Rattle.journal_model.specs.Batch.{AreSections, IsSection}
use Rattle.journal_model.specs.Erasing.{IsEmptyJournal}
use Rattle.journal_model.specs.JournaledDisk.{JournaledDisk}
use Rattle.journal_model.proofs.BatchLemmas.{has_sections, section_is}
use Rattle.journal_laws.proofs.StepLemmas.{sealed_law}
use Rattle.image_model.specs.Entries.{BearsNumber, HoldsEntries}
use Rattle.journal_ring.proofs.SectionsLemmas.{IsPutThere, used-cleared}
use Rattle.image_model.specs.EmptySections.{IsEmptySection, AreEmptySections, empty_image}

module _ (d : JournaledDisk) (number : ℕ) (bytes : List ℕ) (are : AreEmptySections d.geometry number bytes) where
  abbrev none : ℕ → List Entry
  none section = []

  abbrev width : ℕ
  width = section_sectors d.geometry.shape

  abbrev started : JournaledDisk
  started = record d { next = 0; number = number }

  empty_section : (k : ℕ) → k < d.geometry.sections → IsSection d.geometry.shape k number [] (section_bytes d.geometry.shape bytes k)
  empty_section k low =
      let is = are.each k low in
      let sealed = sealed_law d.geometry.shape k number (replicate (section_entries d.geometry.shape) None) (section_bytes d.geometry.shape bytes k) is.entries is.numbers in
      record {
        numbers = sealed.numbers;
        entries_are = sealed.entries_are
            ∙ sym (ap (filter_map (λ (x : Option Entry). x)) is.entries.entries_are)
            ∙ used-cleared d.geometry.shape (section_bytes d.geometry.shape bytes k) is.entries;
      }

  sections : AreSections d.geometry.shape 0 number d.geometry.sections none bytes
  sections = record {
    size = are.size;
    each = λ k low. subst (λ (i : ℕ). IsSection d.geometry.shape i number [] (section_bytes d.geometry.shape bytes k)) (let e : k ≡ 0 + k = omega arith in e) (empty_section k low);
  }

  pub empty_journal : IsEmptyJournal d.geometry number (empty_image d.geometry bytes)
  empty_journal = record {
    numbers = λ section low. (has_sections started d.geometry.sections none bytes sections).numbers section (omega arith) (omega (arith, low));
    unused = λ section low. section_is started d.geometry.sections none bytes sections section (omega arith) (omega (arith, low));
    whole = λ section sector low narrow.
        let next = mul-le-mul_right width (let le : section + 1 ≤ d.geometry.sections = omega (arith, low) in le) in
        let k : ℕ = section_at d.geometry section + sector - section_at d.geometry 0 in
        length-piece bytes (512 * k) 512 (omega (arith, are.size, next, narrow));
  }

-- ---- section after section

-- A section that was cleared is empty.
pub section_cleared : (shape : Shape) (own : SectionShape) (i number : ℕ) (bytes : List ℕ) → as_shape shape ≡ own → shape.entries ≡ section_entries (as_shape shape)
    → BearsNumber (as_shape shape) i number bytes → HoldsEntries (as_shape shape) (replicate shape.entries (let none : Option Entry = None in none)) bytes → IsEmptySection own i number bytes
section_cleared shape own i number bytes is count numbers entries =
    subst (λ (x : SectionShape). IsEmptySection x i number bytes) is (record {
      numbers = numbers;
      entries = subst (λ (n : ℕ). HoldsEntries (as_shape shape) (replicate n (let none : Option Entry = None in none)) bytes) count entries;
    })

-- One more section is empty.
pub sections_more : (g : Geometry) (i number : ℕ) (section bytes now : List ℕ) → length bytes ≡ 512 * journal_sectors g → i < g.sections → IsPutThere g.shape i section bytes now
    → IsEmptySection g.shape i number section → ((j : ℕ) → j < i → IsEmptySection g.shape j number (section_bytes g.shape bytes j))
    → (j : ℕ) → j < i + 1 → IsEmptySection g.shape j number (section_bytes g.shape now j)
sections_more g i number section bytes now size inside put is before j low = elim (cases_lt j i) [
  | inl under ↦
      let next = mul-le-mul_right (section_sectors g.shape) (let le : j + 1 ≤ g.sections = omega (arith, under, inside) in le) in
      subst (λ (xs : List ℕ). IsEmptySection g.shape j number xs)
      (sym (put.others.others j (λ same. omega (arith, same, under)) (omega (arith, size, next)))) (before j under)
  | inr from ↦
      let same : i ≡ j = omega (arith, from, low) in
      subst (λ (k : ℕ). IsEmptySection g.shape k number (section_bytes g.shape now k)) same
      (subst (λ (xs : List ℕ). IsEmptySection g.shape i number xs) (sym put.section) is)
]
