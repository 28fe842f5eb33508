-- An entry by what is told of it.
use Rattle.std.proofs.Common.{◌≡◌, inl, inr, ℕ, ◌+◌, ◌*◌, ◌/◌, ◌<◌, ◌≤◌, refl, ap, sym, ◌∙◌, arith, Option, Some, None, List, get_or, length}
use Rattle.std.proofs.Math.Nat.{mul-le-mul_right}
use Rattle.std.proofs.lemmas.Bool.{cases_Bool}
use Rattle.std.specs.Option.{IfSome, option_map}
use Rattle.std.proofs.lemmas.Option.{none-some, same_Some}
use Rattle.image_model.specs.Geometry.{Shape, entries_per_sector, entry_size, section_entries, section_sectors}
use Rattle.image_model.specs.Section.{Entry, entry_at, entry_from, is_used}
use Rattle.image_model.proofs.Bounds.{HasEntries}
use Rattle.image_model.proofs.SectionLemmas.{entry_at-unused, entry_at-used}
use Rattle.image_model.proofs.SectorLemmas.{length-piece}
use Rattle.journal_section.specs.declared.entries.EntryView.{EntryView}
use Rattle.image_model.specs.Entries.{entries_of}
use Rattle.journal_section.specs.View.{view_of}
use Rattle.journal_section.proofs.EntriesLemmas.{entries_of-at}
use Rattle.journal_reading.specs.Entries.{entry_with}

-- It is the entry with these bytes,
pub entry_told : (o : Option Entry) (view : EntryView) (bytes : List ℕ) → Some view ≡ option_map view_of o → IfSome o (λ entry. bytes ≡ entry.bytes) → Some (entry_with bytes view) ≡ o
entry_told None view bytes told same = absurd (none-some view (sym told))
entry_told (Some entry) view bytes told same =
    ap (option_map (entry_with bytes)) told
    ∙ ap (λ (x : List ℕ). let entry : Entry = record { sector = entry.sector; bytes = x; tag = entry.tag } in Some entry) same

-- and where nothing is told there is none.
pub none_told : (o : Option Entry) → None ≡ option_map view_of o → None ≡ o
none_told None told = refl
none_told (Some entry) told = absurd (none-some (view_of entry) told)

-- The entry that a section has, by the bytes that are known as its own.
pub entry_there : (own shape : Shape) (section bytes : List ℕ) (n : ℕ) → n < section_entries own → own ≡ shape → section ≡ bytes → get_or (entries_of own section) n None ≡ entry_at shape bytes n
entry_there own shape section bytes n low same is =
    entries_of-at own section n None low
    ∙ ap (λ (s : Shape). entry_at s section n) same
    ∙ ap (λ (xs : List ℕ). entry_at shape xs n) is

-- An entry of a whole section has a whole tag.
pub entry_at-tag : (shape : Shape) (bytes : List ℕ) (n : ℕ) → HasEntries shape → n < section_entries shape → length bytes ≡ 512 * section_sectors shape
    → (entry : Entry) → Some entry ≡ entry_at shape bytes n → length entry.tag ≡ shape.tag_size
entry_at-tag shape bytes n has low size entry e = elim (cases_Bool (is_used shape bytes n)) [
  | inr unused ↦ absurd (none-some entry (sym (e ∙ entry_at-unused shape bytes n unused)))
  | inl used ↦
      let same = same_Some _ _ (e ∙ entry_at-used shape bytes n used) in
      let row : n / 8 + 1 ≤ entries_per_sector shape = let is = has.entries_is in omega arith in
      let most : (n / 8 + 1) * entry_size shape ≤ entries_per_sector shape * entry_size shape = mul-le-mul_right (entry_size shape) row in
      let fits = has.sector_holds in
      let room = has.entry_low in
      let high = has.sectors_low in
      ap (λ (x : Entry). length x.tag) same
      ∙ length-piece bytes (entry_from shape n + 8 + 8 * shape.spb) shape.tag_size (omega (arith, most, fits, room, high, size))
]
