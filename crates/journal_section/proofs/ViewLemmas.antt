-- What the metadata sectors tell of an entry.
use Rattle.std.proofs.Common.{◌≡◌, ◌≢◌, ℕ, ◌+◌, ◌-◌, ◌*◌, ◌^◌, ◌<◌, List, take, get_or, Some, None, refl, sym, ap, ◌∙◌, arith}
use Rattle.std.specs.Option.{option_map}
use Rattle.image_model.specs.Geometry.{Shape, section_entries}
use Rattle.image_model.specs.Section.{entry_from}
use Rattle.image_model.specs.Sectors.{piece, number_in}
use Rattle.image_model.proofs.Bounds.{HasEntries}
use Rattle.image_model.proofs.SectionLemmas.{entry_at-used}
use Rattle.image_model.proofs.SectorLemmas.{number_in-take, piece-piece}
use Rattle.journal_section.specs.declared.entries.EntryView.{EntryView}
use Rattle.image_model.specs.Entries.{entries_of}
use Rattle.journal_section.specs.View.{view_of}
use Rattle.journal_section.proofs.EntriesLemmas.{entries_of-at, entry_at-unused_word, is_used-word}
use Rattle.journal_section.proofs.PlaceLemmas.{entry_in_meta}

-- There is none where the higher half of its sector's number is all ones,
pub view_of-none : (shape : Shape) (meta bytes : List ℕ) (n word : ℕ) → HasEntries shape → n < section_entries shape → take 4096 bytes ≡ meta
    → word ≡ number_in meta (entry_from shape n + 4) 4 → word ≡ 2 ^ 32 - 1
    → None ≡ option_map view_of (get_or (entries_of shape bytes) n None)
view_of-none shape meta bytes n word has low front is ones =
    let inside = entry_in_meta shape n has low in
    let least = has.entry_low in
    let same = sym (number_in-take bytes (entry_from shape n + 4) 4 4096 (omega arith)) ∙ ap (λ xs. number_in xs (entry_from shape n + 4) 4) front in
    ap (option_map view_of) (sym (entries_of-at shape bytes n None low ∙ entry_at-unused_word shape bytes n (same ∙ sym is ∙ ones)))

-- and elsewhere its sector and its tag are told.
pub view_of-some : (shape : Shape) (meta bytes tag : List ℕ) (n word sector : ℕ) → HasEntries shape → n < section_entries shape → take 4096 bytes ≡ meta
    → word ≡ number_in meta (entry_from shape n + 4) 4 → word ≢ 2 ^ 32 - 1
    → sector ≡ number_in meta (entry_from shape n) 8
    → tag ≡ piece meta (entry_from shape n + 8 + 8 * shape.spb) shape.tag_size
    → Some (let view : EntryView = record { sector = sector; tag = tag } in view)
    ≡ option_map view_of (get_or (entries_of shape bytes) n None)
view_of-some shape meta bytes tag n word sector has low front is some sector_is tag_is =
    let inside = entry_in_meta shape n has low in
    let least = has.entry_low in
    let from : ℕ = entry_from shape n in
    let tag_from : ℕ = from + 8 + 8 * shape.spb in
    let start : 0 + tag_from ≡ tag_from = omega arith in
    let word_same = sym (number_in-take bytes (from + 4) 4 4096 (omega arith)) ∙ ap (λ xs. number_in xs (from + 4) 4) front in
    let used = is_used-word shape bytes n (λ ones. some (is ∙ sym word_same ∙ ones)) in
    let number = sector_is ∙ ap (λ xs. number_in xs from 8) (sym front) ∙ number_in-take bytes from 8 4096 (omega arith) in
    let kept = tag_is ∙ ap (λ xs. piece xs tag_from shape.tag_size) (sym front)
    ∙ piece-piece bytes 0 4096 tag_from shape.tag_size (omega arith) ∙ ap (λ at. piece bytes at shape.tag_size) start in
    rw (number, kept, entries_of-at shape bytes n None low, entry_at-used shape bytes n used) refl
