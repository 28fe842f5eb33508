-- A section is told by its entries and its commit number: each byte of it follows from these.
use Rattle.std.proofs.Common.{◌≡◌, ◌⊎◌, inl, inr, ℕ, zero, suc, true, false, ◌+◌, ◌-◌, ◌*◌, ◌/◌, ◌%◌, ◌^◌, ◌<◌, ◌≤◌, ◌==◌, List, ◌++◌, length, get_or, slice_index, Option, Some, None, sym, ap, ◌∙◌, arith, length-append}
use Rattle.std.specs.List.{range_with_len, flat_map}
use Rattle.std.proofs.lemmas.Bool.{cases_Bool, cases_lt, eqb-true, not_from_false, true≢false}
use Rattle.std.proofs.lemmas.Grind.{same_number_lists}
use Rattle.std.proofs.lemmas.List.{get_or_append_left, get_or-append_right, get_or-take, get_or-drop}
use Rattle.image_model.specs.CommitId.{id_in}
use Rattle.image_model.specs.Geometry.{Shape, section_entries, section_sectors}
use Rattle.image_model.specs.Section.{Entry, entry_from, is_used, parts_of, block_in, entry_at}
use Rattle.image_model.specs.Sectors.{piece, number_in, bytes_of}
use Rattle.image_model.proofs.BelowLemmas.{all_or_some}
use Rattle.image_model.proofs.Bounds.{HasEntries}
use Rattle.image_model.proofs.CommitIdLemmas.{number_of_tells}
use Rattle.image_model.proofs.SectionLemmas.{entry_at-unused, entry_at-used}
use Rattle.image_model.proofs.SectorLemmas.{bytes_of-number_in, length-piece}
use Rattle.disk_model.specs.Disk.{sector_in}
use Rattle.image_model.specs.Entries.{BearsNumber, HoldsEntries, IsNamed, IsNamedBy}
use Rattle.journal_section.proofs.EntriesLemmas.{cases_within, entries_of-at, length-entries_of}
use Rattle.journal_section.proofs.PlaceLemmas.{entry_in_meta, parts_fit}
use Rattle.journal_section.proofs.SectorsLemmas.{id_in-sector_in}

-- ---- an entry that is there

-- An entry that is there is used, and one that is not is unused.
is_used-some : (shape : Shape) (bytes : List ℕ) (n : ℕ) (entry : Entry) → entry_at shape bytes n ≡ Some entry → is_used shape bytes n ≡ true
is_used-some shape bytes n entry is = elim (cases_Bool (is_used shape bytes n)) [
  | inl used ↦ used
  | inr unused ↦ let none = sym (entry_at-unused shape bytes n unused) ∙ is in absurd (cc)
]

is_used-none : (shape : Shape) (bytes : List ℕ) (n : ℕ) → entry_at shape bytes n ≡ None → is_used shape bytes n ≡ false
is_used-none shape bytes n is = elim (cases_Bool (is_used shape bytes n)) [
  | inl used ↦ let some = sym (entry_at-used shape bytes n used) ∙ is in absurd (cc)
  | inr unused ↦ unused
]

-- An unused one has all ones in the higher half of its sector's number.
unused_word : (shape : Shape) (bytes : List ℕ) (n : ℕ) → is_used shape bytes n ≡ false → number_in bytes (entry_from shape n + 4) 4 ≡ 2 ^ 32 - 1
unfolding is_used
unused_word shape bytes n unused =
    let word : ℕ = number_in bytes (entry_from shape n + 4) 4 in
    elim (cases_Bool (word == 2 ^ 32 - 1)) [
      | inl ones ↦ eqb-true word (2 ^ 32 - 1) ones
      | inr other ↦ absurd (true≢false (sym (not_from_false (word == 2 ^ 32 - 1) other) ∙ unused))
    ]

same_some : (x y : Entry) → (let a : Option Entry = Some x in a) ≡ Some y → x ≡ y
same_some x y e = cc

-- ---- bytes by their number, their piece and their block

-- A byte of a piece.
piece-at : (bytes : List ℕ) (from size k : ℕ) → k < size → slice_index (piece bytes from size) k ≡ slice_index bytes (from + k)
piece-at bytes from size k low = get_or-take size _ k 0 low ∙ get_or-drop from bytes k 0

-- Bytes with the same number are the same.
number_tells : (a b : List ℕ) (from size k : ℕ) → ((i : ℕ) → slice_index a i < 256) → ((i : ℕ) → slice_index b i < 256)
    → from + size ≤ length a → from + size ≤ length b → number_in a from size ≡ number_in b from size → k < size
    → slice_index a (from + k) ≡ slice_index b (from + k)
number_tells a b from size k low_a low_b fits_a fits_b same low =
    sym (piece-at a from size k low)
    ∙ ap (λ (xs : List ℕ). slice_index xs k) (sym (bytes_of-number_in a from size fits_a low_a) ∙ ap (λ n. bytes_of n size) same ∙ bytes_of-number_in b from size fits_b low_b)
    ∙ piece-at b from size k low

-- Joined pieces of 512 bytes have each piece in its place.
flat_map-at : (f : ℕ → List ℕ) (from count k r : ℕ) → ((m : ℕ) → from ≤ m → m < from + count → length (f m) ≡ 512) → k < count → r < 512
    → slice_index (flat_map f (range_with_len from count)) (512 * k + r) ≡ slice_index (f (from + k)) r
flat_map-at f from zero k r each low inside = absurd (omega arith)
flat_map-at f from (suc count) zero r each low inside =
    let first = each from (omega arith) (omega arith) in
    let place : 512 * 0 + r ≡ r = omega arith in
    let here : from + 0 ≡ from = omega arith in
    rw (place, here) (get_or_append_left (f from) (flat_map f (range_with_len (from + 1) count)) 0 r (omega arith))
flat_map-at f from (suc count) (suc k) r each low inside =
    let first = each from (omega arith) (omega arith) in
    let place : 512 * suc k + r - 512 ≡ 512 * k + r = omega arith in
    let here : from + 1 + k ≡ from + suc k = omega arith in
    get_or-append_right (f from) (flat_map f (range_with_len (from + 1) count)) 512 (512 * suc k + r) 0 first (omega arith)
    ∙ ap (λ at. slice_index (flat_map f (range_with_len (from + 1) count)) at) place
    ∙ flat_map-at f (from + 1) count k r (λ m least most. each m (omega arith) (omega arith)) (omega arith) inside
    ∙ ap (λ m. slice_index (f m) r) here

-- What sector k of an entry's block is joined from.
abbrev block_part : Shape → List ℕ → ℕ → ℕ → List ℕ
block_part shape bytes n k = piece (parts_of shape bytes n) (512 * k) 504 ++ piece bytes (entry_from shape n + 8 + 8 * k) 8

-- It has 512 bytes: 504 of a data sector,
block_part-sizes : (shape : Shape) (bytes : List ℕ) (n k : ℕ) → HasEntries shape → n < section_entries shape
    → length bytes ≡ 512 * section_sectors shape → k < shape.spb
    → (length (piece (parts_of shape bytes n) (512 * k) 504) ≡ 504) × (length (block_part shape bytes n k) ≡ 512)
block_part-sizes shape bytes n k has low size low_k =
    let inside = entry_in_meta shape n has low in
    let least = has.entry_low in
    let sectors = has.sectors_low in
    let fits = parts_fit shape n has low in
    let all = length-piece bytes (512 * (8 + n * shape.spb)) (512 * shape.spb) (omega arith) in
    let front = length-piece (parts_of shape bytes n) (512 * k) 504 (omega arith) in
    let last = length-piece bytes (entry_from shape n + 8 + 8 * k) 8 (omega arith) in
    (front, omega (arith, length-append (piece (parts_of shape bytes n) (512 * k) 504) (piece bytes (entry_from shape n + 8 + 8 * k) 8)))

block_in-at : (shape : Shape) (bytes : List ℕ) (n k r : ℕ) → HasEntries shape → n < section_entries shape
    → length bytes ≡ 512 * section_sectors shape → k < shape.spb → r < 512
    → slice_index (block_in shape bytes (parts_of shape bytes n) n) (512 * k + r) ≡ slice_index (block_part shape bytes n k) r
block_in-at shape bytes n k r has low size low_k low_r =
    let here : 0 + k ≡ k = omega arith in
    flat_map-at (block_part shape bytes n) 0 shape.spb k r (λ m least most. (block_part-sizes shape bytes n m has low size (omega arith)).1) low_k low_r
    ∙ ap (λ m. slice_index (block_part shape bytes n m) r) here

block_front : (shape : Shape) (bytes : List ℕ) (n k r : ℕ) → HasEntries shape → n < section_entries shape
    → length bytes ≡ 512 * section_sectors shape → k < shape.spb → r < 504
    → slice_index (block_in shape bytes (parts_of shape bytes n) n) (512 * k + r) ≡ slice_index bytes (512 * (8 + n * shape.spb) + (512 * k + r))
block_front shape bytes n k r has low size low_k low_r =
    let sizes = block_part-sizes shape bytes n k has low size low_k in
    let front = sizes.0 in
    block_in-at shape bytes n k r has low size low_k (omega arith)
    ∙ get_or_append_left (piece (parts_of shape bytes n) (512 * k) 504) (piece bytes (entry_from shape n + 8 + 8 * k) 8) 0 r (omega arith)
    ∙ piece-at (parts_of shape bytes n) (512 * k) 504 r low_r
    ∙ piece-at bytes (512 * (8 + n * shape.spb)) (512 * shape.spb) (512 * k + r) (omega arith)

-- and 8 of the entry.
block_last : (shape : Shape) (bytes : List ℕ) (n k r : ℕ) → HasEntries shape → n < section_entries shape
    → length bytes ≡ 512 * section_sectors shape → k < shape.spb → r < 8
    → slice_index (block_in shape bytes (parts_of shape bytes n) n) (512 * k + (504 + r)) ≡ slice_index bytes (entry_from shape n + 8 + 8 * k + r)
block_last shape bytes n k r has low size low_k low_r =
    let sizes = block_part-sizes shape bytes n k has low size low_k in
    let front = sizes.0 in
    let place : 504 + r - 504 ≡ r = omega arith in
    block_in-at shape bytes n k (504 + r) has low size low_k (omega arith)
    ∙ get_or-append_right (piece (parts_of shape bytes n) (512 * k) 504) (piece bytes (entry_from shape n + 8 + 8 * k) 8) 504 (504 + r) 0 front (omega arith)
    ∙ ap (λ at. slice_index (piece bytes (entry_from shape n + 8 + 8 * k) 8) at) place
    ∙ piece-at bytes (entry_from shape n + 8 + 8 * k) 8 r low_r

-- ---- an entry told

-- Two sections of bytes, of one size.
record AreSections (shape : Shape) (a b : List ℕ) : Type 0 where
  has : HasEntries shape
  size_a : length a ≡ 512 * section_sectors shape
  size_b : length b ≡ 512 * section_sectors shape
  low_a : (i : ℕ) → slice_index a i < 256
  low_b : (i : ℕ) → slice_index b i < 256

-- What stands for a used entry is told by it.
used_told : (shape : Shape) (a b : List ℕ) (n : ℕ) (entry : Entry) → AreSections shape a b → n < section_entries shape
    → entry_at shape a n ≡ Some entry → entry_at shape b n ≡ Some entry
    → (at : ℕ) → at % 512 < 504 → IsNamedBy shape n (Some entry) at → slice_index a at ≡ slice_index b at
used_told shape a b n entry are low in_a in_b at front named =
    let inside = entry_in_meta shape n are.has low in
    let least = are.has.entry_low in
    let sectors = are.has.sectors_low in
    let size_a = are.size_a in
    let size_b = are.size_b in
    let from : ℕ = entry_from shape n in
    let start : ℕ = 512 * (8 + n * shape.spb) in
    let used_a = is_used-some shape a n entry in_a in
    let used_b = is_used-some shape b n entry in_b in
    let told = sym (entry_at-used shape a n used_a) ∙ in_a ∙ sym in_b ∙ entry_at-used shape b n used_b in
    let same = same_some _ _ told in
    let sector = ap (λ (e : Entry). e.sector) same in
    let block = ap (λ (e : Entry). e.bytes) same in
    let tag = ap (λ (e : Entry). e.tag) same in
    elim named [
      | inl within ↦
          let lower = within.0 in
          let upper = within.1 in
          let o : ℕ = at - from in
          elim (cases_lt o 8) [
            | inl in_sector ↦
                let place : from + o ≡ at = omega arith in
                ap (λ m. slice_index a m) (sym place)
                ∙ number_tells a b from 8 o are.low_a are.low_b (omega arith) (omega arith) sector in_sector
                ∙ ap (λ m. slice_index b m) place
            | inr behind_sector ↦ elim (cases_lt o (8 + 8 * shape.spb)) [
              | inl in_last ↦
                  let k : ℕ = (o - 8) / 8 in
                  let r : ℕ = (o - 8) % 8 in
                  let place : from + 8 + 8 * k + r ≡ at = omega arith in
                  ap (λ m. slice_index a m) (sym place)
                  ∙ sym (block_last shape a n k r are.has low size_a (omega arith) (omega arith))
                  ∙ ap (λ (xs : List ℕ). slice_index xs (512 * k + (504 + r))) block
                  ∙ block_last shape b n k r are.has low size_b (omega arith) (omega arith)
                  ∙ ap (λ m. slice_index b m) place
              | inr behind_last ↦
                  let t : ℕ = o - 8 - 8 * shape.spb in
                  let place : from + 8 + 8 * shape.spb + t ≡ at = omega arith in
                  ap (λ m. slice_index a m) (sym place)
                  ∙ sym (piece-at a (from + 8 + 8 * shape.spb) shape.tag_size t (omega arith))
                  ∙ ap (λ (xs : List ℕ). slice_index xs t) tag
                  ∙ piece-at b (from + 8 + 8 * shape.spb) shape.tag_size t (omega arith)
                  ∙ ap (λ m. slice_index b m) place
            ]
          ]
      | inr within ↦
          let lower = within.0 in
          let upper = within.1 in
          let k : ℕ = (at - start) / 512 in
          let r : ℕ = (at - start) % 512 in
          let low_r : r < 504 = omega arith in
          let place : start + (512 * k + r) ≡ at = omega arith in
          ap (λ m. slice_index a m) (sym place)
          ∙ sym (block_front shape a n k r are.has low size_a (omega arith) low_r)
          ∙ ap (λ (xs : List ℕ). slice_index xs (512 * k + r)) block
          ∙ block_front shape b n k r are.has low size_b (omega arith) low_r
          ∙ ap (λ m. slice_index b m) place
    ]

-- What stands for an unused one is, too.
unused_told : (shape : Shape) (a b : List ℕ) (n : ℕ) → AreSections shape a b → n < section_entries shape
    → entry_at shape a n ≡ None → entry_at shape b n ≡ None
    → (at : ℕ) → IsNamedBy shape n None at → slice_index a at ≡ slice_index b at
unused_told shape a b n are low in_a in_b at within =
    let inside = entry_in_meta shape n are.has low in
    let least = are.has.entry_low in
    let sectors = are.has.sectors_low in
    let size_a = are.size_a in
    let size_b = are.size_b in
    let from : ℕ = entry_from shape n + 4 in
    let lower = within.0 in
    let upper = within.1 in
    let place : from + (at - from) ≡ at = omega arith in
    let same = unused_word shape a n (is_used-none shape a n in_a) ∙ sym (unused_word shape b n (is_used-none shape b n in_b)) in
    ap (λ m. slice_index a m) (sym place)
    ∙ number_tells a b from 4 (at - from) are.low_a are.low_b (omega arith) (omega arith) same (omega arith)
    ∙ ap (λ m. slice_index b m) place

-- What stands for an entry is told by it, whichever it is.
named_told : (shape : Shape) (a b : List ℕ) (n : ℕ) (entry : Option Entry) → AreSections shape a b → n < section_entries shape
    → entry_at shape a n ≡ entry → entry_at shape b n ≡ entry
    → (at : ℕ) → at % 512 < 504 → IsNamedBy shape n entry at → slice_index a at ≡ slice_index b at
named_told shape a b n (Some entry) are low in_a in_b at front named = used_told shape a b n entry are low in_a in_b at front named
named_told shape a b n None are low in_a in_b at front named = unused_told shape a b n are low in_a in_b at named

-- ---- a section told

-- Whether a byte stands for an entry can be told.
cases_named : (shape : Shape) (n : ℕ) (entry : Option Entry) (at : ℕ) → (IsNamedBy shape n entry at → ⊥) ⊎ IsNamedBy shape n entry at
cases_named shape n (Some entry) at = elim (cases_within (entry_from shape n) (8 + 8 * shape.spb + shape.tag_size) at) [
  | inl within ↦ inr (inl within)
  | inr not_fields ↦ elim (cases_within (512 * (8 + n * shape.spb)) (512 * shape.spb) at) [
    | inl within ↦ inr (inr within)
    | inr not_parts ↦ inl (λ named. elim named [ inl within ↦ not_fields within | inr within ↦ not_parts within ])
  ]
]
cases_named shape n None at = elim (cases_within (entry_from shape n + 4) 4 at) [
  | inl within ↦ inr within
  | inr not_within ↦ inl not_within
]

-- The bytes of the commit ids are told by the number.
id_told : (shape : Shape) (i number : ℕ) (a b : List ℕ) → AreSections shape a b → BearsNumber shape i number a → BearsNumber shape i number b
    → (at : ℕ) → at < length a → 504 ≤ at % 512 → slice_index a at ≡ slice_index b at
id_told shape i number a b are bears_a bears_b at inside last =
    let size_a = are.size_a in
    let size_b = are.size_b in
    let j : ℕ = at / 512 in
    let r : ℕ = at % 512 - 504 in
    let low_j : j < section_sectors shape = omega arith in
    let id_a = number_of_tells i j (id_in (sector_in a j)) number (bears_a j low_j) in
    let id_b = number_of_tells i j (id_in (sector_in b j)) number (bears_b j low_j) in
    let same = sym (id_in-sector_in a j) ∙ sym id_a.1 ∙ id_b.1 ∙ id_in-sector_in b j in
    let place : 512 * j + 504 + r ≡ at = omega arith in
    ap (λ m. slice_index a m) (sym place)
    ∙ number_tells a b (512 * j + 504) 8 r are.low_a are.low_b (omega arith) (omega arith) same (omega arith)
    ∙ ap (λ m. slice_index b m) place

-- ---- for callers

-- Sections that hold the same entries under the same number have the same bytes.
pub section_told : (shape : Shape) (i number : ℕ) (entries : List (Option Entry)) (a b : List ℕ) → HasEntries shape
    → ((k : ℕ) → slice_index a k < 256) → ((k : ℕ) → slice_index b k < 256)
    → HoldsEntries shape entries a → HoldsEntries shape entries b
    → BearsNumber shape i number a → BearsNumber shape i number b → a ≡ b
section_told shape i number entries a b has low_a low_b holds_a holds_b bears_a bears_b =
    let are : AreSections shape a b = record { has = has; size_a = holds_a.size; size_b = holds_b.size; low_a = low_a; low_b = low_b } in
    let count : length entries ≡ section_entries shape = sym (ap (λ (es : List (Option Entry)). length es) holds_a.entries_are) ∙ length-entries_of shape a in
    let size_a = holds_a.size in
    let size_b = holds_b.size in
    same_number_lists a b (size_a ∙ sym size_b) (λ at inside. elim (cases_lt (at % 512) 504) [
      | inr last ↦ id_told shape i number a b are bears_a bears_b at inside last
      | inl front ↦ elim (all_or_some (length entries) (λ n. IsNamedBy shape n (get_or entries n None) at → ⊥) (λ n. IsNamedBy shape n (get_or entries n None) at)
          (λ n low. cases_named shape n (get_or entries n None) at)) [
            | inl none ↦
                let nothing : IsNamed shape entries at → ⊥ = λ named. elim named [
                  | inl last ↦ omega arith
                  | inr some ↦ none some.0 some.1 some.2
                ] in
                holds_a.zeros at nothing ∙ sym (holds_b.zeros at nothing)
            | inr some ↦
                let n = some.0 in
                let low : n < section_entries shape = omega (arith, some.1) in
                let in_a = sym (entries_of-at shape a n None low) ∙ ap (λ (es : List (Option Entry)). get_or es n None) holds_a.entries_are in
                let in_b = sym (entries_of-at shape b n None low) ∙ ap (λ (es : List (Option Entry)). get_or es n None) holds_b.entries_are in
                named_told shape a b n (get_or entries n None) are low in_a in_b at front some.2
          ]
    ])
