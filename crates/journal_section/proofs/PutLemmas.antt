-- What a put leaves of a section.
use Rattle.std.proofs.Common.{◌≡◌, ◌≢◌, ◌⊎◌, inl, inr, ℕ, zero, suc, ◌+◌, ◌-◌, ◌*◌, ◌%◌, ◌^◌, ◌<◌, ◌≤◌, List, ◌++◌, length, drop, get_or, set, slice_index, Option, Some, None, refl, sym, ap, subst, ◌∙◌, arith, length-append, length-drop, length-set}
use Rattle.std.specs.List.{range_with_len, flat_map}
use Rattle.std.proofs.lemmas.Bool.{cases_eq, cases_lt}
use Rattle.std.proofs.lemmas.List.{get_or_append_left, get_or-append_right, get_or-take, get_or-drop, get_or-set_same, get_or-set_other, take_all}
use Rattle.image_model.specs.Geometry.{Shape, entry_size, section_entries, section_sectors}
use Rattle.image_model.specs.Section.{Entry, entry_from, parts_of, entry_at}
use Rattle.image_model.specs.Sectors.{piece}
use Rattle.image_model.proofs.Bounds.{HasEntries}
use Rattle.image_model.proofs.SectionLemmas.{entry_at-used}
use Rattle.image_model.proofs.SectorLemmas.{number_in-same, number_in-add, piece-same, piece-piece, piece-add}
use Rattle.image_model.specs.Entries.{HoldsEntries, IsNamed, IsNamedBy, IsOfEntry, IsWithin}
use Rattle.journal_section.specs.Fields.{HasFields}
use Rattle.journal_section.specs.Pieces.{HasPieces, PutsEntry, with_piece, with_pieces}
use Rattle.journal_section.proofs.PiecesLemmas.{length-with_piece, with_piece-inside, with_piece-outside}
use Rattle.journal_section.proofs.PlaceLemmas.{entry_fits, entry_in_meta, entries_apart, parts_fit, parts_apart}
use Rattle.journal_section.proofs.EntriesLemmas.{cases_within, flat_map-same, length-entries_of, entry_at-same, entries_of-put, is_used-word}

-- ---- the bytes of a section with other pieces

-- It is as long as before,
pub length-with_pieces : (shape : Shape) (n : ℕ) (meta parts bytes : List ℕ) → HasEntries shape → n < section_entries shape
    → length bytes ≡ 512 * section_sectors shape → length meta ≡ 4096 → length parts ≡ 512 * shape.spb
    → length (with_pieces shape n meta parts bytes) ≡ 512 * section_sectors shape
length-with_pieces shape n meta parts bytes has low size size_meta size_parts =
    let fits = parts_fit shape n has low in
    let rest = drop 4096 bytes in
    let long = length-drop 4096 bytes in
    omega (arith, length-append meta (with_piece (512 * (n * shape.spb)) parts rest), length-with_piece (512 * (n * shape.spb)) parts rest (omega arith))

-- has these metadata sectors
pub with_pieces-meta : (shape : Shape) (n : ℕ) (meta parts bytes : List ℕ) (at : ℕ) → length meta ≡ 4096 → at < 4096
    → slice_index (with_pieces shape n meta parts bytes) at ≡ slice_index meta at
with_pieces-meta shape n meta parts bytes at size before =
    get_or_append_left meta (with_piece (512 * (n * shape.spb)) parts (drop 4096 bytes)) 0 at (omega arith)

-- and these data sectors of entry n,
pub with_pieces-parts : (shape : Shape) (n : ℕ) (meta parts bytes : List ℕ) (at : ℕ) → HasEntries shape → n < section_entries shape
    → length bytes ≡ 512 * section_sectors shape → length meta ≡ 4096 → at < length parts
    → slice_index (with_pieces shape n meta parts bytes) (512 * (8 + n * shape.spb) + at) ≡ slice_index parts at
with_pieces-parts shape n meta parts bytes at has low size size_meta inside =
    let fits = parts_fit shape n has low in
    let rest = drop 4096 bytes in
    let start : ℕ = 512 * (n * shape.spb) in
    let place : 512 * (8 + n * shape.spb) + at - 4096 ≡ start + at = omega arith in
    get_or-append_right meta (with_piece start parts rest) 4096 (512 * (8 + n * shape.spb) + at) 0 size_meta (omega arith)
    ∙ ap (λ k. slice_index (with_piece start parts rest) k) place
    ∙ with_piece-inside start parts rest at (omega (arith, length-drop 4096 bytes)) inside

-- and the others as they were.
pub with_pieces-others : (shape : Shape) (n : ℕ) (meta parts bytes : List ℕ) (at : ℕ) → HasEntries shape → n < section_entries shape
    → length bytes ≡ 512 * section_sectors shape → length meta ≡ 4096 → length parts ≡ 512 * shape.spb → 4096 ≤ at
    → (at < 512 * (8 + n * shape.spb)) ⊎ (512 * (8 + n * shape.spb) + 512 * shape.spb ≤ at)
    → slice_index (with_pieces shape n meta parts bytes) at ≡ slice_index bytes at
with_pieces-others shape n meta parts bytes at has low size size_meta size_parts behind apart =
    let fits = parts_fit shape n has low in
    let rest = drop 4096 bytes in
    let start : ℕ = 512 * (n * shape.spb) in
    let long = length-drop 4096 bytes in
    let elsewhere : (at - 4096 < start) ⊎ (start + length parts ≤ at - 4096) =
    elim apart [ inl before ↦ inl (omega arith) | inr after ↦ inr (omega arith) ] in
    let place : 4096 + (at - 4096) ≡ at = omega arith in
    get_or-append_right meta (with_piece start parts rest) 4096 at 0 size_meta behind
    ∙ with_piece-outside start parts rest (at - 4096) (omega arith) elsewhere
    ∙ get_or-drop 4096 bytes (at - 4096) 0
    ∙ ap (λ k. slice_index bytes k) place

-- ---- words of their own

-- The sectors of a block, joined, are its bytes.
blocks_joined : (block : List ℕ) (from count : ℕ) → flat_map (λ k. piece block (512 * k) 512) (range_with_len from count) ≡ piece block (512 * from) (512 * count)
blocks_joined block from zero = refl
blocks_joined block from (suc count) =
    let all : 512 * suc count ≡ 512 + 512 * count = omega arith in
    let next : 512 * from + 512 ≡ 512 * (from + 1) = omega arith in
    rw (blocks_joined block (from + 1) count, all, piece-add block (512 * from) 512 (512 * count), next) refl

-- What an entry names is in its place or among its data sectors.
named_own : (shape : Shape) (n : ℕ) (entry : Option Entry) (at : ℕ) → IsNamedBy shape n entry at
    → (IsWithin (entry_from shape n) (8 + 8 * shape.spb + shape.tag_size) at → ⊥)
    → (IsWithin (entry_from shape n + 4) 4 at → ⊥)
    → (IsWithin (512 * (8 + n * shape.spb)) (512 * shape.spb) at → ⊥) → ⊥
named_own shape n (Some entry) at (inl within) not_fields not_word not_parts = not_fields within
named_own shape n (Some entry) at (inr within) not_fields not_word not_parts = not_parts within
named_own shape n None at within not_fields not_word not_parts = not_word within

-- ---- one put

-- What a put writes, and where. `place` is the entry's place in its metadata sector.
pub record IsPut (shape : Shape) (n : ℕ) (entry : Entry) (meta_old parts_old meta parts place : List ℕ) : Type 0 where
  pub has : HasEntries shape
  pub low : n < section_entries shape
  pub sector : entry.sector < 2 ^ 48
  pub block : length entry.bytes ≡ 512 * shape.spb
  pub tag : length entry.tag ≡ shape.tag_size
  pub size_old : length meta_old ≡ 4096
  pub size_place : length place ≡ entry_size shape
  pub meta_is : meta ≡ with_piece (entry_from shape n) place meta_old
  pub fields : HasFields shape.spb entry.sector entry.bytes entry.tag place
  pub size_parts : length parts ≡ 512 * shape.spb
  pub fronts : (at : ℕ) → at % 512 < 504 → slice_index parts at ≡ slice_index entry.bytes at
  pub ids : (at : ℕ) → 504 ≤ at % 512 → slice_index parts at ≡ slice_index parts_old at

-- The metadata sectors keep their size.
put_size : {shape : Shape} {n : ℕ} {entry : Entry} {meta_old parts_old meta parts place : List ℕ}
    → IsPut shape n entry meta_old parts_old meta parts place → length meta ≡ 4096
put_size {shape} {n} {entry} {meta_old} {parts_old} {meta} {parts} {place} put =
    let inside = entry_in_meta shape n put.has put.low in
    let long = length-with_piece (entry_from shape n) place meta_old (let fits = put.size_place in let old = put.size_old in omega arith) in
    ap (λ (bytes : List ℕ). length bytes) put.meta_is ∙ long ∙ put.size_old

-- The place of the entry, in the section.
put_place : {shape : Shape} {n : ℕ} {entry : Entry} {meta_old parts_old meta parts place : List ℕ} (bytes : List ℕ)
    → IsPut shape n entry meta_old parts_old meta parts place → (i : ℕ) → i < entry_size shape
    → slice_index (with_pieces shape n meta parts bytes) (entry_from shape n + i) ≡ slice_index place i
put_place {shape} {n} {entry} {meta_old} {parts_old} {meta} {parts} {place} bytes put i low =
    let inside = entry_in_meta shape n put.has put.low in
    let fits = put.size_place in
    let old = put.size_old in
    with_pieces-meta shape n meta parts bytes (entry_from shape n + i) (put_size put) (omega arith)
    ∙ ap (λ xs. slice_index xs (entry_from shape n + i)) put.meta_is
    ∙ with_piece-inside (entry_from shape n) place meta_old i (omega arith) (omega arith)

-- All that is not the entry's own stays.
put_others : {shape : Shape} {n : ℕ} {entry : Entry} {meta_old parts_old meta parts place : List ℕ} (bytes : List ℕ)
    → IsPut shape n entry meta_old parts_old meta parts place → HasPieces shape n meta_old parts_old bytes
    → (at : ℕ) → (IsOfEntry shape n at → ⊥)
    → slice_index (with_pieces shape n meta parts bytes) at ≡ slice_index bytes at
put_others {shape} {n} {entry} {meta_old} {parts_old} {meta} {parts} {place} bytes put pieces at other =
    let inside = entry_in_meta shape n put.has put.low in
    let fits = put.size_place in
    let old = put.size_old in
    let from : ℕ = entry_from shape n in
    let start : ℕ = 512 * (8 + n * shape.spb) in
    let count : ℕ = 512 * shape.spb in
    let size_parts = put.size_parts in
    let below_meta : at < 4096 → (at < from) ⊎ (from + length place ≤ at) → slice_index (with_pieces shape n meta parts bytes) at ≡ slice_index bytes at =
    λ low apart.
    with_pieces-meta shape n meta parts bytes at (put_size put) low
    ∙ ap (λ xs. slice_index xs at) put.meta_is
    ∙ with_piece-outside from place meta_old at (omega arith) apart
    ∙ sym (ap (λ xs. slice_index xs at) pieces.meta_are)
    ∙ get_or-take 4096 bytes at 0 low in
    let behind_meta : 4096 ≤ at → (at < start) ⊎ (start + count ≤ at) → slice_index (with_pieces shape n meta parts bytes) at ≡ slice_index bytes at =
    λ high apart. with_pieces-others shape n meta parts bytes at put.has put.low pieces.size (put_size put) size_parts high apart in
    elim (cases_lt at 4096) [
      | inl low ↦ elim (cases_lt at from) [
        | inl before ↦ below_meta low (inl before)
        | inr not_before ↦ elim (cases_lt at (from + entry_size shape)) [
          | inl within ↦ absurd (other (inl (not_before, within)))
          | inr behind ↦ below_meta low (inr (omega arith))
        ]
      ]
      | inr high ↦ elim (cases_lt at start) [
        | inl before ↦ behind_meta high (inl before)
        | inr not_before ↦ elim (cases_lt at (start + count)) [
          | inr behind ↦ behind_meta high (inr behind)
          | inl within ↦ elim (cases_lt (at % 512) 504) [
            | inl front ↦ absurd (other (inr ((not_before, within), front)))
            | inr last ↦
                let i : ℕ = at - start in
                let place_is : start + i ≡ at = omega arith in
                let low_i : i < count = omega arith in
                ap (λ k. slice_index (with_pieces shape n meta parts bytes) k) (sym place_is)
                ∙ with_pieces-parts shape n meta parts bytes i put.has put.low pieces.size (put_size put) (omega arith)
                ∙ put.ids i (omega arith)
                ∙ sym (ap (λ xs. slice_index xs i) pieces.parts_are)
                ∙ get_or-take count (drop start bytes) i 0 low_i
                ∙ get_or-drop start bytes i 0
                ∙ ap (λ k. slice_index bytes k) place_is
          ]
        ]
      ]
    ]

-- The entry put is there.
put_here : {shape : Shape} {n : ℕ} {entry : Entry} {meta_old parts_old meta parts place : List ℕ} (bytes : List ℕ)
    → IsPut shape n entry meta_old parts_old meta parts place → HasPieces shape n meta_old parts_old bytes
    → entry_at shape (with_pieces shape n meta parts bytes) n ≡ Some entry
put_here {shape} {n} {entry} {meta_old} {parts_old} {meta} {parts} {place} bytes put pieces =
    let new : List ℕ = with_pieces shape n meta parts bytes in
    let from : ℕ = entry_from shape n in
    let start : ℕ = 512 * (8 + n * shape.spb) in
    let inside = entry_in_meta shape n put.has put.low in
    let least = put.has.entry_low in
    let sectors = put.has.sectors_low in
    let data_fits = parts_fit shape n put.has put.low in
    let size_place = put.size_place in
    let size_parts = put.size_parts in
    let size_tag = put.tag in
    let size_block = put.block in
    let limit = put.sector in
    let size = length-with_pieces shape n meta parts bytes put.has put.low pieces.size (put_size put) size_parts in
    let here = put_place bytes put in
    let sector = number_in-same new place from 0 8 (λ i low. here i (omega arith) ∙ ap (λ k. slice_index place k) (omega arith)) ∙ put.fields.sector_is in
    let split = number_in-add new from 4 4 in
    let used = is_used-word shape new n (λ ones. let joined = sym sector ∙ split in omega arith) in
    let tag = piece-same new place (from + 8 + 8 * shape.spb) (8 + 8 * shape.spb) shape.tag_size (omega arith) (omega arith)
    (λ i low. ap (λ k. slice_index new k) (omega arith) ∙ here (8 + 8 * shape.spb + i) (omega arith))
    ∙ ap (λ count. piece place (8 + 8 * shape.spb) count) (sym size_tag) ∙ put.fields.tag_is in
    let block = flat_map-same
    (λ k. piece (parts_of shape new n) (512 * k) 504 ++ piece new (from + 8 + 8 * k) 8)
    (λ k. piece entry.bytes (512 * k) 512)
    0 shape.spb
    (λ k lowest highest.
    let front =
    piece-piece new start (512 * shape.spb) (512 * k) 504 (omega arith)
    ∙ piece-same new entry.bytes (start + 512 * k) (512 * k) 504 (omega arith) (omega arith)
    (λ i low.
    ap (λ at. slice_index new at) (let e : start + 512 * k + i ≡ start + (512 * k + i) = omega arith in e)
    ∙ with_pieces-parts shape n meta parts bytes (512 * k + i) put.has put.low pieces.size (put_size put) (omega arith)
    ∙ put.fronts (512 * k + i) (omega arith)) in
    let last =
    piece-same new place (from + 8 + 8 * k) (8 + 8 * k) 8 (omega arith) (omega arith)
    (λ i low. ap (λ at. slice_index new at) (let e : from + 8 + 8 * k + i ≡ from + (8 + 8 * k + i) = omega arith in e) ∙ here (8 + 8 * k + i) (omega arith))
    ∙ put.fields.lasts k (omega arith) in
    rw (front, last) (sym (piece-add entry.bytes (512 * k) 504 8)))
    ∙ blocks_joined entry.bytes 0 shape.spb ∙ take_all (512 * shape.spb) entry.bytes (omega arith) in
    entry_at-used shape new n used ∙ rw (sector, block, tag) refl

-- The other entries are as they were.
put_other_entries : {shape : Shape} {n : ℕ} {entry : Entry} {meta_old parts_old meta parts place : List ℕ} (bytes : List ℕ)
    → IsPut shape n entry meta_old parts_old meta parts place → HasPieces shape n meta_old parts_old bytes
    → (m : ℕ) → m < section_entries shape → m ≢ n
    → entry_at shape (with_pieces shape n meta parts bytes) m ≡ entry_at shape bytes m
put_other_entries {shape} {n} {entry} {meta_old} {parts_old} {meta} {parts} {place} bytes put pieces m low differ =
    let inside = entry_in_meta shape n put.has put.low in
    let inside_m = entry_in_meta shape m put.has low in
    let least = put.has.entry_low in
    let size = length-with_pieces shape n meta parts bytes put.has put.low pieces.size (put_size put) put.size_parts in
    entry_at-same shape bytes (with_pieces shape n meta parts bytes) m put.has low pieces.size size
    (λ at within. put_others bytes put pieces at (λ own. elim own [
      | inl place_n ↦ elim (entries_apart shape m n put.has low put.low differ) [
        | inl before ↦ omega arith
        | inr behind ↦ omega arith
      ]
      | inr parts_n ↦ omega arith
    ]))
    (λ at within front. put_others bytes put pieces at (λ own. elim own [
      | inl place_n ↦ omega arith
      | inr parts_n ↦ elim (parts_apart shape m n differ) [
        | inl before ↦ omega arith
        | inr behind ↦ omega arith
      ]
    ]))

-- A byte that an entry names before a put, and that is not the put entry's own, is named after it.
put_names : (shape : Shape) (n : ℕ) (entry : Entry) (entries : List (Option Entry)) (at : ℕ) → HasEntries shape → n < length entries
    → (IsWithin (entry_from shape n) (entry_size shape) at → ⊥)
    → (IsWithin (512 * (8 + n * shape.spb)) (512 * shape.spb) at → ⊥)
    → IsNamed shape entries at → IsNamed shape (set entries n (Some entry)) at
put_names shape n entry entries at has low not_place not_parts (inl id) = inl id
put_names shape n entry entries at has low not_place not_parts (inr (m, low_m, named)) =
    let least = has.entry_low in
    elim (cases_eq m n) [
      | inl same ↦ absurd (named_own shape m (get_or entries m None) at named
          (λ within. not_place (subst (λ k. IsWithin (entry_from shape k) (entry_size shape) at) same (let lower = within.0 in let upper = within.1 in (lower, omega arith))))
          (λ within. not_place (subst (λ k. IsWithin (entry_from shape k) (entry_size shape) at) same (let lower = within.0 in let upper = within.1 in (omega arith, omega arith))))
          (λ within. not_parts (subst (λ k. IsWithin (512 * (8 + k * shape.spb)) (512 * shape.spb) at) same within)))
      | inr differ ↦
          inr (
            m,
            omega (arith, length-set entries n (Some entry)),
            subst (λ found. IsNamedBy shape m found at) (sym (get_or-set_other entries n m (Some entry) None differ)) named,
          )
    ]

-- The bytes that nothing names stay zero.
put_zeros : {shape : Shape} {n : ℕ} {entry : Entry} {meta_old parts_old meta parts place : List ℕ} (bytes : List ℕ) (entries : List (Option Entry))
    → IsPut shape n entry meta_old parts_old meta parts place → HasPieces shape n meta_old parts_old bytes
    → HoldsEntries shape entries bytes
    → (at : ℕ) → (IsNamed shape (set entries n (Some entry)) at → ⊥) → slice_index (with_pieces shape n meta parts bytes) at ≡ 0
put_zeros {shape} {n} {entry} {meta_old} {parts_old} {meta} {parts} {place} bytes entries put pieces holds at nothing =
    let from : ℕ = entry_from shape n in
    let start : ℕ = 512 * (8 + n * shape.spb) in
    let count : length entries ≡ section_entries shape = sym (ap (λ (es : List (Option Entry)). length es) holds.entries_are) ∙ length-entries_of shape bytes in
    let low = put.low in
    let inside : n < length entries = omega arith in
    let inside_new : n < length (set entries n (Some entry)) = omega (arith, length-set entries n (Some entry)) in
    let here = get_or-set_same entries n (Some entry) None inside in
    let names : IsNamedBy shape n (Some entry) at → ⊥ =
    λ named. nothing (inr (n, inside_new, subst (λ found. IsNamedBy shape n found at) (sym here) named)) in
    let size_tag = put.tag in
    elim (cases_within from (entry_size shape) at) [
      | inl within ↦
          let lower = within.0 in
          let upper = within.1 in
          let i : ℕ = at - from in
          let place_is : from + i ≡ at = omega arith in
          let behind : 8 + 8 * shape.spb + shape.tag_size ≤ i = elim (cases_lt i (8 + 8 * shape.spb + shape.tag_size)) [
            | inl named ↦ absurd (names (inl (lower, omega arith)))
            | inr not_named ↦ not_named
          ] in
          ap (λ k. slice_index (with_pieces shape n meta parts bytes) k) (sym place_is) ∙ put_place bytes put i (omega arith) ∙ put.fields.zeros i (omega arith)
      | inr not_place ↦ elim (cases_within start (512 * shape.spb) at) [
        | inl within ↦ absurd (names (inr within))
        | inr not_parts ↦
            put_others bytes put pieces at (λ own. elim own [ inl within ↦ not_place within | inr within ↦ not_parts within.0 ])
            ∙ holds.zeros at (λ named. nothing (put_names shape n entry entries at put.has inside not_place not_parts named))
      ]
    ]

-- ---- for callers

-- What a put leaves of a section that had the pieces.
pub puts_entry : {shape : Shape} {n : ℕ} {entry : Entry} {meta_old parts_old meta parts place : List ℕ}
    → IsPut shape n entry meta_old parts_old meta parts place
    → (bytes : List ℕ) → HasPieces shape n meta_old parts_old bytes → PutsEntry shape n entry bytes (with_pieces shape n meta parts bytes)
puts_entry {shape} {n} {entry} {meta_old} {parts_old} {meta} {parts} {place} put bytes pieces =
    let new = with_pieces shape n meta parts bytes in
    let all = entries_of-put shape bytes new n entry put.low (put_other_entries bytes put pieces) (put_here bytes put pieces) in
    record {
      entries = all;
      holds = λ entries holds. record {
        size = length-with_pieces shape n meta parts bytes put.has put.low pieces.size (put_size put) put.size_parts;
        entries_are = all ∙ ap (λ before. set before n (Some entry)) holds.entries_are;
        zeros = put_zeros bytes entries put pieces holds;
      };
      others = put_others bytes put pieces;
      ids = λ at last.
          let fits = entry_fits shape n put.has put.low in
          put_others bytes put pieces at (λ own. elim own [
            | inl within ↦ let lower = within.0 in let upper = within.1 in omega arith
            | inr within ↦ let front = within.1 in omega arith
          ]);
    }
