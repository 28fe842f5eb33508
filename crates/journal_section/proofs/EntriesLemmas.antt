-- Lemmas on the words of specs/Entries.antt of `image_model`.
use Rattle.std.proofs.Common.{◌≡◌, ◌≢◌, ◌⊎◌, inl, inr, ℕ, zero, suc, not, true, ◌+◌, ◌-◌, ◌*◌, ◌%◌, ◌^◌, ◌<◌, ◌≤◌, List, [], ◌∷◌, ◌++◌, length, take, get_or, replicate, set, slice_index, Option, Some, None, refl, sym, ap, subst, ◌∙◌, arith, length-set}
use Rattle.std.specs.List.{range_with_len, flat_map}
use Rattle.std.proofs.lemmas.Bool.{cases_Bool, cases_eq, cases_lt, eq-eqb, ne_eqb}
use Rattle.std.proofs.lemmas.List.{append-nil, append_assoc, map-id, same_lists, take_all, get_or-set_same, get_or-set_other, get_or-replicate, length-replicate}
use Rattle.std.proofs.lemmas.List.FromFn.{get_or-map-range_with_len, length-map-range_with_len, map-range_with_len_more}
use Rattle.std.proofs.lemmas.List.Concat.{flat_map-append}
use Rattle.std.specs.Option.{IfSome}
use Rattle.image_model.specs.Geometry.{Shape, section_entries, section_sectors}
use Rattle.image_model.specs.Section.{Entry, entry_from, is_used, parts_of, block_in, entry_at}
use Rattle.image_model.specs.Sectors.{piece, number_in}
use Rattle.image_model.proofs.Bounds.{HasEntries}
use Rattle.image_model.proofs.SectionLemmas.{entry_at-unused, entry_at-used}
use Rattle.image_model.proofs.SectorLemmas.{number_in-same, piece-same, piece-piece}
use Rattle.image_model.specs.Entries.{entries_of, HoldsEntries, IsNamedBy, IsWithin}
use Rattle.journal_section.specs.Pieces.{HasPieces, with_piece}
use Rattle.journal_section.proofs.PiecesLemmas.{length-with_piece, take-with_piece, with_piece-inside, with_piece-outside}
use Rattle.journal_section.proofs.PlaceLemmas.{entry_fits, entry_in_meta, parts_fit}

-- ---- places

-- A byte is one of so many, or not.
pub cases_within : (from size at : ℕ) → IsWithin from size at ⊎ (IsWithin from size at → ⊥)
cases_within from size at = elim (cases_lt at from) [
  | inl before ↦ inr (λ within. let lower = within.0 in omega arith)
  | inr not_before ↦ elim (cases_lt at (from + size)) [
    | inl inside ↦ inl (not_before, inside)
    | inr behind ↦ inr (λ within. let upper = within.1 in omega arith)
  ]
]

-- A byte that is none of a piece put stays.
pub with_piece-apart : (at : ℕ) (new bytes : List ℕ) (k : ℕ) → at ≤ length bytes → (IsWithin at (length new) k → ⊥)
    → slice_index (with_piece at new bytes) k ≡ slice_index bytes k
with_piece-apart at new bytes k fits apart = elim (cases_lt k at) [
  | inl before ↦ with_piece-outside at new bytes k fits (inl before)
  | inr not_before ↦ elim (cases_lt k (at + length new)) [
    | inl inside ↦ absurd (apart (not_before, inside))
    | inr behind ↦ with_piece-outside at new bytes k fits (inr behind)
  ]
]

-- ---- joined pieces

-- Functions that agree below a bound give the same pieces.
pub flat_map-same : (f g : ℕ → List ℕ) (from count : ℕ) → ((k : ℕ) → from ≤ k → k < from + count → f k ≡ g k)
    → flat_map f (range_with_len from count) ≡ flat_map g (range_with_len from count)
flat_map-same f g from zero same = refl
flat_map-same f g from (suc count) same =
    let first = same from (omega arith) (omega arith) in
    let others = flat_map-same f g (from + 1) count (λ k low high. same k (omega arith) (omega arith)) in
    rw (first, others) refl

-- ---- one entry

-- Sections that agree where entry n stands agree on its block,
block_in-same : (shape : Shape) (old new : List ℕ) (n : ℕ)
    → entry_from shape n + (8 + 8 * shape.spb + shape.tag_size) ≤ length old
    → entry_from shape n + (8 + 8 * shape.spb + shape.tag_size) ≤ length new
    → 512 * (8 + n * shape.spb) + 512 * shape.spb ≤ length old
    → 512 * (8 + n * shape.spb) + 512 * shape.spb ≤ length new
    → ((at : ℕ) → IsWithin (entry_from shape n) (8 + 8 * shape.spb + shape.tag_size) at → slice_index new at ≡ slice_index old at)
    → ((at : ℕ) → IsWithin (512 * (8 + n * shape.spb)) (512 * shape.spb) at → at % 512 < 504 → slice_index new at ≡ slice_index old at)
    → block_in shape new (parts_of shape new n) n ≡ block_in shape old (parts_of shape old n) n
block_in-same shape old new n fits_old fits_new long_old long_new fields fronts =
    let start : ℕ = 512 * (8 + n * shape.spb) in
    let word : ℕ → ℕ = λ k. entry_from shape n + 8 + 8 * k in
    flat_map-same
    (λ k. piece (parts_of shape new n) (512 * k) 504 ++ piece new (word k) 8)
    (λ k. piece (parts_of shape old n) (512 * k) 504 ++ piece old (word k) 8)
    0 shape.spb
    (λ k low high.
    let front =
    piece-piece new start (512 * shape.spb) (512 * k) 504 (omega arith)
    ∙ piece-same new old (start + 512 * k) (start + 512 * k) 504 (omega arith) (omega arith)
    (λ i inside. fronts (start + 512 * k + i) (omega arith, omega arith) (omega arith))
    ∙ sym (piece-piece old start (512 * shape.spb) (512 * k) 504 (omega arith)) in
    let last = piece-same new old (word k) (word k) 8 (omega arith) (omega arith)
    (λ i inside. fields (word k + i) (omega arith, omega arith)) in
    rw (front, last) refl)

-- and so on the entry.
pub entry_at-same : (shape : Shape) (old new : List ℕ) (n : ℕ) → HasEntries shape → n < section_entries shape
    → length old ≡ 512 * section_sectors shape → length new ≡ 512 * section_sectors shape
    → ((at : ℕ) → IsWithin (entry_from shape n) (8 + 8 * shape.spb + shape.tag_size) at → slice_index new at ≡ slice_index old at)
    → ((at : ℕ) → IsWithin (512 * (8 + n * shape.spb)) (512 * shape.spb) at → at % 512 < 504 → slice_index new at ≡ slice_index old at)
    → entry_at shape new n ≡ entry_at shape old n
unfolding entry_at is_used
entry_at-same shape old new n has low size_old size_new fields fronts =
    let inside = entry_in_meta shape n has low in
    let least = has.entry_low in
    let sectors = has.sectors_low in
    let data_fits = parts_fit shape n has low in
    let from : ℕ = entry_from shape n in
    let mark = number_in-same new old (from + 4) (from + 4) 4 (λ i below. fields (from + 4 + i) (omega arith, omega arith)) in
    let sector = number_in-same new old from from 8 (λ i below. fields (from + i) (omega arith, omega arith)) in
    let tag = piece-same new old (from + 8 + 8 * shape.spb) (from + 8 + 8 * shape.spb) shape.tag_size (omega arith) (omega arith)
    (λ i below. fields (from + 8 + 8 * shape.spb + i) (omega arith, omega arith)) in
    let block = block_in-same shape old new n (omega arith) (omega arith) (omega arith) (omega arith) fields fronts in
    rw (mark, sector, tag, block) refl

-- An entry is unused where the higher half of its sector's number is all ones.
pub entry_at-unused_word : (shape : Shape) (bytes : List ℕ) (n : ℕ) → number_in bytes (entry_from shape n + 4) 4 ≡ 2 ^ 32 - 1
    → entry_at shape bytes n ≡ None
unfolding is_used
entry_at-unused_word shape bytes n word =
    entry_at-unused shape bytes n (ap not (eq-eqb (number_in bytes (entry_from shape n + 4) 4) (2 ^ 32 - 1) word))

-- Where it is not, the entry is used.
pub is_used-word : (shape : Shape) (bytes : List ℕ) (n : ℕ) → number_in bytes (entry_from shape n + 4) 4 ≢ 2 ^ 32 - 1
    → is_used shape bytes n ≡ true
unfolding is_used
is_used-word shape bytes n word = ap not (ne_eqb (number_in bytes (entry_from shape n + 4) 4) (2 ^ 32 - 1) word)

-- ---- the list of all

pub length-entries_of : (shape : Shape) (bytes : List ℕ) → length (entries_of shape bytes) ≡ section_entries shape
length-entries_of shape bytes = length-map-range_with_len (entry_at shape bytes) 0 (section_entries shape)

-- Entry n of the list is entry n of the section.
pub entries_of-at : (shape : Shape) (bytes : List ℕ) (n : ℕ) (other : Option Entry) → n < section_entries shape
    → get_or (entries_of shape bytes) n other ≡ entry_at shape bytes n
entries_of-at shape bytes n other low = get_or-map-range_with_len (entry_at shape bytes) 0 (section_entries shape) n n other low (omega arith)

-- A list of as many entries, each the section's, is the section's list.
pub entries_of-are : (shape : Shape) (bytes : List ℕ) (entries : List (Option Entry)) → length entries ≡ section_entries shape
    → ((n : ℕ) (other : Option Entry) → n < section_entries shape → entry_at shape bytes n ≡ get_or entries n other)
    → entries_of shape bytes ≡ entries
entries_of-are shape bytes entries size each =
    let count = length-entries_of shape bytes in
    same_lists (entries_of shape bytes) entries (count ∙ sym size) (λ k other low.
    let below : k < section_entries shape = omega arith in
    entries_of-at shape bytes k other below ∙ each k other below)

-- Sections whose entries agree have the same list,
pub entries_of-same : (shape : Shape) (old new : List ℕ)
    → ((n : ℕ) → n < section_entries shape → entry_at shape new n ≡ entry_at shape old n)
    → entries_of shape new ≡ entries_of shape old
entries_of-same shape old new same =
    entries_of-are shape new (entries_of shape old) (length-entries_of shape old) (λ n other low. same n low ∙ sym (entries_of-at shape old n other low))

-- and where one differs the list with that one put.
pub entries_of-put : (shape : Shape) (old new : List ℕ) (n : ℕ) (entry : Entry) → n < section_entries shape
    → ((m : ℕ) → m < section_entries shape → m ≢ n → entry_at shape new m ≡ entry_at shape old m)
    → entry_at shape new n ≡ Some entry
    → entries_of shape new ≡ set (entries_of shape old) n (Some entry)
entries_of-put shape old new n entry low others here =
    let all = entries_of shape old in
    let count = length-entries_of shape old in
    entries_of-are shape new (set all n (Some entry)) (length-set all n (Some entry) ∙ count) (λ m other low_m.
    elim (cases_eq m n) [
      | inl same ↦
          let inside : n < length all = omega arith in
          ap (entry_at shape new) same ∙ here ∙ sym (ap (λ k. get_or (set all n (Some entry)) k other) same ∙ get_or-set_same all n (Some entry) other inside)
      | inr differ ↦ others m low_m differ ∙ sym (get_or-set_other all n m (Some entry) other differ ∙ entries_of-at shape old m other low_m)
    ])

-- ---- what a seal leaves

-- Sections that agree on all bytes but the commit ids hold the same entries.
pub HoldsEntries-sealed : (shape : Shape) (old new : List ℕ) (entries : List (Option Entry)) → HasEntries shape
    → length new ≡ length old
    → ((at : ℕ) → at % 512 < 504 → slice_index new at ≡ slice_index old at)
    → HoldsEntries shape entries old → HoldsEntries shape entries new
HoldsEntries-sealed shape old new entries has size same holds =
    let long = holds.size in
    record {
      size = size ∙ long;
      entries_are = entries_of-same shape old new (λ n low.
          let fits = entry_fits shape n has low in
          let least = has.entry_low in
          entry_at-same shape old new n has low long (size ∙ long)
          (λ at within. same at (omega arith))
          (λ at within front. same at front)) ∙ holds.entries_are;
      zeros = λ at nothing. elim (cases_lt (at % 512) 504) [
        | inl front ↦ same at front ∙ holds.zeros at nothing
        | inr last ↦ absurd (nothing (inl last))
      ];
    }

-- ---- an empty section

-- Where the high word of each entry is all ones and all else is zero, each entry is unused.
pub HoldsEntries-none : (shape : Shape) (bytes : List ℕ) → HasEntries shape
    → length bytes ≡ 512 * section_sectors shape
    → ((n : ℕ) → n < section_entries shape → number_in bytes (entry_from shape n + 4) 4 ≡ 2 ^ 32 - 1)
    → ((at : ℕ) → ((n : ℕ) → n < section_entries shape → IsWithin (entry_from shape n + 4) 4 at → ⊥) → slice_index bytes at ≡ 0)
    → HoldsEntries shape (replicate (section_entries shape) None) bytes
HoldsEntries-none shape bytes has size unused zeros =
    let none : Option Entry = None in
    let count = length-replicate (section_entries shape) none in
    record {
      size = size;
      entries_are = entries_of-are shape bytes (replicate (section_entries shape) none) count (λ n other low.
          entry_at-unused_word shape bytes n (unused n low) ∙ sym (get_or-replicate (section_entries shape) n none other low));
      zeros = λ at nothing. zeros at (λ n low within.
          nothing (inr (n, omega arith, subst (λ entry. IsNamedBy shape n entry at) (sym (get_or-replicate (section_entries shape) n none none low)) within)));
    }

-- ---- the bytes of a block, sector by sector

range_with_len_more : (from count : ℕ) → range_with_len from (count + 1) ≡ range_with_len from count ++ (from + count) ∷ []
range_with_len_more from count =
    sym (map-id (range_with_len from (count + 1))) ∙ map-range_with_len_more (λ k. k) from count (from + count) refl
    ∙ ap (λ xs. xs ++ (from + count) ∷ []) (map-id (range_with_len from count))

-- The sectors so far, and one more.
pub block_more : (f : ℕ → List ℕ) (k : ℕ) (front last old mid new : List ℕ) → 512 * k + 512 ≤ length old
    → length front ≡ 504 → length last ≡ 8 → mid ≡ with_piece (512 * k) front old → new ≡ with_piece (512 * k + 504) last mid
    → f k ≡ front ++ last → take (512 * k) old ≡ flat_map f (range_with_len 0 k)
    → take (512 * (k + 1)) new ≡ flat_map f (range_with_len 0 (k + 1))
block_more f k front last old mid new fits size_front size_last put_front put_last is before =
    let long = length-with_piece (512 * k) front old (omega arith) in
    let long_mid = ap (λ (bytes : List ℕ). length bytes) put_front in
    let all = flat_map f (range_with_len 0 k) in
    ap (take (512 * (k + 1))) put_last
    ∙ take-with_piece (512 * k + 504) last mid (512 * (k + 1)) (omega arith) (omega arith)
    ∙ ap (λ xs. take (512 * k + 504) xs ++ last) put_front
    ∙ ap (λ xs. xs ++ last) (take-with_piece (512 * k) front old (512 * k + 504) (omega arith) (omega arith))
    ∙ ap (λ xs. xs ++ front ++ last) before
    ∙ append_assoc all front last
    ∙ ap (λ xs. all ++ xs) (sym is ∙ sym (append-nil (f k)))
    ∙ sym (flat_map-append f (range_with_len 0 k) (k ∷ []))
    ∙ ap (flat_map f) (sym (range_with_len_more 0 k ∙ ap (λ m. range_with_len 0 k ++ m ∷ []) (omega arith)))

-- All of them are the block.
pub block_all : (f : ℕ → List ℕ) (k spb : ℕ) (bytes : List ℕ) → k ≡ spb → length bytes ≡ 512 * spb
    → take (512 * k) bytes ≡ flat_map f (range_with_len 0 k) → bytes ≡ flat_map f (range_with_len 0 spb)
block_all f k spb bytes end size is =
    sym (take_all (512 * k) bytes (omega arith)) ∙ is ∙ ap (λ count. flat_map f (range_with_len 0 count)) end

-- What one copy joins is the block of the entry, where it is used.
pub block_of_entry : (shape : Shape) (n : ℕ) (meta parts bytes out : List ℕ) → HasEntries shape → n < section_entries shape
    → HasPieces shape n meta parts bytes → out ≡ block_in shape meta parts n
    → IfSome (get_or (entries_of shape bytes) n None) (λ entry. out ≡ entry.bytes)
block_of_entry shape n meta parts bytes out has low pieces is =
    let inside = entry_in_meta shape n has low in
    let least = has.entry_low in
    let word : ℕ → ℕ = λ k. entry_from shape n + 8 + 8 * k in
    let same : block_in shape meta parts n ≡ block_in shape bytes (parts_of shape bytes n) n =
    flat_map-same
    (λ k. piece parts (512 * k) 504 ++ piece meta (word k) 8)
    (λ k. piece (parts_of shape bytes n) (512 * k) 504 ++ piece bytes (word k) 8)
    0 shape.spb
    (λ k lowest highest.
    let front = ap (λ xs. piece xs (512 * k) 504) (sym pieces.parts_are) in
    let last = ap (λ xs. piece xs (word k) 8) (sym pieces.meta_are) ∙ piece-piece bytes 0 4096 (word k) 8 (omega arith)
    ∙ ap (λ at. piece bytes at 8) (let start : 0 + word k ≡ word k = omega arith in start) in
    rw (front, last) refl) in
    subst (λ entry. IfSome entry (λ found. out ≡ found.bytes)) (sym (entries_of-at shape bytes n None low))
    (elim (cases_Bool (is_used shape bytes n)) [
      | inl used ↦ subst (λ entry. IfSome entry (λ found. out ≡ found.bytes)) (sym (entry_at-used shape bytes n used)) (is ∙ same)
      | inr unused ↦ subst (λ entry. IfSome entry (λ found. out ≡ found.bytes)) (sym (entry_at-unused shape bytes n unused)) tt
    ])

-- ---- an empty section, entry by entry

-- One more entry has its high word,
pub ones_more : (shape : Shape) (n : ℕ) (old new : List ℕ) → entry_from shape n + 8 ≤ length old
    → new ≡ with_piece (entry_from shape n + 4) (replicate 4 255) old
    → ((m : ℕ) → m < n → (at : ℕ) → IsWithin (entry_from shape m + 4) 4 at → slice_index old at ≡ 255)
    → (m : ℕ) → m < n + 1 → (at : ℕ) → IsWithin (entry_from shape m + 4) 4 at → slice_index new at ≡ 255
ones_more shape n old new fits put before m low at within =
    let from : ℕ = entry_from shape n + 4 in
    ap (λ bytes. slice_index bytes at) put ∙ elim (cases_within from 4 at) [
      | inl inside ↦
          let lower = inside.0 in
          let upper = inside.1 in
          let place : from + (at - from) ≡ at = omega arith in
          ap (λ k. slice_index (with_piece from (replicate 4 255) old) k) (sym place)
          ∙ with_piece-inside from (replicate 4 255) old (at - from) (omega arith) (omega arith)
          ∙ get_or-replicate 4 (at - from) 255 0 (omega arith)
      | inr outside ↦ elim (cases_eq m n) [
        | inl same ↦ absurd (outside (subst (λ k. IsWithin (entry_from shape k + 4) 4 at) same within))
        | inr differ ↦ with_piece-apart from (replicate 4 255) old at (omega arith) outside ∙ before m (omega arith) at within
      ]
    ]

-- and all else stays zero.
pub zeros_stay : (shape : Shape) (n : ℕ) (old new : List ℕ) → entry_from shape n + 8 ≤ length old
    → new ≡ with_piece (entry_from shape n + 4) (replicate 4 255) old
    → ((at : ℕ) → ((m : ℕ) → m < n → IsWithin (entry_from shape m + 4) 4 at → ⊥) → slice_index old at ≡ 0)
    → (at : ℕ) → ((m : ℕ) → m < n + 1 → IsWithin (entry_from shape m + 4) 4 at → ⊥) → slice_index new at ≡ 0
zeros_stay shape n old new fits put before at nothing =
    ap (λ bytes. slice_index bytes at) put
    ∙ with_piece-apart (entry_from shape n + 4) (replicate 4 255) old at (omega arith) (nothing n (omega arith))
    ∙ before at (λ m low. nothing m (omega arith))

-- Four bytes of ones are the number of an unused entry.
pub number_in-ones : (bytes : List ℕ) (from : ℕ) → ((at : ℕ) → IsWithin from 4 at → slice_index bytes at ≡ 255)
    → number_in bytes from 4 ≡ 2 ^ 32 - 1
number_in-ones bytes from ones =
    number_in-same bytes (replicate 4 255) from 0 4 (λ i low. ones (from + i) (omega arith, omega arith) ∙ sym (get_or-replicate 4 (0 + i) 255 0 (omega arith)))
