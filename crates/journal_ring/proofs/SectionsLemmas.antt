-- The sections of a journal in memory.
use Rattle.std.proofs.Common.{◌≡◌, ◌≢◌, ◌⊎◌, inl, inr, ℕ, zero, suc, ◌+◌, ◌-◌, ◌*◌, ◌<◌, ◌≤◌, List, [], ◌∷◌, ◌++◌, length, take, drop, map, replicate, filter_map, set, refl, sym, ◌∙◌, ap, subst, arith, Option, Some, None, length-append, append-nil, append_assoc}
use Rattle.std.proofs.Math.Seq.{set-append_seam}
use Rattle.std.proofs.lemmas.Bool.{cases_lt}
use Rattle.std.proofs.lemmas.List.{length-map, drop-drop}
use borrow.Rule.Slice.PartMut.{put_mid}
use Rattle.std.proofs.lemmas.List.Elements.{filter_map-append}
use Rattle.image_model.specs.CommitId.{number_of}
use Rattle.image_model.specs.Geometry.{Shape, section_entries, section_sectors}
use Rattle.image_model.specs.Section.{Entry, section_bytes}
use Rattle.image_model.specs.Sectors.{piece}
use Rattle.image_model.proofs.SectorLemmas.{number_in-same}
use Rattle.image_model.specs.Entries.{BearsNumber, HoldsEntries}
use Rattle.journal_section.specs.Pieces.{with_piece, PutsEntry}
use Rattle.journal_section.proofs.PiecesLemmas.{length-with_piece, piece-with_piece, piece-elsewhere}
use Rattle.journal_section.proofs.SectorsLemmas.{id_in-sector_in}
use Rattle.journal_ring.specs.Sections.{used_in, filled, IsHeld, ChangesSection}

-- ---- used and unused entries

some : List Entry → List (Option Entry)
some used = map (λ (entry : Entry). Some entry) used

used-some : (used : List Entry) → filter_map (λ (entry : Option Entry). entry) (map (λ (entry : Entry). Some entry) used) ≡ used
used-some [] = refl
used-some (entry ∷ used) = ap (λ (xs : List Entry). entry ∷ xs) (used-some used)

used-none : (n : ℕ) → filter_map (λ (entry : Option Entry). entry) (replicate n None) ≡ []
used-none zero = refl
used-none (suc n) = used-none n

-- The used ones of these are the first.
pub used-filled : (size : ℕ) (used : List Entry) → filter_map (λ (entry : Option Entry). entry) (filled size used) ≡ used
used-filled size used =
    filter_map-append (λ (entry : Option Entry). entry) (map (λ (entry : Entry). Some entry) used) (replicate (size - length used) None)
    ∙ ap (λ (xs : List Entry). xs ++ filter_map (λ (entry : Option Entry). entry) (replicate (size - length used) None)) (used-some used)
    ∙ ap (λ (xs : List Entry). used ++ xs) (used-none (size - length used))
    ∙ append-nil used

map-some-push : (used : List Entry) (entry : Entry) → map (λ (x : Entry). Some x) (used ++ entry ∷ []) ≡ map (λ (x : Entry). Some x) used ++ Some entry ∷ []
map-some-push [] entry = refl
map-some-push (x ∷ used) entry = ap (λ (xs : List (Option Entry)). Some x ∷ xs) (map-some-push used entry)

-- With one more behind them they are one more.
pub filled-put : (size : ℕ) (used : List Entry) (entry : Entry) → length used < size
    → set (filled size used) (length used) (Some entry) ≡ filled size (used ++ entry ∷ [])
filled-put size used entry low =
    let others : ℕ = size - length used - 1 in
    let count : size - length used ≡ suc others = omega arith in
    let less : others ≡ size - length (used ++ entry ∷ []) = omega (arith, length-append used (entry ∷ [])) in
    let marks : List (Option Entry) = map (λ (x : Entry). Some x) used in
    let long : length used ≡ length marks = sym (length-map used (λ (x : Entry). Some x)) in
    ap (λ (n : ℕ). set (marks ++ replicate n None) (length used) (Some entry)) count
    ∙ ap (λ (n : ℕ). set (marks ++ None ∷ replicate others None) n (Some entry)) long
    ∙ set-append_seam marks None (replicate others None) (Some entry)
    ∙ sym (append_assoc marks (Some entry ∷ []) (replicate others None))
    ∙ ap (λ (xs : List (Option Entry)). xs ++ replicate others None) (sym (map-some-push used entry))
    ∙ ap (λ (n : ℕ). map (λ (x : Entry). Some x) (used ++ entry ∷ []) ++ replicate n None) less

-- ---- an entry is put

-- The section has one entry more,
pub used-put : (shape : Shape) (count : ℕ) (entry : Entry) (old new : List ℕ) → IsHeld shape count old → count < section_entries shape
    → PutsEntry shape count entry old new → used_in shape new ≡ used_in shape old ++ entry ∷ []
used-put shape count entry old new is low puts =
    let used : List Entry = used_in shape old in
    ap (filter_map (λ (x : Option Entry). x))
    (puts.entries
    ∙ ap (λ (xs : List (Option Entry)). set xs count (Some entry)) is.holds.entries_are
    ∙ ap (λ (n : ℕ). set (filled (section_entries shape) used) n (Some entry)) (sym is.count_is)
    ∙ filled-put (section_entries shape) used entry (let size = is.count_is in omega arith))
    ∙ used-filled (section_entries shape) (used ++ entry ∷ [])

-- and holds it.
pub IsHeld-put : (shape : Shape) (count : ℕ) (entry : Entry) (old new : List ℕ) → IsHeld shape count old → count < section_entries shape
    → PutsEntry shape count entry old new → IsHeld shape (count + 1) new
IsHeld-put shape count entry old new is low puts =
    let used : List Entry = used_in shape old in
    let size = is.count_is in
    let more = used-put shape count entry old new is low puts in
    let now : set (filled (section_entries shape) used) count (Some entry) ≡ filled (section_entries shape) (used_in shape new) =
    ap (λ (n : ℕ). set (filled (section_entries shape) used) n (Some entry)) (sym is.count_is)
    ∙ filled-put (section_entries shape) used entry (omega arith)
    ∙ ap (filled (section_entries shape)) (sym more) in
    record {
      holds = subst (λ (xs : List (Option Entry)). HoldsEntries shape xs new) now (puts.holds (filled (section_entries shape) used) is.holds);
      count_is = ap length more ∙ length-append used (entry ∷ []) ∙ ap (λ (n : ℕ). n + 1) is.count_is;
      low = omega arith;
    }

-- Its commit number stays.
pub BearsNumber-put : (shape : Shape) (i number count : ℕ) (entry : Entry) (old new : List ℕ) → BearsNumber shape i number old
    → PutsEntry shape count entry old new → BearsNumber shape i number new
BearsNumber-put shape i number count entry old new bears puts j low =
    ap (number_of i j)
    (id_in-sector_in new j
    ∙ number_in-same new old (512 * j + 504) (512 * j + 504) 8 (λ at inside. puts.ids (512 * j + 504 + at) (omega arith))
    ∙ sym (id_in-sector_in old j))
    ∙ bears j low

-- A cleared section has no entry.
pub used-cleared : (shape : Shape) (bytes : List ℕ) → HoldsEntries shape (replicate (section_entries shape) None) bytes → used_in shape bytes ≡ []
used-cleared shape bytes holds = ap (filter_map (λ (x : Option Entry). x)) holds.entries_are ∙ used-none (section_entries shape)

pub IsHeld-cleared : (shape : Shape) (bytes : List ℕ) → HoldsEntries shape (replicate (section_entries shape) None) bytes → IsHeld shape 0 bytes
IsHeld-cleared shape bytes holds =
    let none = used-cleared shape bytes holds in
    let all : section_entries shape ≡ section_entries shape - 0 = omega arith in
    record {
      holds = subst (λ (xs : List Entry). HoldsEntries shape (filled (section_entries shape) xs) bytes) (sym none)
          (subst (λ (n : ℕ). HoldsEntries shape (replicate n None) bytes) all holds);
      count_is = ap length none;
      low = omega arith;
    }

-- ---- the bytes of the sections

-- Sections end one behind the other.
section_end : (i size : ℕ) → (i + 1) * size ≡ i * size + size
section_end i size = omega arith

-- What is put in the place of a section is that section,
pub section-changed : (shape : Shape) (i from : ℕ) (new bytes : List ℕ) → 512 * ((i + 1) * section_sectors shape) ≤ length bytes
    → from ≡ 512 * (i * section_sectors shape) → length new ≡ 512 * section_sectors shape
    → section_bytes shape (with_piece from new bytes) i ≡ new
section-changed shape i from new bytes fits is size =
    let end = section_end i (section_sectors shape) in
    ap (λ (n : ℕ). piece (with_piece from new bytes) n (512 * section_sectors shape)) (sym is)
    ∙ ap (piece (with_piece from new bytes) from) (sym size)
    ∙ piece-with_piece from new bytes (omega arith)

-- and the others stay.
pub section-kept : (shape : Shape) (i from : ℕ) (new bytes : List ℕ) → 512 * ((i + 1) * section_sectors shape) ≤ length bytes
    → from ≡ 512 * (i * section_sectors shape) → length new ≡ 512 * section_sectors shape
    → ChangesSection shape i bytes (with_piece from new bytes)
section-kept shape i from new bytes fits is size =
    let end = section_end i (section_sectors shape) in
    record {
      size = length-with_piece from new bytes (omega arith);
      others = λ j other inside. piece-elsewhere from new bytes (512 * (j * section_sectors shape)) (512 * section_sectors shape)
          (omega arith) (let own = section_end j (section_sectors shape) in omega arith) (apart j other);
    }
  where
    apart : (j : ℕ) → j ≢ i → (512 * (j * section_sectors shape) + 512 * section_sectors shape ≤ from) ⊎ (from + length new ≤ 512 * (j * section_sectors shape))
    apart j other = elim (cases_lt j i) [
      | inl before ↦
          let k : ℕ = i - j - 1 in
          let split : i ≡ j + 1 + k = omega arith in
          let scaled = ap (λ (n : ℕ). n * section_sectors shape) split in
          inl (omega arith)
      | inr behind ↦
          let k : ℕ = j - i - 1 in
          let split : j ≡ i + 1 + k = omega arith in
          let scaled = ap (λ (n : ℕ). n * section_sectors shape) split in
          inr (omega arith)
    ]

-- ---- for callers

-- What is put into the part of the bytes that a section is.
pub record IsPutThere (shape : Shape) (i : ℕ) (new bytes now : List ℕ) : Type 0 where
  pub section : section_bytes shape now i ≡ new
  pub others : ChangesSection shape i bytes now

pub section-put : (shape : Shape) (i sectors : ℕ) (new bytes : List ℕ) → sectors ≡ section_sectors shape
    → 512 * ((i + 1) * sectors) ≤ length bytes → length new ≡ 512 * sectors
    → IsPutThere shape i new bytes (put_mid (512 * sectors * i) (512 * sectors * i + 512 * sectors - 512 * sectors * i) bytes new)
section-put shape i sectors new bytes is fits size =
    let from : ℕ = 512 * sectors * i in
    let count : ℕ = from + 512 * sectors - from in
    let scaled : i * sectors ≡ i * section_sectors shape = ap (λ (n : ℕ). i * n) is in
    let place : from ≡ 512 * (i * section_sectors shape) = omega arith in
    let more : (i + 1) * sectors ≡ (i + 1) * section_sectors shape = ap (λ (n : ℕ). (i + 1) * n) is in
    let rest : from + length new ≡ from + count = omega arith in
    let put : with_piece from new bytes ≡ put_mid from count bytes new =
    ap (λ (xs : List ℕ). take from bytes ++ (new ++ xs)) (ap (λ (n : ℕ). drop n bytes) rest ∙ sym (drop-drop count from bytes ∙ ap (λ (n : ℕ). drop n bytes) (omega arith))) in
    subst (IsPutThere shape i new bytes) put (record {
      section = section-changed shape i from new bytes (omega arith) place (omega arith);
      others = section-kept shape i from new bytes (omega arith) place (omega arith);
    })

-- The part of the bytes that a section is.
pub section-part : (shape : Shape) (i sectors : ℕ) (bytes : List ℕ) → sectors ≡ section_sectors shape
    → take (512 * sectors * i + 512 * sectors - 512 * sectors * i) (drop (512 * sectors * i) bytes) ≡ section_bytes shape bytes i
section-part shape i sectors bytes is =
    let scaled : i * sectors ≡ i * section_sectors shape = ap (λ (n : ℕ). i * n) is in
    let place : 512 * sectors * i ≡ 512 * (i * section_sectors shape) = omega arith in
    let count : 512 * sectors * i + 512 * sectors - 512 * sectors * i ≡ 512 * section_sectors shape = omega arith in
    ap (λ (n : ℕ). take n (drop (512 * sectors * i) bytes)) count ∙ ap (λ (n : ℕ). take (512 * section_sectors shape) (drop n bytes)) place
