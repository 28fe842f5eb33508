-- Lemmas on bytes with a piece of them put anew.
use Rattle.std.proofs.Common.{◌≡◌, ◌⊎◌, inl, inr, ℕ, ◌+◌, ◌-◌, ◌^◌, ◌<◌, ◌≤◌, List, ◌++◌, length, take, drop, slice_index, refl, sym, ap, ◌∙◌, arith, length-append, length-take, length-drop}
use Rattle.std.proofs.lemmas.List.{append_assoc, get_or_append_left, get_or-append_right, get_or-take, get_or-drop, length-take-le, take_all, take_at}
use Rattle.image_model.specs.Sectors.{piece, number_in, bytes_of}
use Rattle.image_model.proofs.SectorLemmas.{piece-same, number_in-same, number_in-append_right, number_in-bytes_of}
use Rattle.journal_section.specs.Pieces.{with_piece}

-- As many bytes are there as before,
pub length-with_piece : (at : ℕ) (new bytes : List ℕ) → at + length new ≤ length bytes → length (with_piece at new bytes) ≡ length bytes
length-with_piece at new bytes fits =
    let rest = drop (at + length new) bytes in
    omega (arith, length-append (take at bytes) (new ++ rest), length-append new rest, length-take at bytes, length-drop (at + length new) bytes)

-- the new ones in their place,
pub with_piece-inside : (at : ℕ) (new bytes : List ℕ) (k : ℕ) → at ≤ length bytes → k < length new
    → slice_index (with_piece at new bytes) (at + k) ≡ slice_index new k
with_piece-inside at new bytes k fits inside =
    let rest = drop (at + length new) bytes in
    let here : at + k - at ≡ k = omega arith in
    get_or-append_right (take at bytes) (new ++ rest) at (at + k) 0 (length-take-le at bytes fits) (omega arith)
    ∙ ap (λ i. slice_index (new ++ rest) i) here
    ∙ get_or_append_left new rest 0 k inside

-- and the others as they were.
pub with_piece-outside : (at : ℕ) (new bytes : List ℕ) (k : ℕ) → at ≤ length bytes → (k < at) ⊎ (at + length new ≤ k)
    → slice_index (with_piece at new bytes) k ≡ slice_index bytes k
with_piece-outside at new bytes k fits (inl before) =
    let front = length-take-le at bytes fits in
    get_or_append_left (take at bytes) (new ++ drop (at + length new) bytes) 0 k (omega arith) ∙ get_or-take at bytes k 0 before
with_piece-outside at new bytes k fits (inr behind) =
    let rest = drop (at + length new) bytes in
    let place : at + length new + (k - at - length new) ≡ k = omega arith in
    get_or-append_right (take at bytes) (new ++ rest) at k 0 (length-take-le at bytes fits) (omega arith)
    ∙ get_or-append_right new rest (length new) (k - at) 0 refl (omega arith)
    ∙ get_or-drop (at + length new) bytes (k - at - length new) 0
    ∙ ap (λ i. slice_index bytes i) place

-- The piece put is the piece there.
pub piece-with_piece : (at : ℕ) (new bytes : List ℕ) → at + length new ≤ length bytes → piece (with_piece at new bytes) at (length new) ≡ new
piece-with_piece at new bytes fits =
    let long = length-with_piece at new bytes fits in
    piece-same (with_piece at new bytes) new at 0 (length new) (omega arith) (omega arith)
    (λ i inside. with_piece-inside at new bytes i (omega arith) inside ∙ ap (λ k. slice_index new k) (omega arith))
    ∙ take_all (length new) new (omega arith)

-- The bytes up to its end are those before it, and the piece.
pub take-with_piece : (at : ℕ) (new bytes : List ℕ) (end : ℕ) → at ≤ length bytes → at + length new ≡ end
    → take end (with_piece at new bytes) ≡ take at bytes ++ new
take-with_piece at new bytes end fits is =
    let rest = drop (at + length new) bytes in
    let front = length-take-le at bytes fits in
    ap (take end) (sym (append_assoc (take at bytes) new rest))
    ∙ take_at (take at bytes ++ new) rest end (omega (arith, length-append (take at bytes) new))

-- A number put is the number there.
pub number_in-with_piece : (at size number : ℕ) (bytes : List ℕ) → at ≤ length bytes → number < 256 ^ size
    → number_in (with_piece at (bytes_of number size) bytes) at size ≡ number
number_in-with_piece at size number bytes fits low =
    let front = take at bytes in
    let rest = drop (at + length (bytes_of number size)) bytes in
    let place : length front + 0 ≡ at = omega (arith, length-take-le at bytes fits) in
    ap (λ k. number_in (front ++ (bytes_of number size ++ rest)) k size) (sym place)
    ∙ number_in-append_right front (bytes_of number size ++ rest) 0 size
    ∙ number_in-bytes_of number size rest low

-- Numbers and pieces that lie elsewhere stay.
pub number_in-elsewhere : (at : ℕ) (new bytes : List ℕ) (from size : ℕ) → at ≤ length bytes → (from + size ≤ at) ⊎ (at + length new ≤ from)
    → number_in (with_piece at new bytes) from size ≡ number_in bytes from size
number_in-elsewhere at new bytes from size fits (inl before) =
    number_in-same (with_piece at new bytes) bytes from from size (λ i low. with_piece-outside at new bytes (from + i) fits (inl (omega arith)))
number_in-elsewhere at new bytes from size fits (inr behind) =
    number_in-same (with_piece at new bytes) bytes from from size (λ i low. with_piece-outside at new bytes (from + i) fits (inr (omega arith)))

pub piece-elsewhere : (at : ℕ) (new bytes : List ℕ) (from size : ℕ) → at + length new ≤ length bytes → from + size ≤ length bytes
    → (from + size ≤ at) ⊎ (at + length new ≤ from) → piece (with_piece at new bytes) from size ≡ piece bytes from size
piece-elsewhere at new bytes from size fits inside apart =
    let long = length-with_piece at new bytes fits in
    piece-same (with_piece at new bytes) bytes from from size (omega arith) inside (λ i low. elim apart [
      | inl before ↦ with_piece-outside at new bytes (from + i) (omega arith) (inl (omega arith))
      | inr behind ↦ with_piece-outside at new bytes (from + i) (omega arith) (inr (omega arith))
    ])
