-- What the sectors of a section bear.
use Rattle.std.proofs.Common.{◌≡◌, inl, inr, ℕ, ◌+◌, ◌*◌, ◌%◌, ◌^◌, ◌<◌, ◌≤◌, List, length, slice_index, sym, ap, ◌∙◌, arith, Some}
use Rattle.std.proofs.lemmas.Bool.{cases_eq, cases_lt}
use Rattle.disk_model.specs.Disk.{sector_in}
use Rattle.image_model.specs.CommitId.{commit_id, commit_number, id_in, number_of}
use Rattle.image_model.specs.Sectors.{number_in, bytes_of}
use Rattle.image_model.proofs.CommitIdLemmas.{commit_id-low, number_of-commit_id}
use Rattle.image_model.proofs.SectorLemmas.{number_in-piece, length-bytes_of}
use Rattle.journal_section.specs.Pieces.{with_piece}
use Rattle.journal_section.proofs.PiecesLemmas.{with_piece-outside, number_in-with_piece, number_in-elsewhere}

-- The id of a sector is the number in its last 8 bytes.
pub id_in-sector_in : (bytes : List ℕ) (j : ℕ) → id_in (sector_in bytes j) ≡ number_in bytes (512 * j + 504) 8
unfolding id_in
id_in-sector_in bytes j = number_in-piece bytes 504 8 (512 * j) 512 (omega arith)

-- A sector whose last 8 bytes are the id of its place and a commit number bears that number.
pub commit_number-written : (bytes : List ℕ) (i j number : ℕ) → i < 2 ^ 20 → j < 2 ^ 20 → number < 4
    → number_in bytes (512 * j + 504) 8 ≡ commit_id i j number → commit_number i j (sector_in bytes j) ≡ Some number
commit_number-written bytes i j number low_i low_j low is =
    ap (number_of i j) (id_in-sector_in bytes j ∙ is) ∙ number_of-commit_id i j number low_i low_j low

-- ---- a seal, sector by sector

-- One more sector has its id,
pub ids_more : (old new : List ℕ) (i j number id : ℕ) → 512 * j + 512 ≤ length old → i < 2 ^ 20 → j < 2 ^ 20 → number < 4
    → id ≡ commit_id i j number → new ≡ with_piece (512 * j + 504) (bytes_of id 8) old
    → ((k : ℕ) → k < j → number_in old (512 * k + 504) 8 ≡ commit_id i k number)
    → (k : ℕ) → k < j + 1 → number_in new (512 * k + 504) 8 ≡ commit_id i k number
ids_more old new i j number id fits low_i low_j low is put before k within =
    let at : ℕ = 512 * j + 504 in
    let limit = commit_id-low i j number low_i low_j low in
    let size = length-bytes_of id 8 in
    ap (λ bytes. number_in bytes (512 * k + 504) 8) put ∙ elim (cases_eq k j) [
      | inl same ↦
          let place : 512 * k + 504 ≡ at = omega arith in
          ap (λ a. number_in (with_piece at (bytes_of id 8) old) a 8) place
          ∙ number_in-with_piece at 8 id old (omega arith) (omega arith)
          ∙ is ∙ ap (λ a. commit_id i a number) (sym same)
      | inr other ↦ number_in-elsewhere at (bytes_of id 8) old (512 * k + 504) 8 (omega arith) (inl (omega arith)) ∙ before k (omega arith)
    ]

-- and all else stays.
pub others_stay : (old new : List ℕ) (j id : ℕ) → 512 * j + 512 ≤ length old → new ≡ with_piece (512 * j + 504) (bytes_of id 8) old
    → (at : ℕ) → at % 512 < 504 → slice_index new at ≡ slice_index old at
others_stay old new j id fits put at front =
    let size = length-bytes_of id 8 in
    ap (λ bytes. slice_index bytes at) put ∙ elim (cases_lt at (512 * j + 504)) [
      | inl before ↦ with_piece-outside (512 * j + 504) (bytes_of id 8) old at (omega arith) (inl before)
      | inr behind ↦ with_piece-outside (512 * j + 504) (bytes_of id 8) old at (omega arith) (inr (omega arith))
    ]
