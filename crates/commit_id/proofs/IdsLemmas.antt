-- What tells an id, and the number of one.
use Rattle.std.proofs.Common.{◌≡◌, ◌≢◌, inl, inr, ℕ, ◌*◌, ◌%◌, ◌^◌, ◌<◌, bit_xor, sym, ◌∙◌, ap, arith, Some, None}
use Rattle.image_model.specs.CommitId.{pattern_of, commit_id, number_of}
use Rattle.image_model.proofs.CommitIdLemmas.{commit_ids_differ, number_of_tells, number_of-commit_id}
use Rattle.image_model.proofs.NumberLemmas.{cases_option}
use Rattle.commit_id.specs.Ids.{IsIdOfOne}

-- The section's part of an id fits 8 bytes, so that nothing of it is lost.
pub commit_id-computed : (section sector number : ℕ) → section < 2 ^ 20
    → bit_xor (bit_xor (pattern_of number) (section * 2 ^ 32 % 2 ^ 64)) sector ≡ commit_id section sector number
commit_id-computed section sector number low =
    let fits : section * 2 ^ 32 % 2 ^ 64 ≡ section * 2 ^ 32 = omega arith in
    ap (λ high. bit_xor (bit_xor (pattern_of number) high) sector) fits

-- The id of a place and a number is that of no others.
pub id_of_one : (section sector number : ℕ) → section < 2 ^ 20 → sector < 2 ^ 20 → number < 4 → IsIdOfOne section sector number (commit_id section sector number)
id_of_one i j k low_i low_j low other_i other_j other_k low_other_i low_other_j low_other same =
    commit_ids_differ other_i other_j other_k i j k low_other_i low_other_j low_other low_i low_j low same

-- An id has the number whose id it is,
pub number_of-found : (section sector number found : ℕ) → section < 2 ^ 20 → sector < 2 ^ 20 → number < 4
    → commit_id section sector number ≡ found → Some number ≡ number_of section sector found
number_of-found i j k found low_i low_j low is = sym (ap (number_of i j) (sym is) ∙ number_of-commit_id i j k low_i low_j low)

-- and none where it is the id of none.
pub number_of-none : (section sector found : ℕ) → ((k : ℕ) → k < 4 → commit_id section sector k ≢ found) → None ≡ number_of section sector found
number_of-none i j found differs = elim (cases_option (number_of i j found)) [
  | inl none ↦ sym none
  | inr some ↦ let told = number_of_tells i j found some.0 some.1 in absurd (differs some.0 told.0 told.1)
]
