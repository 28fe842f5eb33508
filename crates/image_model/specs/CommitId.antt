-- The commit id that marks a sector of the journal, and the commit number that a sector bears.
use Rattle.std.specs.Prelude.{◌≡◌, ◌↔◌, ℕ, ◌+◌, ◌*◌, ◌^◌, ◌<◌, ◌==◌, bit_xor, List, [], ◌∷◌, find, Option, Some}
use Rattle.image_model.specs.Sectors.{number_in}

-- The bits that stand for a commit number: 1 to 4 in each half byte.
-- Source: Linux, drivers/md/dm-integrity.c, create_journal.
abbrev pub pattern_of : ℕ → ℕ
pattern_of number = 0x1111_1111_1111_1111 * (number + 1)

-- The id under which a sector of a section counts as written with this commit number.
-- Source: Linux, drivers/md/dm-integrity.c, dm_integrity_commit_id.
abbrev pub commit_id : ℕ → ℕ → ℕ → ℕ
commit_id section sector number = bit_xor (bit_xor (pattern_of number) (section * 2 ^ 32)) sector

-- The commit numbers.
-- Source: Linux, drivers/md/dm-integrity.c, N_COMMIT_IDS.
abbrev pub commit_numbers : List ℕ
commit_numbers = 0 ∷ 1 ∷ 2 ∷ 3 ∷ []

-- The commit number whose id at this place is this one, and none where there is no such number.
unfoldable pub number_of : ℕ → ℕ → ℕ → Option ℕ
number_of section sector id = find (λ number. commit_id section sector number == id) commit_numbers

-- What stands in the place of a sector's commit id: its last 8 bytes, the lowest first.
-- Source: Linux, drivers/md/dm-integrity.c, struct journal_sector.
unfoldable pub id_in : List ℕ → ℕ
id_in bytes = number_in bytes 504 8

-- The commit number that the bytes of a sector bear, if they bear one.
abbrev pub commit_number : ℕ → ℕ → List ℕ → Option ℕ
commit_number section sector bytes = number_of section sector (id_in bytes)

-- The number of an id is the one whose id it is.
abbrev pub CommitNumberLaw : Type 0
CommitNumberLaw = (section sector id number : ℕ) → section < 2 ^ 20 → sector < 2 ^ 20
    → (number_of section sector id ≡ Some number) ↔ ((number < 4) × (commit_id section sector number ≡ id))

-- Ids of different places or numbers differ.
abbrev pub CommitIdsDiffer : Type 0
CommitIdsDiffer = (section sector number other_section other_sector other_number : ℕ)
    → section < 2 ^ 20 → sector < 2 ^ 20 → number < 4
    → other_section < 2 ^ 20 → other_sector < 2 ^ 20 → other_number < 4
    → commit_id section sector number ≡ commit_id other_section other_sector other_number
    → (section ≡ other_section) × (sector ≡ other_sector) × (number ≡ other_number)
