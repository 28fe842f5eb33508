-- What holds of the id of one place and one commit number.
use Rattle.std.specs.Prelude.{◌≡◌, ℕ, ◌^◌, ◌<◌}
use Rattle.image_model.specs.CommitId.{commit_id}

-- Of all places and numbers this one alone has the id.
abbrev pub IsIdOfOne : ℕ → ℕ → ℕ → ℕ → Type 0
IsIdOfOne section sector number id =
    (other_section other_sector other_number : ℕ)
    → other_section < 2 ^ 20 → other_sector < 2 ^ 20 → other_number < 4
    → commit_id other_section other_sector other_number ≡ id
    → (other_section ≡ section) × (other_sector ≡ sector) × (other_number ≡ number)
