-- Runs of sectors that a formatting writes.
-- Own: all that is written between the first and the last sync.
use Rattle.std.specs.Prelude.{◌≡◌, ℕ, ◌*◌, ◌+◌, ◌<◌, ◌≤◌, List}
use Rattle.disk_model.specs.Disk.{Content, Image}
use Rattle.image_model.specs.Sectors.{zero_bytes}
use Rattle.formatting_model.specs.FirstSector.{zero_sector}

-- Whole sectors of zeros, at least one.
pub record IsZeroRun (bytes : List ℕ) : Type 0 where
  pub sectors : ℕ
  pub some : 1 ≤ sectors
  pub is : bytes ≡ zero_bytes (512 * sectors)

-- So many sectors from sector `at` on are zero.
abbrev pub HasZeros : ℕ → ℕ → Image → Type 0
HasZeros at count image = (k : ℕ) → k < count → image (at + k) ≡ zero_sector

-- The candidates of all other sectors than these are as they were.
pub record ChangesOnly (S : ℕ → Type 0) (start later : Content) : Type 0 where
  pub others : (sector : ℕ) → (S sector → ⊥) → later sector ≡ start sector
