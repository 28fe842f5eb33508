-- The first sector of a disk that is formatted: what is written to it, and what a cut leaves there.
-- Own: zeros come first, and the superblock last, each between two syncs.
use Rattle.std.specs.Prelude.{◌≡◌, ◌≢◌, ◌⊎◌, ℕ, List, ◌++◌}
use Rattle.disk_model.specs.Disk.{Content, Image, EachImage, last_image, newest_only, with_run}
use Rattle.image_model.specs.Sectors.{zero_bytes}
use Rattle.image_model.specs.Superblock.{Superblock, superblock_bytes}

-- A sector of zeros.
abbrev pub zero_sector : List ℕ
zero_sector = zero_bytes 512

-- The first sector of an image with these fields: zeros are behind them.
abbrev pub head_of : Superblock → List ℕ
head_of s = superblock_bytes s ++ zero_bytes 448

-- The content once the first sector has zeros and nothing else.
abbrev pub forgotten : Content → Content
forgotten content = newest_only (with_run 0 zero_sector content)

-- The content once all is settled, and the first sector has these fields.
abbrev pub founded : Superblock → Content → Content
founded s content = newest_only (with_run 0 (head_of s) (newest_only content))

-- The bytes come to the first sector alone.
abbrev pub IsFirst : List ℕ → (sector : ℕ) → (x : List ℕ) → Type 0
IsFirst bytes sector x = (sector ≡ 0) × (x ≡ bytes)

-- The first sector of an image is zero.
abbrev pub HasZeroHead : Image → Type 0
HasZeroHead image = image 0 ≡ zero_sector

-- The image is the last one at the start, with these fields.
pub record HasHead (s : Superblock) (start : Content) (image : Image) : Type 0 where
  pub head : image 0 ≡ head_of s
  pub others : (sector : ℕ) → sector ≢ 0 → image sector ≡ last_image start sector

-- While the fields come to the first sector: each image has what it had last there, or all that it
-- had last with the fields.
abbrev pub IsAmidFounding : Superblock → (start later : Content) → Type 0
IsAmidFounding s start = EachImage (λ image. (image 0 ≡ last_image start 0) ⊎ HasHead s start image)
