-- The bytes that a formatting leaves as they were, also in sectors of tags.
-- Own: what is behind the tags of an area stays.
use Rattle.std.specs.Prelude.{◌≡◌, ◌⊎◌, ℕ, ◌+◌, ◌*◌, ◌<◌, ◌≤◌, List, slice_index}
use Rattle.disk_model.specs.Disk.{Content, Image, last_image}
use Rattle.disk_model.specs.Moments.{HasNow}
use Rattle.image_model.specs.Geometry.{Geometry, data_at}
use Rattle.place_model.specs.Tags.{tag_byte_at}
use Rattle.formatting_model.specs.Blocks.{IsBlockOf}

-- The byte of the sector is one of so many from the beginning of sector `at` on.
pub record IsRunByte (at size sector byte : ℕ) : Type 0 where
  pub begins : 512 * at ≤ 512 * sector + byte
  pub ends : 512 * sector + byte < 512 * at + size

-- It is of the data of one of these blocks, or of its tag.
pub record IsBlockByte (g : Geometry) (first count sector byte : ℕ) : Type 0 where
  pub block : ℕ
  pub is_block : IsBlockOf first count block
  pub at : ((k : ℕ) × (k < g.shape.spb) × (sector ≡ data_at g block + k))
      ⊎ ((i : ℕ) × (i < g.shape.tag_size) × (sector ≡ (tag_byte_at g block i).sector)
      × (byte ≡ (tag_byte_at g block i).byte))

-- Each byte but these is as it was.
abbrev pub KeepsBytes : (ℕ → ℕ → Type 0) → (before after : Image) → Type 0
KeepsBytes B before after = (sector byte : ℕ) → byte < 512 → (B sector byte → ⊥)
    → slice_index (after sector) byte ≡ slice_index (before sector) byte

-- The same of what reads give before and after a call.
abbrev pub ReadsKeep : (ℕ → ℕ → Type 0) → (before after : List Content) → Type 0
ReadsKeep B before after =
    HasNow (λ start. HasNow (λ c. KeepsBytes B (last_image start) (last_image c)) after) before
