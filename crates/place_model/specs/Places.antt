-- Which sectors a call may write: those of tags, and those of the data of blocks that it writes.
use Rattle.std.specs.Prelude.{◌≡◌, ◌⊎◌, ℕ, ◌+◌, ◌<◌, ◌≤◌, List}
use Rattle.disk_model.specs.Disk.{Content, OnlyAdds}
use Rattle.disk_model.specs.Moments.{EachSince}
use Rattle.image_model.specs.Geometry.{Geometry, data_at}
use Rattle.place_model.specs.Tags.{HoldsTag}

-- The sector is one of the data of this block, which is one of the layout.
pub record IsOfData (g : Geometry) (block sector : ℕ) : Type 0 where
  pub low : block < g.blocks
  pub begins : data_at g block ≤ sector
  pub ends : sector < data_at g block + g.shape.spb

-- It is one of the data of a block that is written.
pub record IsOfWritten (g : Geometry) (IsWritten : ℕ → Type 0) (sector : ℕ) : Type 0 where
  pub block : ℕ
  pub written : IsWritten block
  pub data_ : IsOfData g block sector

-- Bytes may be written to the sector: it has a byte of the tag of some block, or is one of the data of a block
-- that is written.
abbrev pub IsOfPlaces : Geometry → (IsWritten : ℕ → Type 0) → (sector : ℕ) → List ℕ → Type 0
IsOfPlaces g IsWritten sector x = HoldsTag g sector ⊎ IsOfWritten g IsWritten sector

-- The places are as before a call. In it nothing was written but sectors of tags, and those of the data of
-- these blocks.
pub record WritesPlaces (IsWritten : ℕ → Type 0) (old new : Geometry) (before after : List Content)
    : Type 0 where
  pub geometry : new ≡ old
  pub each : EachSince (OnlyAdds (IsOfPlaces old IsWritten)) before after
