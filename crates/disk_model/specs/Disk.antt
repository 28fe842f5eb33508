-- A disk as lists of candidates, and what its calls do to them.
-- Own: sectors of 512 bytes are written whole, in any order, and a sync that succeeds settles them.
use Rattle.std.specs.Prelude.{◌≡◌, ◌⊎◌, ℕ, Bool, ◌+◌, ◌-◌, ◌*◌, ◌/◌, ◌<◌, ◌≤◌, List, [], ◌∷◌, ◌++◌, length, take, drop, if◌then◌else◌, nat_le, nat_lt, ◌&&◌}
use Rattle.std.specs.List.{Contains}

-- For each sector its candidates, as lists of bytes. A read gives the last one.
abbrev pub Content : Type 0
Content = ℕ → List (List ℕ)

-- What a cut may leave: for each sector its bytes.
abbrev pub Image : Type 0
Image = ℕ → List ℕ

-- An image takes one candidate of each sector.
abbrev pub IsImage : Content → Image → Type 0
IsImage content image = (sector : ℕ) → Contains (content sector) (image sector)

-- P of every image that a cut may leave.
abbrev pub EachImage : (Image → Type 0) → Content → Type 0
EachImage P content = (image : Image) → IsImage content image → P image

-- The last of some candidates, and no bytes where there are none.
abbrev pub last_candidate : List (List ℕ) → List ℕ
last_candidate [] = []
last_candidate (x ∷ []) = x
last_candidate (x ∷ y ∷ xs) = last_candidate (y ∷ xs)

-- The image of the last candidates, which is what reads give.
abbrev pub last_image : Content → Image
last_image content sector = last_candidate (content sector)

-- Sector k of some bytes, counted from 0.
abbrev pub sector_in : List ℕ → ℕ → List ℕ
sector_in bytes k = take 512 (drop (512 * k) bytes)

-- So many bytes from sector `at` on are whole sectors, at least one, on a disk of so many sectors.
pub record IsRun (at bytes sectors : ℕ) : Type 0 where
  pub whole : bytes ≡ 512 * (bytes / 512)
  pub some : 1 ≤ bytes / 512
  pub inside : at + bytes / 512 ≤ sectors

-- The bytes are what a read gives of the sectors from `at` on.
abbrev pub Reads : ℕ → List ℕ → Content → Type 0
Reads at bytes content = (k : ℕ) → k < length bytes / 512 → sector_in bytes k ≡ last_image content (at + k)

-- The sector is one of those `count` from `at` on.
abbrev pub is_within : ℕ → ℕ → ℕ → Bool
is_within at count sector = nat_le at sector && nat_lt sector (at + count)

-- The first `count` sectors of the bytes become candidates of the sectors from `at` on.
abbrev pub with_sectors : ℕ → ℕ → List ℕ → Content → Content
with_sectors count at bytes content sector =
    if is_within at count sector then content sector ++ sector_in bytes (sector - at) ∷ [] else content sector

-- All sectors of the bytes do.
abbrev pub with_run : ℕ → List ℕ → Content → Content
with_run at bytes content = with_sectors (length bytes / 512) at bytes content

-- Any of the run's sectors have become candidates: each sector is as before, or as the whole write leaves it.
abbrev pub AddsSome : ℕ → List ℕ → Content → Content → Type 0
AddsSome at bytes old new = (sector : ℕ) → (new sector ≡ old sector) ⊎ (new sector ≡ with_run at bytes old sector)

-- Of each sector the last candidate alone is left.
abbrev pub newest_only : Content → Content
newest_only content sector = last_candidate (content sector) ∷ []

-- Nothing is pending: each candidate is what a read gives.
pub record HasNothingPending (content : Content) : Type 0 where
  pub only : (sector : ℕ) (x : List ℕ) → Contains (content sector) x → x ≡ last_image content sector

-- Each candidate of the new content was one of the old, or is one that W allows at its sector.
pub record OnlyAdds (W : ℕ → List ℕ → Type 0) (old new : Content) : Type 0 where
  pub among : (sector : ℕ) (x : List ℕ) → Contains (new sector) x → Contains (old sector) x ⊎ W sector x

-- The candidate that a write of these bytes from `at` on brings to a sector.
pub record IsOfRun (at : ℕ) (bytes : List ℕ) (sector : ℕ) (x : List ℕ) : Type 0 where
  pub begins : at ≤ sector
  pub ends : sector < at + length bytes / 512
  pub is : x ≡ sector_in bytes (sector - at)
