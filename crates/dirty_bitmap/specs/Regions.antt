-- What a contract sees of a set of regions, and how it stands in memory.
-- Own: in memory it stands as its bitmap does on a disk.
use Rattle.std.specs.Prelude.{◌≡◌, ◌≢◌, ℕ, ◌+◌, ◌-◌, ◌*◌, ◌^◌, ◌<◌, ◌≤◌, Bool, false, List, length, find, Option}
use Rattle.std.specs.List.{count_by, range_with_len}
use Rattle.disk_model.specs.Disk.{Content, last_image, sector_in}
use Rattle.image_model.specs.Bitmap.{is_bit_set}
use Rattle.image_model.specs.Geometry.{quotient_up}

-- How many regions there are, and the bytes of their bitmap.
pub record Regions : Type 0 where
  pub size : ℕ
  pub bytes : List ℕ

-- Which regions are in the set.
abbrev pub has_region : Regions → ℕ → Bool
has_region s = is_bit_set s.bytes

-- The sectors of a bitmap of so many regions, in groups of 4096 bytes. Source: BITMAP_BLOCK_SIZE.
abbrev pub set_sectors : ℕ → ℕ
set_sectors size = 8 * quotient_up size 32768

-- The bytes are a bitmap of so many regions, in which bits of no region are clear.
pub record IsBitmap (size : ℕ) (bytes : List ℕ) : Type 0 where
  pub few : size ≤ 2 ^ 48
  pub whole : length bytes ≡ 512 * set_sectors size
  pub unused : (region : ℕ) → size ≤ region → is_bit_set bytes region ≡ false

-- The bytes of sector k of its bitmap.
abbrev pub sector_of : Regions → (k : ℕ) → List ℕ
sector_of s k = sector_in s.bytes k

-- The bytes are sector k of the set's bitmap, which holds the bits of 4096 regions. Bits of no region are clear.
pub record IsSectorOf (s : Regions) (k : ℕ) (bytes : List ℕ) : Type 0 where
  pub whole : length bytes ≡ 512
  pub each : (region : ℕ) → region < s.size → 4096 * k ≤ region → region < 4096 * k + 4096
      → is_bit_set bytes (region - 4096 * k) ≡ has_region s region
  pub unused : (region : ℕ) → s.size ≤ region → 4096 * k ≤ region → region < 4096 * k + 4096
      → is_bit_set bytes (region - 4096 * k) ≡ false

-- Of each sector but one reads give what they gave.
abbrev pub KeepsBut : ℕ → Content → Content → Type 0
KeepsBut at old new = (sector : ℕ) → sector ≢ at → last_image new sector ≡ last_image old sector

-- The least region in the set that is not below `from`.
abbrev pub next_in : Regions → ℕ → Option ℕ
next_in s from = find (has_region s) (range_with_len from (s.size - from))

-- How many regions are in the set.
abbrev pub count_in : Regions → ℕ
count_in s = count_by (has_region s) (range_with_len 0 s.size)
