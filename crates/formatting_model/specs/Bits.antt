-- The bitmap of a new image: its first bits are set, and no other.
-- Source: Linux, drivers/md/dm-integrity.c, block_bitmap_op. Own: which bits are set.
use Rattle.std.specs.Prelude.{◌≡◌, ℕ, ◌+◌, ◌-◌, ◌*◌, ◌/◌, ◌%◌, ◌^◌, ◌<◌, ◌≤◌, min, List, length, slice_index}
use Rattle.disk_model.specs.Disk.{Image}

-- Byte p of a bitmap whose first bits are set, so many, and no other.
abbrev pub bits_byte : (set p : ℕ) → ℕ
bits_byte set p = 2 ^ min 8 (set - 8 * p) - 1

-- The bytes are those from byte `from` on.
abbrev pub HoldsBits : (set from : ℕ) → List ℕ → Type 0
HoldsBits set from bytes = (i : ℕ) → i < length bytes → slice_index bytes i ≡ bits_byte set (from + i)

-- So many sectors of an image from sector `at` on are whole, and have such a bitmap.
pub record HasBits (set at count : ℕ) (image : Image) : Type 0 where
  pub size : (k : ℕ) → k < count → length (image (at + k)) ≡ 512
  pub each : (p : ℕ) → p < 512 * count → slice_index (image (at + p / 512)) (p % 512) ≡ bits_byte set p

-- The bytes are whole sectors, at least one, of a section at most.
pub record IsWhole (bytes : List ℕ) : Type 0 where
  pub sectors : ℕ
  pub some : 1 ≤ sectors
  pub few : sectors ≤ 2 ^ 20
  pub is : length bytes ≡ 512 * sectors
