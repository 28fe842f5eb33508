-- The bytes of an image, and the numbers that stand in them.
-- Own: a byte is a number below 256, and a sector has 512 of them.
use Rattle.std.specs.Prelude.{ℕ, zero, suc, List, [], ◌++◌, take, drop, replicate}
use Rattle.byteorder.specs.Endian.{little_from, little_bytes}
use Rattle.disk_model.specs.Disk.{Image}

-- So many bytes from byte `from` on.
abbrev pub piece : List ℕ → ℕ → ℕ → List ℕ
piece bytes from size = take size (drop from bytes)

-- The number in so many bytes from byte `from` on, the lowest byte first.
-- Source: Linux, drivers/md/dm-integrity.c, where each number on disk is __le16, __le32 or __le64.
abbrev pub number_in : List ℕ → ℕ → ℕ → ℕ
number_in bytes from size = little_from from size bytes

-- The lowest bytes of a number, so many of them, the lowest first.
abbrev pub bytes_of : ℕ → ℕ → List ℕ
bytes_of number size = little_bytes size number

-- So many zero bytes.
abbrev pub zero_bytes : ℕ → List ℕ
zero_bytes count = replicate count 0

-- The bytes of `count` sectors of an image, from sector `at` on.
abbrev pub bytes_at : Image → ℕ → ℕ → List ℕ
bytes_at image at zero = []
bytes_at image at (suc count) = image at ++ bytes_at image (suc at) count
