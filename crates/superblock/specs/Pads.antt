-- The pads of a superblock.
use Rattle.std.specs.Prelude.{ℕ, List, ◌++◌, take}
use Rattle.image_model.specs.Sectors.{piece, zero_bytes}

-- The bytes 0 to 63 of a sector, with zeros in the pads: in two bytes from byte 30 on, and in eight from
-- byte 40 on.
-- Source: Linux, drivers/md/dm-integrity.c, struct superblock.
abbrev pub with_zero_pads : List ℕ → List ℕ
with_zero_pads bytes =
    take 30 bytes ++ zero_bytes 2 ++ piece bytes 32 8 ++ zero_bytes 8 ++ piece bytes 48 16
