-- The entries of a small section, by computing: blocks of one sector, and tags of 32 bytes.
use Rattle.std.proofs.Common.{◌≡◌, ℕ, refl, Some, None, List, ◌∷◌, ◌++◌, replicate}
use Rattle.std.specs.List.{repeat}
use Rattle.image_model.specs.Geometry.{Shape, entry_size}
use Rattle.image_model.specs.Section.{is_used, entry_at}

abbrev shape : Shape
shape = record { spb = 1; tag_size = 32 }

-- An unused entry as it is written: `00000000ffffffff`, and zeros up to 48 bytes.
abbrev unused : List ℕ
unused = replicate 4 0 ++ replicate 4 0xff ++ replicate 40 0

-- The entry of block 5 with 512 bytes aa: `0500000000000000`, eight bytes aa, and 32 of a tag.
abbrev used : List ℕ
used = 5 ∷ replicate 7 0 ++ replicate 8 0xaa ++ replicate 32 0x7e

-- A section in its first lap with that entry alone: a metadata sector has 10 entries and 24 zero bytes before its commit
-- id, and the first data sector has the first 504 bytes of the block.
abbrev section : List ℕ
section =
    (used ++ repeat 9 unused ++ replicate 24 0 ++ replicate 8 0x22)
    ++ repeat 7 (repeat 10 unused ++ replicate 24 0 ++ replicate 8 0x22)
    ++ (replicate 504 0xaa ++ 0x2a ∷ replicate 7 0x22)

entry_at-first : entry_at shape section 0 ≡ Some (record { sector = 5; bytes = replicate 512 0xaa; tag = replicate 32 0x7e })
unfolding entry_at is_used entry_size
entry_at-first = refl

-- Entry 8 stands behind it in the same sector, and entry 1 in the next.
entry_at-behind : entry_at shape section 8 ≡ None
unfolding entry_at is_used entry_size
entry_at-behind = refl

entry_at-next : entry_at shape section 1 ≡ None
unfolding entry_at is_used entry_size
entry_at-next = refl

-- The last of its 80 entries.
entry_at-last : entry_at shape section 79 ≡ None
unfolding entry_at is_used entry_size
entry_at-last = refl
