-- What holds of every superblock.
use Rattle.std.specs.Prelude.{◌^◌, ◌<◌, ◌≡◌, ◌↔◌, ℕ, List, ◌++◌, length, take, Ok}
use Rattle.image_model.specs.Superblock.{Superblock, magic, fields_in, superblock_of, superblock_bytes, IsAccepted}

-- The fields on which nothing else is a bound fit their bytes.
pub record FitsBytes (s : Superblock) : Type 0 where
  pub sections : s.sections < 2 ^ 32
  pub flags : s.flags < 2 ^ 32
  pub log2_region : s.log2_region < 2 ^ 8
  pub recalc_sector : s.recalc_sector < 2 ^ 64
  pub salt : length s.salt ≡ 16

-- What was written for accepted fields reads as these fields, whatever bytes follow.
abbrev pub ReadsBackLaw : Type 0
ReadsBackLaw = (s : Superblock) (rest : List ℕ) → IsAccepted s → FitsBytes s → superblock_of (superblock_bytes s ++ rest) ≡ Ok s

-- The fields are told exactly where the magic stands and none of them is refused.
abbrev pub ToldLaw : Type 0
ToldLaw = (bytes : List ℕ) (s : Superblock) → (superblock_of bytes ≡ Ok s) ↔ ((take 8 bytes ≡ magic) × (s ≡ fields_in bytes) × IsAccepted s)

-- The fields take 64 bytes.
abbrev pub WrittenLaw : Type 0
WrittenLaw = (s : Superblock) → FitsBytes s → length (superblock_bytes s) ≡ 64
