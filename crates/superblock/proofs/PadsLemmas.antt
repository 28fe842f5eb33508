-- Lemmas on the words of specs/Pads.antt.
use Rattle.std.proofs.Common.{◌≡◌, ℕ, ◌+◌, ◌*◌, ◌<◌, ◌≤◌, List, ◌++◌, length, take, slice_index, Ok, ap, refl, ◌∙◌, arith}
use Rattle.image_model.specs.Sectors.{piece, bytes_of}
use Rattle.image_model.specs.Superblock.{Superblock, magic, fields_in, superblock_of, superblock_bytes}
use Rattle.image_model.proofs.SectorLemmas.{bytes_of-number_in, piece-add}
use Rattle.image_model.proofs.SuperblockLemmas.{superblock_told}
use Rattle.superblock.specs.Pads.{with_zero_pads}

-- A byte is written as it is.
bytes_of-byte : (bytes : List ℕ) (at : ℕ) → at < length bytes → ((k : ℕ) → slice_index bytes k < 256)
    → bytes_of (slice_index bytes at) 1 ≡ piece bytes at 1
bytes_of-byte bytes at inside low =
    let alone : slice_index bytes at ≡ slice_index bytes at + 256 * 0 = omega arith in
    ap (λ byte. bytes_of byte 1) alone ∙ bytes_of-number_in bytes at 1 (omega arith) low

-- The bytes before the first pad, field by field.
take-fields : (bytes : List ℕ) → take 30 bytes
    ≡ take 8 bytes ++ piece bytes 8 1 ++ piece bytes 9 1 ++ piece bytes 10 2 ++ piece bytes 12 4
    ++ piece bytes 16 8 ++ piece bytes 24 4 ++ piece bytes 28 1 ++ piece bytes 29 1
take-fields bytes =
    rw (
      piece-add bytes 0 29 1,
      piece-add bytes 0 28 1,
      piece-add bytes 0 24 4,
      piece-add bytes 0 16 8,
      piece-add bytes 0 12 4,
      piece-add bytes 0 10 2,
      piece-add bytes 0 9 1,
      piece-add bytes 0 8 1,
    ) refl

superblock_bytes-fields_in : (bytes : List ℕ) → 64 ≤ length bytes → ((k : ℕ) → slice_index bytes k < 256)
    → take 8 bytes ≡ magic → superblock_bytes (fields_in bytes) ≡ with_zero_pads bytes
unfolding superblock_bytes fields_in
superblock_bytes-fields_in bytes long low known =
    rw (
      take-fields bytes,
      known,
      ← bytes_of-byte bytes 8 (omega arith) low,
      ← bytes_of-byte bytes 9 (omega arith) low,
      ← bytes_of-number_in bytes 10 2 (omega arith) low,
      ← bytes_of-number_in bytes 12 4 (omega arith) low,
      ← bytes_of-number_in bytes 16 8 (omega arith) low,
      ← bytes_of-number_in bytes 24 4 (omega arith) low,
      ← bytes_of-byte bytes 28 (omega arith) low,
      ← bytes_of-byte bytes 29 (omega arith) low,
      ← bytes_of-number_in bytes 32 8 (omega arith) low,
    ) refl

-- ---- for callers

-- Fields that were read are written as they stood, but for the pads.
pub superblock_bytes-read : (bytes : List ℕ) (s : Superblock) → 64 ≤ length bytes
    → ((k : ℕ) → slice_index bytes k < 256) → superblock_of bytes ≡ Ok s
    → superblock_bytes s ≡ with_zero_pads bytes
superblock_bytes-read bytes s long low told =
    let parts = (superblock_told bytes s).0 told in
    ap superblock_bytes parts.1 ∙ superblock_bytes-fields_in bytes long low parts.0
