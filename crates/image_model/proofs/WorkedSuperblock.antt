-- Values of specs/Superblock.antt from outside: the format's table, images that the kernel made, and the order of
-- faults.
use Rattle.std.proofs.Common.{◌≡◌, ℕ, List, [], ◌∷◌, ◌++◌, replicate, Ok, Err, refl}
use Rattle.image_model.specs.Sectors.{piece}
use Rattle.image_model.specs.Superblock.{Superblock, fields_in, superblock_of, superblock_bytes, version_for}
use Rattle.image_model.specs.declared.super_fields.SuperFault.TheVariants.{Magic, Version, JournalMac, Inline, Flags, Interleave, BlockSize, TagSize, Sections, Provided}
use Rattle.image_model.proofs.WorkedImages.{small, small_bytes, kernel_small, kernel_small_bytes, kernel_straddling, kernel_straddling_bytes, kernel_large_blocks, kernel_large_blocks_bytes}

-- ---- images

-- The bytes of the small image, by the table of the format.
superblock_bytes-small : superblock_bytes small ≡ small_bytes
unfolding superblock_bytes
superblock_bytes-small = refl

-- They are read with the rest of a sector behind them.
superblock_of-small : superblock_of (small_bytes ++ replicate 448 0) ≡ Ok small
unfolding superblock_of fields_in
superblock_of-small = refl

-- The kernel's bytes, and what `integritysetup dump` tells of them.
superblock_of-kernel_small : superblock_of kernel_small_bytes ≡ Ok kernel_small
unfolding superblock_of fields_in
superblock_of-kernel_small = refl

superblock_of-kernel_straddling : superblock_of kernel_straddling_bytes ≡ Ok kernel_straddling
unfolding superblock_of fields_in
superblock_of-kernel_straddling = refl

superblock_of-kernel_large_blocks : superblock_of kernel_large_blocks_bytes ≡ Ok kernel_large_blocks
unfolding superblock_of fields_in
superblock_of-kernel_large_blocks = refl

-- The kernel's own bytes are written again for its fields.
superblock_bytes-kernel_straddling : superblock_bytes kernel_straddling ≡ kernel_straddling_bytes
unfolding superblock_bytes
superblock_bytes-kernel_straddling = refl

superblock_bytes-kernel_large_blocks : superblock_bytes kernel_large_blocks ≡ kernel_large_blocks_bytes
unfolding superblock_bytes
superblock_bytes-kernel_large_blocks = refl

-- A salt of the bytes 0 to 15 stands at byte 48, under version 5 and the flags FIXED_PADDING and FIXED_HMAC.
salt : List ℕ
salt = 0x00 ∷ 0x01 ∷ 0x02 ∷ 0x03 ∷ 0x04 ∷ 0x05 ∷ 0x06 ∷ 0x07 ∷ 0x08 ∷ 0x09 ∷ 0x0a ∷ 0x0b ∷ 0x0c ∷ 0x0d ∷ 0x0e ∷ 0x0f ∷ []

abbrev salted : Superblock
salted = record small { version = version_for 1 0x18; flags = 0x18; salt = salt }

superblock_bytes-salted : (piece (superblock_bytes salted) 8 1 ≡ 5 ∷ []) × (piece (superblock_bytes salted) 24 4 ≡ 0x18 ∷ 0 ∷ 0 ∷ 0 ∷ []) × (piece (superblock_bytes salted) 48 16 ≡ salt)
unfolding superblock_bytes salt
superblock_bytes-salted = (refl, refl, refl)

-- ---- faults: of the small image, with one field changed

-- An image without a sector, and one of zeros.
superblock_of-no_sector : superblock_of [] ≡ Err Magic
unfolding superblock_of fields_in
superblock_of-no_sector = refl

superblock_of-zeros : superblock_of (replicate 512 0) ≡ Err Magic
unfolding superblock_of fields_in
superblock_of-zeros = refl

superblock_of-versions :
    (superblock_of (superblock_bytes (record small { version = 0 })) ≡ Err (Version 0))
    × (superblock_of (superblock_bytes (record small { version = 6 })) ≡ Err (Version 6))
unfolding superblock_of fields_in superblock_bytes
superblock_of-versions = (refl, refl)

-- Of unknown flags the unknown ones alone are told, and of the two that come before them all flags.
superblock_of-flags :
    (superblock_of (superblock_bytes (record small { flags = 0x9 })) ≡ Err (JournalMac 0x9))
    × (superblock_of (superblock_bytes (record small { flags = 0x28 })) ≡ Err (Inline 0x28))
    × (superblock_of (superblock_bytes (record small { flags = 0x48 })) ≡ Err (Flags 0x40))
    × (superblock_of (superblock_bytes (record small { flags = 0x4a })) ≡ Err (Flags 0x40))
unfolding superblock_of fields_in superblock_bytes
superblock_of-flags = (refl, refl, refl, refl)

-- Where tags are still to be written the fields are read like others, with and without a bitmap.
superblock_of-recalculating :
    (superblock_of (superblock_bytes (record small { flags = 0xa })) ≡ Ok (record small { flags = 0xa }))
    × (superblock_of (superblock_bytes (record small { flags = 0xe; recalc_sector = 16 })) ≡ Ok (record small { flags = 0xe; recalc_sector = 16 }))
unfolding superblock_of fields_in superblock_bytes
superblock_of-recalculating = (refl, refl)

superblock_of-sizes :
    (superblock_of (superblock_bytes (record small { log2_interleave = 2 })) ≡ Err (Interleave 2))
    × (superblock_of (superblock_bytes (record small { log2_interleave = 32 })) ≡ Err (Interleave 32))
    × (superblock_of (superblock_bytes (record small { log2_spb = 4 })) ≡ Err (BlockSize 4))
    × (superblock_of (superblock_bytes (record small { tag_size = 0 })) ≡ Err (TagSize 0))
    × (superblock_of (superblock_bytes (record small { tag_size = 33 })) ≡ Err (TagSize 33))
    × (superblock_of (superblock_bytes (record small { sections = 0 })) ≡ Err (Sections 0))
unfolding superblock_of fields_in superblock_bytes
superblock_of-sizes = (refl, refl, refl, refl, refl, refl)

-- No sector, half a block of two sectors, and one sector more than a disk may have.
superblock_of-provided :
    (superblock_of (superblock_bytes (record small { provided = 0 })) ≡ Err (Provided 0))
    × (superblock_of (superblock_bytes (record small { provided = 81; log2_spb = 1 })) ≡ Err (Provided 81))
    × (superblock_of (superblock_bytes (record small { provided = 0x1000000000001 })) ≡ Err (Provided 0x1000000000001))
unfolding superblock_of fields_in superblock_bytes
superblock_of-provided = (refl, refl, refl)

-- ---- versions

-- Each flag asks for a version, the highest first, and a version that was read is kept where it is higher.
version_for-flags :
    (version_for 1 0x18 ≡ 5) × (version_for 1 0x8 ≡ 4) × (version_for 1 0xc ≡ 4) × (version_for 1 0x6 ≡ 3)
    × (version_for 1 0x2 ≡ 2) × (version_for 1 0 ≡ 1) × (version_for 4 0x4 ≡ 4) × (version_for 5 0x8 ≡ 5)
version_for-flags = (refl, refl, refl, refl, refl, refl, refl, refl)
