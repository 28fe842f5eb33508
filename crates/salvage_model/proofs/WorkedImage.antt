-- A salvage of the fresh disk of eight blocks whose journal has no walk, with one bit of block 7 turned over: each block has its
-- line, in order, and one is bad.
use Rattle.std.proofs.Common.{◌≡◌, ℕ, ◌==◌, if◌then◌else◌, true, refl, [], ◌∷◌, replicate}
use Rattle.std.specs.Prelude.{codes, None}
use Rattle.std.specs.Fmt.{digits}
use Rattle.hex.specs.Hex.{encode_with}
use Rattle.sha2.specs.Sha256.{compress, digest_bytes, first_words, hash_after, rounds, schedule, sha256}
use Rattle.disk_model.specs.Disk.{Image}
use Rattle.image_model.specs.Cells.{placed_cells_of}
use Rattle.image_model.specs.Geometry.{bitmap_sectors_for, data_at, entries_per_sector, entry_size, geometry_of, regions_for, section_entries, section_sectors, sector_at, tag_at, tag_offset, tag_run_of}
use Rattle.image_model.specs.Superblock.{fields_in, superblock_of}
use Rattle.image_model.specs.Tag.{tag_message, tag_of}
use Rattle.device_model.specs.Stretches.{stretches_text}
use Rattle.place_model.proofs.WorkedDisk.{zeros_journal}
use Rattle.place_model.specs.Format.{format_on}
use Rattle.salvage_model.specs.Salvaging.{has_bad, salvage_texts}

abbrev turned : Image
turned sector = if sector == 111 then 1 ∷ replicate 511 0 else zeros_journal sector

-- Both tags of block 7 are by Python's `hashlib`.
salvage_texts-turned : (salvage_texts (format_on None 112 turned) turned
    ≡ codes "good 0 00*512\n" ∷ codes "good 1 00*512\n" ∷ codes "good 2 00*512\n" ∷ codes "good 3 00*512\n"
    ∷ codes "good 4 00*512\n" ∷ codes "good 5 00*512\n" ∷ codes "good 6 00*512\n"
    ∷ codes "bad 7 stored 810fdc63cf2ac180f643bed901b234154f15490c5fecff2a1ecb8880e568777a computed a0df18fb9ebe014caf132ae576f3464d788135967b4150cc2545c926fe07b17e 01*1,00*511\n"
    ∷ codes "blocks 8 bad 1\n" ∷ [])
    × (has_bad (format_on None 112 turned) turned ≡ true)
unfolding superblock_of fields_in geometry_of bitmap_sectors_for regions_for placed_cells_of data_at sector_at tag_at tag_offset tag_run_of entry_size entries_per_sector section_entries section_sectors first_words schedule rounds compress hash_after digest_bytes sha256 tag_message tag_of stretches_text encode_with digits
salvage_texts-turned = (refl, refl)
