-- What is told of a disk of eight blocks whose journal has no walk, with one bit of block 7 turned over: by computing.
use Rattle.std.proofs.Common.{◌≡◌, ℕ, ◌==◌, if◌then◌else◌, false, refl, Some, None, [], ◌∷◌, replicate}
use Rattle.disk_model.specs.Disk.{Image}
use Rattle.image_model.specs.Cells.{placed_cells_of}
use Rattle.image_model.specs.Geometry.{bitmap_sectors_for, data_at, entries_per_sector, entry_size, geometry_of, layout_of, regions_for, section_entries, section_sectors, sector_at, tag_at, tag_offset, tag_run_of}
use Rattle.image_model.specs.Openable.{first_sector}
use Rattle.image_model.specs.Superblock.{fields_in, superblock_of}
use Rattle.image_model.specs.Tag.{tag_message, tag_of}
use Rattle.image_model.specs.declared.super_fields.SuperFault.TheVariants.{Magic}
use Rattle.sha2.specs.Sha256.{compress, digest_bytes, first_words, hash_after, rounds, schedule, sha256}
use Rattle.device_model.specs.Refusals.{BySuperblock}
use Rattle.image_refusal.specs.declared.call_fault.CallFault.TheVariants.{Disk, Memory, Refused}
use Rattle.image_refusal.specs.declared.open_fault.HeadFault.TheVariants.{Super}
use Rattle.place_model.proofs.WorkedDisk.{zeros_journal}
use Rattle.place_model.specs.Refusals.{read_fault_of}
use Rattle.salvage_model.specs.Verdicts.{is_good}
use Rattle.image_salvage.specs.declared.verdict.Verdict.{Verdict}
use Rattle.image_salvage.specs.Refusing.{refusal_of}
use Rattle.image_salvage.specs.Salvaged.{Salvaged, block_size, blocks_of}
use Rattle.image_salvage.specs.Telling.{as_verdict, bytes_next, told_behind, verdict_next}

-- Block 7 has sector 111.
abbrev turned : Image
turned sector = if sector == 111 then 1 ∷ replicate 511 0 else zeros_journal sector

-- What is kept of it where so many blocks were told: nothing was read yet.
abbrev salvaged : ℕ → Salvaged
salvaged told = record {
  format = record { fields = fields_in (first_sector 112 turned); geometry = layout_of (fields_in (first_sector 112 turned)) };
  rule = record { key = None; salt = None; size = 32 };
  told = told;
  tags = record { room = 129; first = 0; bytes = [] };
  blocks = record { room = 512; first = 0; bytes = [] };
}

blocks_of-turned : (blocks_of (salvaged 0) ≡ 8) × (block_size (salvaged 0) ≡ 512)
unfolding fields_in
blocks_of-turned = (refl, refl)

-- Its tags: that of zeros is stored, and both are by Python's `hashlib`.
abbrev bad : Verdict
bad = record {
  block = 7;
  stored =
      0x81 ∷ 0x0f ∷ 0xdc ∷ 0x63 ∷ 0xcf ∷ 0x2a ∷ 0xc1 ∷ 0x80 ∷ 0xf6 ∷ 0x43 ∷ 0xbe ∷ 0xd9 ∷ 0x01 ∷ 0xb2 ∷ 0x34 ∷ 0x15
      ∷ 0x4f ∷ 0x15 ∷ 0x49 ∷ 0x0c ∷ 0x5f ∷ 0xec ∷ 0xff ∷ 0x2a ∷ 0x1e ∷ 0xcb ∷ 0x88 ∷ 0x80 ∷ 0xe5 ∷ 0x68 ∷ 0x77 ∷ 0x7a ∷ [];
  computed =
      0xa0 ∷ 0xdf ∷ 0x18 ∷ 0xfb ∷ 0x9e ∷ 0xbe ∷ 0x01 ∷ 0x4c ∷ 0xaf ∷ 0x13 ∷ 0x2a ∷ 0xe5 ∷ 0x76 ∷ 0xf3 ∷ 0x46 ∷ 0x4d
      ∷ 0x78 ∷ 0x81 ∷ 0x35 ∷ 0x96 ∷ 0x7b ∷ 0x41 ∷ 0x50 ∷ 0xcc ∷ 0x25 ∷ 0x45 ∷ 0xc9 ∷ 0x26 ∷ 0xfe ∷ 0x07 ∷ 0xb1 ∷ 0x7e ∷ [];
}

is_good-bad : is_good (as_verdict bad) ≡ false
is_good-bad = refl

-- The last block is told with its bytes,
verdict_next-last : verdict_next (salvaged 7) 112 turned ≡ Some (as_verdict bad)
unfolding fields_in geometry_of bitmap_sectors_for regions_for placed_cells_of data_at sector_at tag_at tag_offset tag_run_of entry_size entries_per_sector section_entries section_sectors first_words schedule rounds compress hash_after digest_bytes sha256 tag_message tag_of
verdict_next-last = refl

bytes_next-last : bytes_next (salvaged 7) 112 turned ≡ 1 ∷ replicate 511 0
unfolding fields_in placed_cells_of data_at sector_at tag_at tag_offset tag_run_of entry_size entries_per_sector section_entries section_sectors
bytes_next-last = refl

-- and behind it none is.
verdict_next-none : verdict_next (salvaged 8) 112 turned ≡ None
unfolding fields_in
verdict_next-none = refl

told_behind-both : (told_behind (Some bad) 7 ≡ 8) × (told_behind None 8 ≡ 8)
told_behind-both = (refl, refl)

-- A disk without a magic is refused for that, and neither memory nor the disk is a fault of an image.
refusal_of-magic : (read_fault_of 112 (λ (sector : ℕ). replicate 512 0) ≡ Some (BySuperblock Magic)) × (refusal_of (Refused (Super Magic)) ≡ Some (BySuperblock Magic))
unfolding superblock_of
refusal_of-magic = (refl, refl)

refusal_of-none : (refusal_of Memory ≡ None) × (refusal_of Disk ≡ None)
refusal_of-none = (refl, refl)
