-- Values of the definitions, computed: why an image is not opened, of which a bit is set or none, or whose tags are to
-- be recalculated, under a key or without one, with consent or without.
use Rattle.std.proofs.Common.{◌≡◌, ℕ, ◌==◌, true, false, if◌then◌else◌, refl, None, Some, List, [], ◌∷◌, ◌++◌, replicate}
use Rattle.disk_model.specs.Disk.{Image}
use Rattle.image_model.specs.Bitmap.{is_bit_set}
use Rattle.image_model.specs.Geometry.{bitmap_sectors_for, entries_per_sector, entry_size, geometry_of, layout_of, regions_for, section_entries, section_sectors, sector_at, tag_run_of}
use Rattle.image_model.specs.Superblock.{Superblock, fields_in, superblock_of}
use Rattle.judging_model.specs.declared.consent.Consent.TheVariants.{Given, Withheld}
use Rattle.judging_model.specs.Faults.{ByConsent, fault_of, has_dirty_region, lacks_consent}

-- The first sector of an image of 47 blocks of eight sectors on 1024 sectors, with tags of 32 bytes, with these flags.
-- Source: the sizes and places of the superblock's fields, each with its lowest byte first.
abbrev head_with : (flags : ℕ) → List ℕ
head_with flags =
    0x69 ∷ 0x6e ∷ 0x74 ∷ 0x65 ∷ 0x67 ∷ 0x72 ∷ 0x74 ∷ 0x00 ∷ 0x04 ∷ 0x03 ∷ 0x20 ∷ 0x00 ∷ 0x01 ∷ 0x00 ∷ 0x00 ∷ 0x00
    ∷ 0x78 ∷ 0x01 ∷ 0x00 ∷ 0x00 ∷ 0x00 ∷ 0x00 ∷ 0x00 ∷ 0x00 ∷ flags ∷ 0x00 ∷ 0x00 ∷ 0x00 ∷ 0x03 ∷ 0x00 ∷ 0x00 ∷ 0x00
    ∷ replicate 480 0

-- The image with these flags, whose bitmap begins with this byte in sector 8. Its blocks have zeros.
abbrev image_with : (flags byte : ℕ) → Image
image_with flags byte sector =
    if sector == 0 then head_with flags else
    if sector == 8 then byte ∷ replicate 511 0 else replicate 512 0

abbrev fields : Superblock
fields = record {
  version = 4;
  log2_interleave = 3;
  tag_size = 32;
  sections = 1;
  provided = 376;
  flags = 0xc;
  log2_spb = 3;
  log2_region = 0;
  recalc_sector = 0;
  salt = replicate 16 0;
}

abbrev key : List ℕ
key = 0x4a ∷ 0x65 ∷ 0x66 ∷ 0x65 ∷ []

-- ---- a bit is set

-- Cut with the bit of block 0 set, an image has a region whose bit is set,
has_dirty_region-cut : has_dirty_region (layout_of fields) (image_with 0xc 0x01) ≡ true
unfolding is_bit_set bitmap_sectors_for regions_for
has_dirty_region-cut = refl

-- which under a key needs consent.
fault_of-bit_withheld : fault_of (Some key) Withheld 1024 (image_with 0xc 0x01) ≡ Some (ByConsent 0xc)
unfolding superblock_of fields_in geometry_of sector_at tag_run_of bitmap_sectors_for regions_for entry_size entries_per_sector section_entries section_sectors is_bit_set
fault_of-bit_withheld = refl

-- With consent it has no fault, and without a key none either.
fault_of-bit_given : fault_of (Some key) Given 1024 (image_with 0xc 0x01) ≡ None
unfolding superblock_of fields_in geometry_of sector_at tag_run_of bitmap_sectors_for regions_for entry_size entries_per_sector section_entries section_sectors is_bit_set
fault_of-bit_given = refl

fault_of-bit_no_key : fault_of None Withheld 1024 (image_with 0xc 0x01) ≡ None
unfolding superblock_of fields_in geometry_of sector_at tag_run_of bitmap_sectors_for regions_for entry_size entries_per_sector section_entries section_sectors is_bit_set
fault_of-bit_no_key = refl

-- ---- no bit is set

-- Where no bit is set, consent is no question: neither under a key,
fault_of-no_bit : fault_of (Some key) Withheld 1024 (image_with 0xc 0) ≡ None
unfolding superblock_of fields_in geometry_of sector_at tag_run_of bitmap_sectors_for regions_for entry_size entries_per_sector section_entries section_sectors is_bit_set
fault_of-no_bit = refl

-- nor by a bit of no region: the regions have bits 0 to 46, and byte 5 has bit 47 alone.
abbrev behind_all : Image
behind_all sector = if sector == 8 then replicate 5 0 ++ 0x80 ∷ replicate 506 0xff else replicate 512 0

has_dirty_region-behind_all : has_dirty_region (layout_of fields) behind_all ≡ false
unfolding is_bit_set bitmap_sectors_for regions_for
has_dirty_region-behind_all = refl

-- Nor is flag 0x2 beside a bitmap, whatever recalc_sector is: the bits alone decide.
fault_of-bitmap_recalculating : fault_of (Some key) Withheld 1024 (image_with 0xe 0) ≡ None
unfolding superblock_of fields_in geometry_of sector_at tag_run_of bitmap_sectors_for regions_for entry_size entries_per_sector section_entries section_sectors is_bit_set
fault_of-bitmap_recalculating = refl

-- ---- no bitmap

-- Without a bitmap the fields alone decide: under a key consent is asked for where tags are to be recalculated, from sector
-- 0 on here, whatever the journal says: that of this image has no number.
fault_of-journal_recalculating : fault_of (Some key) Withheld 1024 (image_with 0xa 0) ≡ Some (ByConsent 0xa)
unfolding superblock_of fields_in geometry_of sector_at tag_run_of bitmap_sectors_for regions_for entry_size entries_per_sector section_entries section_sectors is_bit_set
fault_of-journal_recalculating = refl

-- ---- consent

-- It is lacking under a key alone, where it is withheld and some region awaits.
lacks_consent-withheld : lacks_consent (Some key) Withheld true ≡ true
lacks_consent-withheld = refl

lacks_consent-none_awaits : lacks_consent (Some key) Withheld false ≡ false
lacks_consent-none_awaits = refl

lacks_consent-given : lacks_consent (Some key) Given true ≡ false
lacks_consent-given = refl

lacks_consent-no_key : lacks_consent None Withheld true ≡ false
lacks_consent-no_key = refl
