-- Values of specs/NewImage.antt, specs/Bits.antt, specs/Journal.antt and specs/FirstSector.antt from outside: images
-- worked by hand from the formulas of the kernel's documentation.
use Rattle.std.proofs.Common.{◌≡◌, ◌∷◌, replicate, true, false, Some, None, Ok, Err, refl}
use Rattle.image_model.specs.declared.geom_fault.GeomFault.TheVariants.{JournalTooLarge, TooSmall}
use Rattle.image_model.specs.Geometry.{best_provided, best_provided_of, bitmap_sectors_for, entries_per_sector, entry_size, fitting_log2_region, journal_sectors, layout_of, regions_for, section_entries, section_sectors, tag_run_of}
use Rattle.image_model.specs.Superblock.{superblock_bytes}
use Rattle.image_model.specs.declared.new_image.ImageMode.TheVariants.{Journal, Bitmap}
use Rattle.formatting_model.specs.declared.new_image.NewImage.{NewImage}
use Rattle.image_model.specs.declared.new_image.Padding.TheVariants.{Fixed, Legacy}
use Rattle.image_model.specs.declared.new_image.Wipe.TheVariants.{Wiped, Recalculated}
use Rattle.formatting_model.specs.Bits.{bits_byte}
use Rattle.formatting_model.specs.FirstSector.{head_of}
use Rattle.formatting_model.specs.Journal.{bitmap_taken}
use Rattle.formatting_model.specs.NewImage.{fields_of, provided_of}

-- The small image: interleave 8, one section, tags of 32 bytes.
small : NewImage
small = record {
  tag_size = 32;
  log2_spb = 0;
  log2_interleave = 3;
  mode = Journal;
  sections = 1;
  log2_region = 15;
  salt = None;
  padding = Fixed;
  wipe = Wiped;
}

-- ---- how many sectors are provided

provided_of-small : (provided_of small 256 ≡ Ok 80) × (provided_of small 112 ≡ Ok 8) × (provided_of small 111 ≡ Err (TooSmall 111 112))
unfolding best_provided_of best_provided section_sectors section_entries entries_per_sector entry_size tag_run_of small
provided_of-small = (refl, refl, refl)

-- Tags of 4 bytes; one area, which is cut short; tags that straddle two sectors; blocks of 4096 bytes.
provided_of-changed :
    (provided_of (record small { tag_size = 4 }) 256 ≡ Ok 32)
    × (provided_of (record small { log2_interleave = 15 }) 4096 ≡ Ok 1952)
    × (provided_of (record small { tag_size = 20; log2_interleave = 5 }) 512 ≡ Ok 320)
    × (provided_of (record small { log2_spb = 3 }) 1024 ≡ Ok 376)
unfolding best_provided_of best_provided section_sectors section_entries entries_per_sector entry_size tag_run_of small
provided_of-changed = (refl, refl, refl, refl)

-- The tags of an area take 256 sectors without the flag; 65537 sections have 88 sectors each.
provided_of-refused :
    (provided_of (record small { padding = Legacy }) 256 ≡ Err (TooSmall 256 360))
    × (provided_of (record small { sections = 65537 }) 256 ≡ Err (JournalTooLarge 5767256))
unfolding best_provided_of best_provided section_sectors section_entries entries_per_sector entry_size tag_run_of small
provided_of-refused = (refl, refl)

-- ---- the fields

-- A region of one block has its bit in a journal of 88 sectors, unless there are more than 360448 blocks.
fields_of-region :
    ((fields_of (record small { log2_region = 0 }) 80).log2_region ≡ 0)
    × ((fields_of (record small { log2_region = 0 }) 360448).log2_region ≡ 0)
    × ((fields_of (record small { log2_region = 0 }) 360456).log2_region ≡ 1)
unfolding fitting_log2_region bitmap_sectors_for regions_for section_sectors section_entries entries_per_sector entry_size small
fields_of-region = (refl, refl, refl)

-- A salt raises the version, and what else is not fixed lowers it.
fields_of-version :
    ((fields_of small 80).version ≡ 4) × ((fields_of small 80).flags ≡ 0x8)
    × ((fields_of (record small { salt = Some (replicate 16 7) }) 80).version ≡ 5)
    × ((fields_of (record small { salt = Some (replicate 16 7) }) 80).flags ≡ 0x18)
    × ((fields_of (record small { padding = Legacy }) 80).version ≡ 1)
unfolding small
fields_of-version = (refl, refl, refl, refl, refl)

-- A bitmap has a flag, which raises the version alone; nothing else is another.
fields_of-bitmap :
    ((fields_of (record small { mode = Bitmap }) 80).version ≡ 4) × ((fields_of (record small { mode = Bitmap }) 80).flags ≡ 0xc)
    × ((fields_of (record small { mode = Bitmap; padding = Legacy }) 80).version ≡ 3)
    × ((fields_of (record small { mode = Bitmap; padding = Legacy }) 80).flags ≡ 0x4)
    × ((fields_of (record small { mode = Bitmap; salt = Some (replicate 16 7) }) 80).flags ≡ 0x1c)
unfolding small
fields_of-bitmap = (refl, refl, refl, refl, refl)

-- So has what is to be recalculated, which is so from the first sector on, with a journal and with a bitmap.
fields_of-recalculated :
    ((fields_of (record small { wipe = Recalculated }) 80).version ≡ 4) × ((fields_of (record small { wipe = Recalculated }) 80).flags ≡ 0xa)
    × ((fields_of (record small { wipe = Recalculated }) 80).recalc_sector ≡ 0)
    × ((fields_of (record small { wipe = Recalculated; padding = Legacy }) 80).version ≡ 2)
    × ((fields_of (record small { wipe = Recalculated; padding = Legacy }) 80).flags ≡ 0x2)
    × ((fields_of (record small { wipe = Recalculated; mode = Bitmap }) 80).version ≡ 4)
    × ((fields_of (record small { wipe = Recalculated; mode = Bitmap }) 80).flags ≡ 0xe)
unfolding small
fields_of-recalculated = (refl, refl, refl, refl, refl, refl, refl)

-- Of 47 regions bits 0 to 46 are set: five bytes, and seven bits of the next one. Of none no bit is.
bits_byte-regions :
    (bits_byte 47 0 ≡ 0xff) × (bits_byte 47 4 ≡ 0xff) × (bits_byte 47 5 ≡ 0x7f) × (bits_byte 47 6 ≡ 0)
    × (bits_byte 1 0 ≡ 1) × (bits_byte 80 9 ≡ 0xff) × (bits_byte 80 10 ≡ 0) × (bits_byte 0 0 ≡ 0)
bits_byte-regions = (refl, refl, refl, refl, refl, refl, refl, refl)

-- Its regions are raised where the bitmap does not fit the journal of 88 sectors.
fields_of-raised :
    ((fields_of (record small { mode = Bitmap; log2_region = 0 }) 360448).log2_region ≡ 0)
    × ((fields_of (record small { mode = Bitmap; log2_region = 0 }) 360456).log2_region ≡ 1)
unfolding fitting_log2_region bitmap_sectors_for regions_for section_sectors section_entries entries_per_sector entry_size small
fields_of-raised = (refl, refl)

-- It provides as much, and is refused as the image with a journal is.
provided_of-bitmap :
    (provided_of (record small { mode = Bitmap }) 256 ≡ Ok 80)
    × (provided_of (record small { mode = Bitmap; padding = Legacy }) 256 ≡ Err (TooSmall 256 360))
    × (provided_of (record small { mode = Bitmap; sections = 65537 }) 256 ≡ Err (JournalTooLarge 5767256))
unfolding best_provided_of best_provided section_sectors section_entries entries_per_sector entry_size tag_run_of small
provided_of-bitmap = (refl, refl, refl)

-- The bitmap of 47 blocks of 4096 bytes, each a region, takes 8 sectors of the journal's 264.
bitmap : NewImage
bitmap = record small { mode = Bitmap; log2_spb = 3; log2_region = 0 }

bitmap_taken-blocks :
    (provided_of bitmap 1024 ≡ Ok 376)
    × (bitmap_taken true (layout_of (fields_of bitmap 376)) ≡ 8)
    × (bitmap_taken false (layout_of (fields_of bitmap 376)) ≡ 0)
    × (journal_sectors (layout_of (fields_of bitmap 376)) ≡ 264)
unfolding best_provided_of best_provided fitting_log2_region bitmap_sectors_for regions_for section_sectors section_entries entries_per_sector entry_size tag_run_of small bitmap
bitmap_taken-blocks = (refl, refl, refl, refl)

-- The first sector of that image.
head_of-bitmap : head_of (fields_of bitmap 376) ≡
    0x69 ∷ 0x6e ∷ 0x74 ∷ 0x65 ∷ 0x67 ∷ 0x72 ∷ 0x74 ∷ 0x00 ∷ 0x04 ∷ 0x03 ∷ 0x20 ∷ 0x00 ∷ 0x01 ∷ 0x00 ∷ 0x00 ∷ 0x00
    ∷ 0x78 ∷ 0x01 ∷ 0x00 ∷ 0x00 ∷ 0x00 ∷ 0x00 ∷ 0x00 ∷ 0x00 ∷ 0x0c ∷ 0x00 ∷ 0x00 ∷ 0x00 ∷ 0x03 ∷ 0x00 ∷ 0x00 ∷ 0x00
    ∷ replicate 480 0
unfolding superblock_bytes fitting_log2_region bitmap_sectors_for regions_for section_sectors section_entries entries_per_sector entry_size small bitmap
head_of-bitmap = refl

-- The first sector of the small image, as integritysetup writes it.
head_of-small : head_of (fields_of small 80) ≡
    0x69 ∷ 0x6e ∷ 0x74 ∷ 0x65 ∷ 0x67 ∷ 0x72 ∷ 0x74 ∷ 0x00 ∷ 0x04 ∷ 0x03 ∷ 0x20 ∷ 0x00 ∷ 0x01 ∷ 0x00 ∷ 0x00 ∷ 0x00
    ∷ 0x50 ∷ 0x00 ∷ 0x00 ∷ 0x00 ∷ 0x00 ∷ 0x00 ∷ 0x00 ∷ 0x00 ∷ 0x08 ∷ 0x00 ∷ 0x00 ∷ 0x00 ∷ 0x00 ∷ 0x0f ∷ 0x00 ∷ 0x00
    ∷ replicate 480 0
unfolding superblock_bytes fitting_log2_region bitmap_sectors_for regions_for section_sectors section_entries entries_per_sector entry_size small
head_of-small = refl
