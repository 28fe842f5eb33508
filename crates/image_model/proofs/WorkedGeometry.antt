-- Values of specs/Geometry.antt from outside: images that the kernel made, and images worked by hand from the formulas of
-- the kernel's documentation.
use Rattle.std.proofs.Common.{◌≡◌, Ok, Err, refl}
use Rattle.image_model.specs.Superblock.{Superblock}
use Rattle.image_model.specs.Geometry.{Shape, entry_size, entries_per_sector, section_entries, section_sectors, tag_run_of, layout_of, section_at, journal_sectors, initial, sector_at, data_at, tag_offset, tag_at, region_of, regions, regions_for, bitmap_sectors_for, fitting_log2_region, geometry_of, best_provided, best_provided_of, byte_place}
use Rattle.image_model.specs.declared.geom_fault.GeomFault.TheVariants.{JournalTooLarge, DeviceTooLarge, TooSmall, BitmapTooLarge}
use Rattle.image_model.proofs.WorkedImages.{small, kernel_straddling, kernel_large_blocks, kernel_oldest}

-- ---- the small image: 256 sectors, interleave 8, one section, tags of 32 bytes

small_shape : Shape
small_shape = record { spb = 1; tag_size = 32 }

entry_size-small : (entry_size small_shape ≡ 48) × (entries_per_sector small_shape ≡ 10) × (section_entries small_shape ≡ 80) × (section_sectors small_shape ≡ 88)
unfolding entry_size entries_per_sector section_entries section_sectors small_shape
entry_size-small = (refl, refl, refl, refl)

geometry_of-small : geometry_of small 256 ≡ Ok (layout_of small)
unfolding geometry_of sector_at section_sectors section_entries entries_per_sector entry_size tag_run_of
geometry_of-small = refl

initial-small : (initial (layout_of small) ≡ 96) × (tag_run_of small ≡ 8) × ((layout_of small).blocks ≡ 80)
unfolding section_sectors section_entries entries_per_sector entry_size tag_run_of
initial-small = (refl, refl, refl)

-- Block 0 lies at sector 104 with its tag at sector 96, block 9 in the second area, and the last one at the disk's end.
data_at-small : (data_at (layout_of small) 0 ≡ 104) × (data_at (layout_of small) 9 ≡ 121) × (data_at (layout_of small) 79 ≡ 255)
unfolding data_at sector_at section_sectors section_entries entries_per_sector entry_size tag_run_of
data_at-small = (refl, refl, refl)

tag_at-small : (tag_at (layout_of small) 0 ≡ byte_place 96 0) × (tag_at (layout_of small) 9 ≡ byte_place 112 32)
unfolding tag_at tag_offset section_sectors section_entries entries_per_sector entry_size tag_run_of
tag_at-small = (refl, refl)

-- On 512 sectors the small image would provide 208, and its last block would lie at the disk's end.
best_provided_of-small : (best_provided_of small 256 ≡ Ok 80) × (best_provided_of small 512 ≡ Ok 208) × (data_at (layout_of small) 207 ≡ 511)
unfolding best_provided_of best_provided data_at sector_at section_sectors section_entries entries_per_sector entry_size tag_run_of
best_provided_of-small = (refl, refl, refl)

-- ---- faults: of the small image, changed

-- One sector less of disk, and one more block.
geometry_of-too_small : (geometry_of small 255 ≡ Err (TooSmall 255 256)) × (geometry_of (record small { provided = 88 }) 256 ≡ Err (TooSmall 256 272))
unfolding geometry_of sector_at section_sectors section_entries entries_per_sector entry_size tag_run_of
geometry_of-too_small = (refl, refl)

-- 11916 sections are more than 2 ^ 20 sectors, 11915 are not.
geometry_of-sections :
    (geometry_of (record small { sections = 11916 }) 256 ≡ Err (JournalTooLarge 1048608))
    × (geometry_of (record small { sections = 11915 }) 256 ≡ Err (TooSmall 256 1048688))
unfolding geometry_of sector_at section_sectors section_entries entries_per_sector entry_size tag_run_of
geometry_of-sections = (refl, refl)

-- A disk above 2 ^ 48 sectors is told before all else.
geometry_of-large_disk : geometry_of (record small { sections = 11916 }) 0x1000000000001 ≡ Err (DeviceTooLarge 0x1000000000001)
unfolding geometry_of sector_at section_sectors section_entries entries_per_sector entry_size tag_run_of
geometry_of-large_disk = refl

-- With a bit for each of 360456 blocks the bitmap needs more sectors than the journal has.
geometry_of-bitmap : geometry_of (record small { flags = 0xc; log2_region = 0; provided = 360456 }) 721008 ≡ Err (BitmapTooLarge 96 88)
unfolding geometry_of sector_at section_sectors section_entries entries_per_sector entry_size tag_run_of regions_for bitmap_sectors_for
geometry_of-bitmap = refl

-- Without FIXED_PADDING the tags of an area take 256 sectors, and not even 8 sectors of data are left.
best_provided_of-unpadded : (tag_run_of (record small { flags = 0 }) ≡ 256) × (best_provided_of (record small { flags = 0 }) 256 ≡ Err (TooSmall 256 360))
unfolding best_provided_of best_provided section_sectors section_entries entries_per_sector entry_size tag_run_of
best_provided_of-unpadded = (refl, refl)

-- ---- other sizes

-- Tags of 4 bytes.
small_tags : Superblock
small_tags = record small { tag_size = 4; provided = 32 }

entry_size-small_tags :
    (entry_size (layout_of small_tags).shape ≡ 24) × (entries_per_sector (layout_of small_tags).shape ≡ 21)
    × (section_entries (layout_of small_tags).shape ≡ 168) × (section_sectors (layout_of small_tags).shape ≡ 176)
    × (initial (layout_of small_tags) ≡ 184) × (best_provided_of small_tags 256 ≡ Ok 32) × (data_at (layout_of small_tags) 31 ≡ 247)
unfolding small_tags best_provided_of best_provided data_at sector_at section_sectors section_entries entries_per_sector entry_size tag_run_of
entry_size-small_tags = (refl, refl, refl, refl, refl, refl, refl)

-- Interleave 32768 on 4096 sectors: one area, cut short.
one_area : Superblock
one_area = record small { log2_interleave = 15; provided = 1952 }

data_at-one_area :
    (tag_run_of one_area ≡ 2048) × (data_at (layout_of one_area) 0 ≡ 2144) × (best_provided_of one_area 4096 ≡ Ok 1952)
    × (data_at (layout_of one_area) 1951 ≡ 4095)
unfolding one_area best_provided_of best_provided data_at sector_at section_sectors section_entries entries_per_sector entry_size tag_run_of
data_at-one_area = (refl, refl, refl, refl)

-- Tags of 20 bytes and interleave 32 on 512 sectors: the tag of block 25 straddles two sectors. The kernel provides as
-- many sectors, and its table has as many journal sectors.
data_at-straddling :
    (entry_size (layout_of kernel_straddling).shape ≡ 40) × (entries_per_sector (layout_of kernel_straddling).shape ≡ 12)
    × (section_entries (layout_of kernel_straddling).shape ≡ 96) × (journal_sectors (layout_of kernel_straddling) ≡ 104)
    × (initial (layout_of kernel_straddling) ≡ 112) × (best_provided_of kernel_straddling 512 ≡ Ok 320)
    × (geometry_of kernel_straddling 512 ≡ Ok (layout_of kernel_straddling))
    × (data_at (layout_of kernel_straddling) 25 ≡ 145) × (tag_at (layout_of kernel_straddling) 25 ≡ byte_place 112 500)
unfolding best_provided_of best_provided geometry_of data_at sector_at tag_at tag_offset section_sectors section_entries entries_per_sector entry_size tag_run_of
data_at-straddling = (refl, refl, refl, refl, refl, refl, refl, refl, refl)

-- Blocks of 4096 bytes on 1024 sectors.
large_blocks : Superblock
large_blocks = record small { log2_spb = 3; provided = 376 }

data_at-large_blocks :
    (entry_size (layout_of large_blocks).shape ≡ 104) × (entries_per_sector (layout_of large_blocks).shape ≡ 4)
    × (section_entries (layout_of large_blocks).shape ≡ 32) × (section_sectors (layout_of large_blocks).shape ≡ 264)
    × (initial (layout_of large_blocks) ≡ 272) × (best_provided_of large_blocks 1024 ≡ Ok 376) × ((layout_of large_blocks).blocks ≡ 47)
    × (data_at (layout_of large_blocks) 1 ≡ 296) × (tag_at (layout_of large_blocks) 1 ≡ byte_place 288 0)
unfolding large_blocks best_provided_of best_provided data_at sector_at tag_at tag_offset section_sectors section_entries entries_per_sector entry_size tag_run_of
data_at-large_blocks = (refl, refl, refl, refl, refl, refl, refl, refl, refl)

-- What the kernel provides of 1024 sectors with blocks of 2048 bytes, and its journal sectors.
best_provided_of-kernel_large_blocks :
    (best_provided_of kernel_large_blocks 1024 ≡ Ok 696) × (journal_sectors (layout_of kernel_large_blocks) ≡ 232)
    × (geometry_of kernel_large_blocks 1024 ≡ Ok (layout_of kernel_large_blocks))
unfolding best_provided_of best_provided geometry_of sector_at section_sectors section_entries entries_per_sector entry_size tag_run_of
best_provided_of-kernel_large_blocks = (refl, refl, refl)

-- What it provides of 2048 sectors without any flag, and its journal sectors.
best_provided_of-kernel_oldest :
    (best_provided_of kernel_oldest 2048 ≡ Ok 768) × (journal_sectors (layout_of kernel_oldest) ≡ 352)
    × (geometry_of kernel_oldest 2048 ≡ Ok (layout_of kernel_oldest)) × (section_at (layout_of kernel_oldest) 3 ≡ 272)
unfolding best_provided_of best_provided geometry_of sector_at section_sectors section_entries entries_per_sector entry_size tag_run_of
best_provided_of-kernel_oldest = (refl, refl, refl, refl)

-- ---- regions

-- Sixteen blocks a region make five regions of the small image's 80 blocks, and its last block lies in the last one.
regions-small : (regions (layout_of (record small { log2_region = 4 })) ≡ 5) × (region_of (layout_of (record small { log2_region = 4 })) 79 ≡ 4)
unfolding regions_for
regions-small = (refl, refl)

-- A bitmap of 88 sectors has a bit for 327681 to 360448 regions.
bitmap_sectors_for-limits : (bitmap_sectors_for 327680 0 ≡ 80) × (bitmap_sectors_for 327681 0 ≡ 88) × (bitmap_sectors_for 360448 0 ≡ 88) × (bitmap_sectors_for 360449 0 ≡ 96)
unfolding regions_for bitmap_sectors_for
bitmap_sectors_for-limits = (refl, refl, refl, refl)

-- The given log2_region is kept where its bitmap fits, also one by which a region has more blocks than any disk, and
-- raised by one where a bit for each block is too many.
fitting_log2_region-small :
    (fitting_log2_region (layout_of small) ≡ 15)
    × (fitting_log2_region (layout_of (record small { log2_region = 255 })) ≡ 255)
    × (fitting_log2_region (layout_of (record small { log2_region = 0; provided = 360448 })) ≡ 0)
    × (fitting_log2_region (layout_of (record small { log2_region = 0; provided = 360456 })) ≡ 1)
unfolding fitting_log2_region section_sectors section_entries entries_per_sector entry_size regions_for bitmap_sectors_for
fitting_log2_region-small = (refl, refl, refl, refl)
