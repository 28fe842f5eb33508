-- What a disk stands for when it is opened in direct mode: its placed cells, whatever its journal says; and its cells, where
-- the journal has nothing to replay.
-- Own: a journal that has entries is emptied in journal mode first, once something recovers it.
use Rattle.std.specs.Prelude.{◌≡◌, false, []}
use Rattle.disk_model.specs.Disk.{Content, Image, IsImage, EachImage, HasNothingPending, last_image, newest_only}
use Rattle.image_model.specs.declared.flags.TheConstants.{DIRTY_BITMAP}
use Rattle.image_model.specs.Cells.{replayed_entries}
use Rattle.image_model.specs.Superblock.{has_flag}
use Rattle.place_model.specs.Format.{DiskFormat, placed_on, cells_on, HasWholeSectors, IsReadAs, HasPlaced, OpensAs, HasCells}
use Rattle.place_model.specs.FirstSync.{IsSettled}
use Rattle.place_model.specs.Journal.{HasNothingToReplay}
use Rattle.direct_model.specs.DirectDisk.{DirectDisk, StandsFor}

-- ---- placed cells

-- At opening nothing is written: the cells are the placed ones of the image.
abbrev pub placed_disk : DiskFormat → Image → DirectDisk
placed_disk d image = record {
  format = d;
  journal = image;
  base = placed_on d image;
  writes = [];
  flushed = 0;
}

-- Each disk of whole sectors with nothing pending, whose image can be read and has no bitmap, stands for that.
abbrev pub PlacedOpenedLaw : Type 0
PlacedOpenedLaw = (d : DiskFormat) (c : Content) → IsReadAs d (last_image c)
    → has_flag DIRTY_BITMAP d.superblock.flags ≡ false → HasNothingPending c
    → HasWholeSectors d (last_image c) → StandsFor (placed_disk d (last_image c)) c

-- Until its first sync an opening has the images at entry. That leaves one of them, which the disk then stands for.
abbrev pub PlacedSyncLaw : Type 0
PlacedSyncLaw = (d : DiskFormat) (entry : Content) → IsImage entry (last_image entry)
    → IsReadAs d (last_image entry) → has_flag DIRTY_BITMAP d.superblock.flags ≡ false
    → HasWholeSectors d (last_image entry)
    → IsSettled entry (newest_only entry) × StandsFor (placed_disk d (last_image entry)) (newest_only entry)
    × EachImage (HasPlaced d (placed_on d (last_image entry))) (newest_only entry)

-- ---- cells, where nothing is replayed

-- At opening nothing is written: the cells are those of the image.
abbrev pub opened_disk : DiskFormat → Image → DirectDisk
opened_disk d image = record {
  format = d;
  journal = image;
  base = cells_on d image;
  writes = [];
  flushed = 0;
}

-- Where the journal has nothing to replay the two are one disk.
abbrev pub SameDiskLaw : Type 0
SameDiskLaw = (d : DiskFormat) (image : Image) → has_flag DIRTY_BITMAP d.superblock.flags ≡ false
    → replayed_entries d.geometry image ≡ [] → placed_disk d image ≡ opened_disk d image

-- Each disk of whole sectors with nothing pending, whose image can be opened, has no bitmap and no entry to be replayed,
-- stands for that, and its journal has nothing to replay.
abbrev pub OpenedLaw : Type 0
OpenedLaw = (d : DiskFormat) (c : Content) → OpensAs d (last_image c)
    → has_flag DIRTY_BITMAP d.superblock.flags ≡ false → replayed_entries d.geometry (last_image c) ≡ []
    → HasNothingPending c → HasWholeSectors d (last_image c)
    → StandsFor (opened_disk d (last_image c)) c × HasNothingToReplay d.geometry (last_image c)

-- Until its first sync an opening has the images at entry. That leaves one of them, which the disk then stands for.
abbrev pub FirstSyncLaw : Type 0
FirstSyncLaw = (d : DiskFormat) (entry : Content) → IsImage entry (last_image entry)
    → OpensAs d (last_image entry) → has_flag DIRTY_BITMAP d.superblock.flags ≡ false
    → replayed_entries d.geometry (last_image entry) ≡ [] → HasWholeSectors d (last_image entry)
    → IsSettled entry (newest_only entry) × StandsFor (opened_disk d (last_image entry)) (newest_only entry)
    × EachImage (HasCells d (cells_on d (last_image entry))) (newest_only entry)
    × HasNothingToReplay d.geometry (last_image entry)
