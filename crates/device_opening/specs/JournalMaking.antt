-- What an opening in journal mode or in direct mode does with an image that has a bitmap: each region whose bit is set
-- is recalculated, and the bitmap becomes a journal that is empty.
use Rattle.std.specs.Prelude.{◌≡◌, ℕ, ◌<◌, false, Option, List}
use Rattle.disk_model.specs.Disk.{Content, Image, OnlyAdds, last_image, newest_only}
use Rattle.disk_model.specs.Identity.{DiskIdentity}
use Rattle.disk_model.specs.Moments.{EachSince, HasNow}
use Rattle.image_model.specs.declared.flags.TheConstants.{DIRTY_BITMAP}
use Rattle.image_model.specs.Geometry.{Geometry, regions}
use Rattle.image_model.specs.Superblock.{has_flag}
use Rattle.device_model.specs.Mode.{Journal}
use Rattle.place_model.specs.Changed.{journal_format}
use Rattle.place_model.specs.Format.{DiskFormat, HasCells, cells_on, format_on}
use Rattle.place_model.specs.Opened.{awaiting_on, next_on}
use Rattle.bitmap_model.specs.BitmapDisk.{BitmapDisk}
use Rattle.change_model.specs.Opened.{IsRecalculatedOf}
use Rattle.hmac_tag.specs.TagMaker.{TagRule}
use Rattle.image_format.specs.declared.reading.ImageFormat.{ImageFormat}
use Rattle.image_format.specs.Format.{disk_format}
use Rattle.bitmap_mode.specs.States.{States}
use Rattle.journal_model.specs.Opening.{opened_disk}
use Rattle.change_model.specs.OpeningWrites.{IsOfDirectOpening, IsOfJournalOpening, IsOfMadeJournal}
use Rattle.recalculation.specs.All.{IsOfTagsOnly}
use Rattle.tag_store.specs.Store.{IsStore, Store, given_tags}
use Rattle.replay.specs.Recovery.{LeavesRecovered}
use Rattle.device_opening.specs.declared.bitmap_judging.JudgedBitmap.{JudgedBitmap}
use Rattle.device_opening.specs.declared.recovering.RecoveredImage.{RecoveredImage}
use Rattle.device_opening.specs.Changing.{KeepsEntryThrough}
use Rattle.device_opening.specs.Opening.{OnlySyncs}
use Rattle.replay.specs.Emptied.{IsRecoveredAlready}

-- ---- what is written

-- The content comes by the recalculation of regions: what was pending is settled, and then nothing is written but
-- sectors of tags.
abbrev pub IsOfRecalculation : Geometry → (start c : Content) → Type 0
IsOfRecalculation g start c = OnlyAdds (IsOfTagsOnly g) (newest_only start) c

-- Each content since the start comes by an opening in journal mode, by the format of the image that reads gave,
abbrev pub WritesJournal : Option (List ℕ) → (sectors : ℕ) → (before after : List Content) → Type 0
WritesJournal key sectors before after = EachSince (λ start. let d = format_on key sectors (last_image start) in
    IsOfJournalOpening d.superblock d.geometry start) before after

-- or by one in direct mode.
abbrev pub WritesDirect : Option (List ℕ) → (sectors : ℕ) → (before after : List Content) → Type 0
WritesDirect key sectors before after = EachSince (λ start. let d = format_on key sectors (last_image start) in
    IsOfDirectOpening d.superblock d.geometry start) before after

-- An image without a bitmap whose journal is at rest, with all its entries in their places already, is synced at most.
abbrev pub KeepsClosed : Option (List ℕ) → (sectors : ℕ) → (before after : List Content) → Type 0
KeepsClosed key sectors before after = HasNow (λ start. let d = format_on key sectors (last_image start) in
    has_flag DIRTY_BITMAP d.superblock.flags ≡ false → IsRecoveredAlready d.geometry (last_image start)
    → OnlySyncs before after) before

-- ---- before the change

-- Each region of the image whose bit was set is recalculated, and all tags are written back.
pub record IsRecalculatedOn (f : DiskFormat) (image : Image) (tags : ℕ → List ℕ) (c : Content) : Type 0 where
  pub disk : BitmapDisk
  pub is : IsRecalculatedOf f image disk tags c

-- So it is of the image that reads gave.
abbrev pub HasRecalculatedOn : (key : Option (List ℕ)) → (sectors : ℕ) → ImageFormat → (before after : List Content)
    → Store → Type 0
HasRecalculatedOn key sectors format before after tags = HasNow (λ start. HasNow (λ c.
    IsRecalculatedOn (disk_format key sectors format) (last_image start) (given_tags tags c) c) after) before

-- What was judged of an image with a bitmap, by its parts.
abbrev pub judged_as : ImageFormat → TagRule → States → JudgedBitmap
judged_as format maker regions = record { format = format; maker = maker; regions = regions }

-- ---- the end

-- The image that reads give has an empty journal, as a recovery leaves one, where writing begins at its start; the
-- cells of the image at the start, which had this format; and no region of it awaits.
pub record IsMadeOn (f : DiskFormat) (image : Image) (recovered : RecoveredImage) (c : Content) : Type 0 where
  pub left : LeavesRecovered (opened_disk (journal_format f) (last_image c)) recovered.at
      (given_tags recovered.tags c) c
  pub next : recovered.at.next ≡ next_on Journal (journal_format f) (last_image c)
  pub cells : HasCells (journal_format f) (cells_on f image) (last_image c)
  pub none_awaits : (region : ℕ) → region < regions f.geometry
      → awaiting_on Journal (journal_format f) (last_image c) region ≡ false

-- It is so by the image that reads gave.
abbrev pub HasMadeJournal : DiskFormat → (before after : List Content) → RecoveredImage → Type 0
HasMadeJournal f before after recovered =
    HasNow (λ start. HasNow (IsMadeOn f (last_image start) recovered) after) before

-- What was made is of this disk and of the image that was judged: its tags lie where that has them, tags are made by
-- its rule, and writing begins at the journal's start, which has nothing used.
pub record IsMadeOf (image : JudgedBitmap) (recovered : RecoveredImage) (disk : DiskIdentity) (moments : List Content)
    : Type 0 where
  pub store : IsStore recovered.tags disk moments
  pub geometry : recovered.tags.geometry ≡ image.format.geometry
  pub maker : recovered.maker ≡ image.maker
  pub at : recovered.at ≡ record { next = 0; number = 1; used = false }

-- The format of a disk of so many sectors whose image with a bitmap was judged.
abbrev pub bitmap_judged : (sectors : ℕ) → JudgedBitmap → DiskFormat
bitmap_judged sectors image = disk_format image.maker.key sectors image.format

-- ---- at each moment

-- From an image of this format that was judged, each image keeps the blocks and the cells of the one that reads gave,
-- by its own first sector, and nothing is written but sectors of tags,
pub record LeavesRecalculated (f : DiskFormat) (before after : List Content) : Type 0 where
  pub keeps : KeepsEntryThrough f before after
  pub writes : EachSince (IsOfRecalculation f.geometry) before after

-- and with the change nothing else but what that writes.
pub record LeavesMadeJournal (f : DiskFormat) (before after : List Content) : Type 0 where
  pub keeps : KeepsEntryThrough f before after
  pub writes : EachSince (IsOfMadeJournal f.superblock f.geometry) before after
