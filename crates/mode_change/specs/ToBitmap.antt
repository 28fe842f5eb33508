-- A change from a journal to a bitmap: the format behind it, what it writes, and what each moment of it keeps.
-- Own: the disk is synced first, then zeros are written in the bitmap's place, and then sector 0; each is synced.
use Rattle.std.specs.Prelude.{◌≡◌, ◌⊎◌, ℕ, ◌*◌, ◌≤◌, Ok, List, Option}
use Rattle.disk_model.specs.Disk.{Content, EachImage, Image, OnlyAdds, last_image, newest_only, with_run}
use Rattle.disk_model.specs.Moments.{EachSince, HasNow}
use Rattle.image_model.specs.Geometry.{bitmap_sectors, geometry_of, journal_sectors}
use Rattle.image_model.specs.Sectors.{zero_bytes}
use Rattle.image_model.specs.Superblock.{Superblock}
use Rattle.image_format.specs.declared.reading.ImageFormat.{ImageFormat}
use Rattle.image_format.specs.Format.{disk_format}
use Rattle.place_model.specs.Format.{DiskFormat, HasCells, cells_on}
use Rattle.journal_model.specs.JournaledDisk.{JournaledDisk}
use Rattle.change_model.specs.Change.{IsOfHead, IsOfZeros, ModeChange}
use Rattle.change_model.specs.Ends.{ArePlacedTags, IsNewBitmap, format_after}
use Rattle.change_model.specs.Fields.{KeepsRest, MayReplace, bitmap_fields, with_head}
use Rattle.change_model.specs.Opened.{IsEmptiedOf, IsEntry, KeepsEntry, bitmap_change, rest_of}
use Rattle.change_model.specs.Whole.{IsToBitmapMoment}

-- ---- the format

-- The format behind the change: its fields are those of a bitmap, and its regions those of the fields.
abbrev pub bitmap_format : ImageFormat → ImageFormat
bitmap_format f = record {
  fields = bitmap_fields f.fields;
  geometry = record f.geometry { log2_region = (bitmap_fields f.fields).log2_region };
}

-- How many sectors the bitmap takes.
abbrev pub bitmap_count : ImageFormat → ℕ
bitmap_count f = bitmap_sectors (bitmap_format f).geometry

-- The fields after the change may be written in place of those before, and the bitmap fits the journal.
pub record MarksFormat (sectors : ℕ) (before after : ImageFormat) : Type 0 where
  pub replaces : MayReplace before.fields after.fields
  pub told : geometry_of after.fields sectors ≡ Ok after.geometry
  pub fits : bitmap_sectors after.geometry ≤ journal_sectors after.geometry

-- ---- what is written

-- Zeros in the bitmap's place, synced.
abbrev pub with_zeros : (bitmap : ℕ) → Content → Content
with_zeros bitmap c = newest_only (with_run 8 (zero_bytes (512 * bitmap)) c)

-- The fields in sector 0, whose other bytes stay, synced.
abbrev pub with_fields : Superblock → Content → Content
with_fields fields c = newest_only (with_run 0 (with_head fields (last_image c 0)) c)

-- All of the change: what was pending is synced, and then the zeros and the fields are written.
abbrev pub with_bitmap : ImageFormat → Content → Content
with_bitmap f c = with_fields (bitmap_fields f.fields) (with_zeros (bitmap_count f) (newest_only c))

-- The bytes are zeros in the bitmap's place, or those of sector 0 as it was, with the new fields.
abbrev pub IsOfBitmap : ImageFormat → (start : Content) → (sector : ℕ) → List ℕ → Type 0
IsOfBitmap f start sector x = IsOfZeros f.geometry (bitmap_count f) sector x
    ⊎ IsOfHead (with_head (bitmap_fields f.fields) (last_image start 0)) sector x

-- ---- each moment

-- It is a change of an image in this format to the one behind it, whatever its cells are.
pub record IsChangeOf (f : ImageFormat) (m : ModeChange) : Type 0 where
  pub geometry : m.disk.geometry ≡ f.geometry
  pub after : m.after ≡ bitmap_fields f.fields

-- The content is that of a moment of each such change, which begins on what is left once what was pending is synced.
abbrev pub IsAmidBitmap : ImageFormat → (start c : Content) → Type 0
IsAmidBitmap f start c = (m : ModeChange) → IsChangeOf f m
    → IsToBitmapMoment m (with_head (bitmap_fields f.fields) (last_image start 0)) (newest_only start) c

-- Where the content at the start was recovered and emptied of the image `entry`, each image keeps the blocks and the
-- cells of that image, and what follows the fields in sector 0.
abbrev pub KeepsEmptied : DiskFormat → (start c : Content) → Type 0
KeepsEmptied d start c = (entry : Image) (now : JournaledDisk) (number : ℕ) (tags : ℕ → List ℕ) → IsEntry d entry
    → IsEmptiedOf d entry now number tags start → EachImage (KeepsEntry d entry) c × KeepsRest (rest_of start) c

-- Each moment between the two, on a disk of so many sectors. No sector is written but those of the bitmap's place and
-- sector 0, in this order; and under any key each image keeps the blocks and the cells of the one that was recovered.
pub record StepsToBitmap (sectors : ℕ) (f : ImageFormat) (before after : List Content) : Type 0 where
  pub writes : EachSince (λ start. OnlyAdds (IsOfBitmap f start) start) before after
  pub through : EachSince (IsAmidBitmap f) before after
  pub keeps : (key : Option (List ℕ)) → EachSince (KeepsEmptied (disk_format key sectors f)) before after

-- ---- the end

-- In the format `after` a device in bitmap mode may be opened on the content: it stands for the image as it is, with
-- the cells of the image `entry`; no bit is set, and no region awaits.
pub record IsBitmapOf (d after : DiskFormat) (entry : Image) (m : ModeChange) (others : ℕ → List ℕ) (c : Content)
    : Type 0 where
  pub format : format_after m ≡ after
  pub is_new : IsNewBitmap m others c
  pub cells : EachImage (HasCells after (cells_on d entry)) c

-- It is so of what was recovered and emptied at the start, with the tags that are in place.
abbrev pub BecomesBitmap : (d after : DiskFormat) → (start last : Content) → Type 0
BecomesBitmap d after start last = (entry : Image) (now : JournaledDisk) (number : ℕ) (tags others : ℕ → List ℕ)
    → IsEntry d entry → IsEmptiedOf d entry now number tags start → ArePlacedTags after others last
    → IsBitmapOf d after entry (bitmap_change d now number) others last

-- So the disk became one with a bitmap, under a key.
abbrev pub OpensBitmap : Option (List ℕ) → (sectors : ℕ) → ImageFormat → (before after : List Content) → Type 0
OpensBitmap key sectors f before after = HasNow (λ start. HasNow (λ last.
    BecomesBitmap (disk_format key sectors f) (disk_format key sectors (bitmap_format f)) start last) after) before
