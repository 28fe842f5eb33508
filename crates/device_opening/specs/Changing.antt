-- What an opening in bitmap mode does with an image that has a journal: that is recovered and emptied, and becomes a
-- bitmap of which no bit is set.
use Rattle.std.specs.Prelude.{◌≡◌, ℕ, Option, List}
use Rattle.disk_model.specs.Disk.{Content, EachImage, Image, last_image}
use Rattle.buffer_cache.specs.Cached.{HasNoMark}
use Rattle.disk_model.specs.Identity.{DiskIdentity}
use Rattle.disk_model.specs.Moments.{EachMoment, EachSince, HasNow}
use Rattle.image_model.specs.Geometry.{Geometry}
use Rattle.place_model.specs.Format.{DiskFormat, format_on}
use Rattle.journal_model.specs.JournaledDisk.{JournaledDisk}
use Rattle.change_model.specs.Opened.{IsEmptiedOf, KeepsEntry}
use Rattle.change_model.specs.OpeningWrites.{IsOfBitmapOpening, IsOfMade}
use Rattle.tag_store.specs.Store.{given_tags}
use Rattle.bitmap_device.specs.declared.parts.BitmapParts.{BitmapParts}
use Rattle.bitmap_device.specs.Device.{IsBitmapped}
use Rattle.bitmap_mode.specs.Standing.{AreOpened, HasNoBits}
use Rattle.bitmap_mode.specs.States.{States}
use Rattle.device_parts.specs.declared.condition.Condition.TheVariants.{Working}
use Rattle.device_parts.specs.Device.{IsOfSameBlocks, opened_standing}
use Rattle.device_model.specs.Mode.{Bitmap}
use Rattle.device_opening.specs.declared.judging.JudgedImage.{JudgedImage}
use Rattle.device_opening.specs.declared.recovering.RecoveredImage.{RecoveredImage}
use Rattle.device_opening.specs.Opening.{IsOfImage}

-- ---- what is written

-- Each content since the start comes by an opening in bitmap mode, by the format of the image that reads gave.
abbrev pub WritesBitmap : Option (List ℕ) → (sectors : ℕ) → (before after : List Content) → Type 0
WritesBitmap key sectors before after = EachSince (λ start. let d = format_on key sectors (last_image start) in
    IsOfBitmapOpening d.superblock d.geometry start) before after

-- ---- before the change

-- The journal of the image is recovered and emptied, and each tag that was to be recalculated is made.
pub record IsEmptiedOn (f : DiskFormat) (image : Image) (recovered : RecoveredImage) (c : Content) : Type 0 where
  pub disk : JournaledDisk
  pub number : ℕ
  pub emptied : IsEmptiedOf f image disk number (given_tags recovered.tags c) c

-- So it is of the image that reads gave.
abbrev pub HasEmptiedOn : DiskFormat → (before after : List Content) → RecoveredImage → Type 0
HasEmptiedOn f before after recovered =
    HasNow (λ start. HasNow (IsEmptiedOn f (last_image start) recovered) after) before

-- What was recovered is of this disk and of the image that was judged, and all its tags are written back.
pub record IsWrittenBack (image : JudgedImage) (recovered : RecoveredImage) (disk : DiskIdentity)
    (moments : List Content) : Type 0 where
  pub of_image : IsOfImage image recovered disk moments
  pub unmarked : HasNoMark recovered.tags.sectors

-- ---- at each moment

-- Each image keeps the blocks and the cells of the one that reads gave, by its own first sector.
abbrev pub KeepsEntryThrough : DiskFormat → (before after : List Content) → Type 0
KeepsEntryThrough f before after =
    HasNow (λ start. EachMoment before after (EachImage (KeepsEntry f (last_image start)))) before

-- From an image of this format that was judged, these are kept, and nothing else is written.
pub record LeavesMade (f : DiskFormat) (before after : List Content) : Type 0 where
  pub keeps : KeepsEntryThrough f before after
  pub writes : EachSince (IsOfMade f.superblock f.geometry) before after

-- ---- what is open

-- The regions in memory are those of any image with these places of which no bit is set.
pub record HasNoRegions (g : Geometry) (states : States) : Type 0 where
  pub geometry : states.geometry ≡ g
  pub opened : (d : DiskFormat) (moments : List Content) → d.geometry ≡ g → HasNow (HasNoBits d) moments
      → AreOpened d states moments

-- What is open is the device on the bitmap that was made of the image that reads gave.
abbrev pub HasMade : (key : Option (List ℕ)) → (sectors : ℕ) → BitmapParts → (before after : List Content) → Type 0
HasMade key sectors device before after = HasNow (λ start. HasNow (λ made. IsBitmapped
    (opened_standing Bitmap key sectors (last_image start) (last_image made)) Working device after) after) before

-- The image that reads give at its end, by which the device is judged, has the blocks of the one at its start.
abbrev pub MakesOfSameBlocks : (key : Option (List ℕ)) → (sectors : ℕ) → (before after : List Content) → Type 0
MakesOfSameBlocks key sectors before after = HasNow (λ start. HasNow (λ made.
    IsOfSameBlocks Bitmap key sectors (last_image start) (last_image made)) after) before
