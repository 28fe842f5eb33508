-- What an opening in direct mode leaves: the device that is open then, over an empty journal, and each moment until it
-- is.
-- Own: the journal is recovered and then emptied, so that each block is what stands in its place.
use Rattle.std.specs.Prelude.{◌≡◌, ℕ, false, Option, List}
use Rattle.disk_model.specs.Disk.{Content, EachImage, HasNothingPending, Image, last_image}
use Rattle.disk_model.specs.Moments.{HasNow}
use Rattle.device_model.specs.Mode.{Direct}
use Rattle.place_model.specs.Changed.{opened_format}
use Rattle.place_model.specs.Format.{DiskFormat, format_on}
use Rattle.place_model.specs.Opened.{device_format, opened_on}
use Rattle.direct_model.specs.DirectDisk.{DirectDisk}
use Rattle.journal_model.specs.Opening as Journaled
use Rattle.tag_store.specs.Store.{given_tags}
use Rattle.place_model.specs.EmptyJournal.{HasEmptyJournal}
use Rattle.replay.specs.Recovery.{LeavesRecovered}
use Rattle.device_parts.specs.declared.condition.Condition.TheVariants.{Working}
use Rattle.direct_device.specs.declared.parts.DirectParts.{DirectParts}
use Rattle.direct_device.specs.Device.{DirectStanding as Standing, IsOverDisk as IsDevice}
use Rattle.device_opening.specs.declared.recovering.RecoveredImage.{RecoveredImage}

-- ---- an image that is recovered and emptied

-- The image that reads gave is recovered, and nothing in its journal is used.
pub record HasEmptied (f : DiskFormat) (before after : List Content) (image : RecoveredImage) : Type 0 where
  pub left : HasNow (λ start. HasNow (λ c. LeavesRecovered (Journaled.opened_disk f (last_image start)) image.at
      (given_tags image.tags c) c) after) before
  pub unused : image.at.used ≡ false

-- ---- what is open

-- The device that has just been opened on an image of this format, with the disk that was left of it.
abbrev pub opened_standing : DiskFormat → Image → DirectDisk → Standing
opened_standing f image disk = record {
  format = device_format Direct f;
  state = opened_on Direct f image;
  disk = disk;
  entry = image;
}

-- What is open is that device, over a disk of the format. Each image of the disk has an empty journal, and nothing is
-- pending.
pub record IsOpenOn (f : DiskFormat) (image : Image) (kept : DirectParts) (moments : List Content) : Type 0 where
  pub disk : DirectDisk
  pub format : disk.format ≡ f
  pub device : IsDevice (opened_standing f image disk) Working kept.parts kept.recalculation moments
  pub emptied : HasNow (EachImage (HasEmptyJournal f)) moments
  pub settled : HasNow HasNothingPending moments

-- It is so by the image that reads gave.
abbrev pub HasOpenOn : DiskFormat → DirectParts → (before after : List Content) → Type 0
HasOpenOn f kept before after = HasNow (λ start. IsOpenOn f (last_image start) kept after) before

-- Each image of the disk has an empty journal, by the format that the opening leaves of the image that reads gave, and
-- nothing is pending.
pub record LeavesEmpty (key : Option (List ℕ)) (sectors : ℕ) (before after : List Content) : Type 0 where
  pub emptied : HasNow (λ start. HasNow (EachImage (HasEmptyJournal
      (opened_format Direct (format_on key sectors (last_image start))))) after) before
  pub settled : HasNow HasNothingPending after
