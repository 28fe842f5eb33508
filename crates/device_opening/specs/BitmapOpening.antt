-- What is known of an image with a bitmap that was judged, before anything is done to it.
use Rattle.std.specs.Prelude.{◌≡◌, ℕ, List}
use Rattle.disk_model.specs.Disk.{Content}
use Rattle.disk_model.specs.Moments.{HasNow}
use Rattle.place_model.specs.Format.{DiskFormat}
use Rattle.image_format.specs.declared.reading.ImageFormat.{ImageFormat}
use Rattle.image_format.specs.Format.{IsBitmapFormat, IsOpenableNow}
use Rattle.bitmap_mode.specs.Standing.{AreOpened}
use Rattle.bitmap_mode.specs.States.{States}
use Rattle.device_opening.specs.declared.bitmap_judging.JudgedBitmap.{JudgedBitmap}
use Rattle.device_opening.specs.Judged.{rule_of}

-- The regions in memory are those of the image in this format that reads give, of a device that is opened on it.
pub record AreRegionsOf (format : ImageFormat) (regions : States) (moments : List Content) : Type 0 where
  pub geometry : regions.geometry ≡ format.geometry
  pub opened : (d : DiskFormat) → d.geometry ≡ format.geometry → AreOpened d regions moments

-- The image that reads give, on a disk of so many sectors, has the format that was read, and can be opened. Tags are
-- made by its rule, and these are its regions.
pub record HasJudgedBitmap (sectors : ℕ) (image : JudgedBitmap) (moments : List Content) : Type 0 where
  pub format : IsBitmapFormat sectors image.format
  pub maker : image.maker ≡ rule_of image.maker.key image.format
  pub regions_ : AreRegionsOf image.format image.regions moments
  pub now : HasNow (IsOpenableNow image.maker.key sectors image.format) moments
