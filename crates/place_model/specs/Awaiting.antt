-- What images say by the fields of sector 0: that they have no bitmap, and in journal and in direct mode what awaits its
-- tag.
-- Own: it grows less alone, from the opening on.
use Rattle.std.specs.Prelude.{◌≡◌, ℕ, ◌<◌, true, false, List}
use Rattle.disk_model.specs.Disk.{Content, EachImage, Image}
use Rattle.disk_model.specs.Moments.{EachMoment}
use Rattle.image_model.specs.declared.flags.TheConstants.{DIRTY_BITMAP, RECALCULATING}
use Rattle.image_model.specs.Bitmap.{is_to_recalculate}
use Rattle.image_model.specs.Geometry.{Geometry}
use Rattle.image_model.specs.Superblock.{Superblock, fields_in, has_flag}

-- The fields of sector 0 of an image.
abbrev pub fields_of : Image → Superblock
fields_of image = fields_in (image 0)

-- No image has the flag of a bitmap.
abbrev pub HasNoBitmap : Content → Type 0
HasNoBitmap c = EachImage (λ image. has_flag DIRTY_BITMAP (fields_of image).flags ≡ false) c

-- By the new fields no block is to be recalculated that was not by the old ones, and the flag is not set where it was
-- not.
pub record AwaitsNoMore (g : Geometry) (old new : Superblock) : Type 0 where
  pub flag : has_flag RECALCULATING new.flags ≡ true → has_flag RECALCULATING old.flags ≡ true
  pub blocks_ : (b : ℕ) → b < g.blocks → is_to_recalculate new g b ≡ true → is_to_recalculate old g b ≡ true

-- So it is by the fields of each image, from those of the image that was opened on.
abbrev pub HasNoMore : Geometry → (entry : Image) → Content → Type 0
HasNoMore g entry c = EachImage (λ image. AwaitsNoMore g (fields_of entry) (fields_of image)) c

-- It is so at each moment of a call.
abbrev pub HasNoMoreIn : Geometry → (entry : Image) → (before after : List Content) → Type 0
HasNoMoreIn g entry before after = EachMoment before after (HasNoMore g entry)
