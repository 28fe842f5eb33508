-- What may be left, by the superblock of what is left.
use Rattle.std.proofs.Common.{◌≡◌, true, false, refl, sym, ◌∙◌, ap, subst}
use Rattle.disk_model.specs.Disk.{Image}
use Rattle.image_model.specs.declared.flags.TheConstants.{DIRTY_BITMAP}
use Rattle.image_model.specs.Superblock.{has_flag}
use Rattle.device_model.specs.Mode.{Mode, Bitmap}
use Rattle.place_model.specs.Format.{DiskFormat, OpensAs, format_on}
use Rattle.place_model.specs.Left.{IsLeftInDirect, IsLeftPlaced, IsLeftInJournal, IsLeftInBitmap}
use Rattle.place_model.specs.Opened.{blocks_of, opened_on}
use Rattle.place_model.specs.Changed.{changed_device, changed_format, changes_mode, judged_image, opened_format, opened_in}
use Rattle.place_model.specs.Kind.{JournalKindLaw, BitmapKindLaw, DirectKindLaw, PlacedKindLaw}
use Rattle.place_model.proofs.FormatLemmas.{format_on-is, format_on-read}

-- An image that opens in the format of the one at entry has its blocks.
blocks-same : (d : DiskFormat) (entry left : Image) → format_on d.key d.sectors entry ≡ d → OpensAs d left
    → blocks_of (format_on d.key d.sectors left) ≡ blocks_of (format_on d.key d.sectors entry)
blocks-same d entry left is opens = ap blocks_of (format_on-is d left opens ∙ sym is)

pub journal_kind_law : JournalKindLaw
journal_kind_law d entry h left is may = record {
  blocks = blocks-same d entry left is may.opens;
  left_is = subst (λ (x : DiskFormat). IsLeftInJournal x h left) (sym (format_on-is d left may.opens)) may;
}

pub bitmap_kind_law : BitmapKindLaw
bitmap_kind_law d entry h left is may = record {
  blocks = blocks-same d entry left is may.opens;
  left_is = subst (λ (x : DiskFormat). IsLeftInBitmap x h left) (sym (format_on-is d left may.opens)) may;
}

pub direct_kind_law : DirectKindLaw
direct_kind_law d entry h left is may = record {
  blocks = blocks-same d entry left is may.opens;
  left_is = subst (λ (x : DiskFormat). IsLeftInDirect x h left) (sym (format_on-is d left may.opens)) may;
}

pub placed_kind_law : PlacedKindLaw
placed_kind_law d entry h left is may =
    let format = format_on-read d left may.reads in
    record {
      blocks = ap blocks_of (format ∙ sym is);
      left_is = subst (λ (x : DiskFormat). IsLeftPlaced x h left) (sym format) may;
    }

-- ---- an opening that changes the mode, or leaves it

-- Where the image is in the mode an opening leaves its format, and the device is the one on it,
module _ (mode : Mode) (d : DiskFormat) (is : changes_mode mode d.superblock ≡ false) where
  pub opened_format-same : opened_format mode d ≡ d
  opened_format-same = rw is refl

  pub opened_in-same : (image : Image) → opened_in mode d image ≡ opened_on mode d image
  opened_in-same image = rw is refl

  pub judged_image-same : (entry made : Image) → judged_image mode d entry made ≡ entry
  judged_image-same entry made = rw is refl

-- and where it is not they are those of the change.
module _ (mode : Mode) (d : DiskFormat) (is : changes_mode mode d.superblock ≡ true) where
  pub opened_format-changed : opened_format mode d ≡ changed_format mode d
  opened_format-changed = rw is refl

  pub opened_in-changed : (image : Image) → opened_in mode d image ≡ changed_device d image
  opened_in-changed image = rw is refl

  pub judged_image-changed : (entry made : Image) → judged_image mode d entry made ≡ made
  judged_image-changed entry made = rw is refl

-- An image with a bitmap is in bitmap mode, and one with a journal is not.
pub in_bitmap_mode : (d : DiskFormat) → has_flag DIRTY_BITMAP d.superblock.flags ≡ true → changes_mode Bitmap d.superblock ≡ false
in_bitmap_mode d set = rw set refl

pub not_in_bitmap_mode : (d : DiskFormat) → has_flag DIRTY_BITMAP d.superblock.flags ≡ false → changes_mode Bitmap d.superblock ≡ true
not_in_bitmap_mode d clear = rw clear refl
