-- The devices of each mode, as a command sees them: which images they open, in which state, and what a cut may leave.
-- Own: a disk is opened under one key, in any mode: where it has a journal in place of a bitmap, or a bitmap in place of
-- a journal, that is changed.
use Rattle.std.specs.Prelude.{◌≡◌, ℕ, false, Option, List}
use Rattle.disk_model.specs.Disk.{Image}
use Rattle.image_model.specs.declared.flags.TheConstants.{DIRTY_BITMAP}
use Rattle.image_model.specs.Openable.{IsReadable, IsOpenable}
use Rattle.image_model.specs.Superblock.{has_flag}
use Rattle.device_model.specs.Device.{DeviceKind}
use Rattle.device_model.specs.History.{History}
use Rattle.device_model.specs.Mode.{Mode, Journal, Bitmap, Direct, Recovery}
use Rattle.place_model.specs.Format.{DiskFormat, format_on}
use Rattle.place_model.specs.Left.{IsLeftInDirect, IsLeftPlaced, IsLeftInJournal, IsLeftInBitmap}
use Rattle.place_model.specs.Changed.{opened_format, opened_in}
use Rattle.place_model.specs.Opened.{blocks_of, device_format, opened_placed}

-- The image can be opened in this mode: in recovery mode one that can be read, and in each other mode the same ones.
abbrev pub CanOpenIn : Mode → Option (List ℕ) → ℕ → Image → Type 0
CanOpenIn Recovery key sectors image = IsReadable sectors image
CanOpenIn mode key sectors image = IsOpenable key sectors image

-- In this mode the image may be left, by its own superblock. In recovery mode it is the one at entry.
abbrev pub IsLeftIn : Mode → Option (List ℕ) → ℕ → Image → History → Image → Type 0
IsLeftIn Journal key sectors entry h left = IsLeftInJournal (format_on key sectors left) h left
IsLeftIn Bitmap key sectors entry h left = IsLeftInBitmap (format_on key sectors left) h left
IsLeftIn Direct key sectors entry h left = IsLeftInDirect (format_on key sectors left) h left
IsLeftIn Recovery key sectors entry h left = (sector : ℕ) → left sector ≡ entry sector

-- What a cut may leave of a device that was opened on an image: the same blocks with the same tags, as the mode says.
pub record MayBeLeftIn (mode : Mode) (key : Option (List ℕ)) (sectors : ℕ) (entry : Image) (h : History)
    (left : Image) : Type 0 where
  pub blocks : blocks_of (format_on key sectors left) ≡ blocks_of (format_on key sectors entry)
  pub left_is : IsLeftIn mode key sectors entry h left

-- The devices in this mode on disks of so many sectors, under a key.
abbrev pub kind_in : Mode → Option (List ℕ) → ℕ → DeviceKind
kind_in mode key sectors = record {
  CanOpen = CanOpenIn mode key sectors;
  format = λ image. device_format mode (opened_format mode (format_on key sectors image));
  opened = λ image. opened_in mode (format_on key sectors image) image;
  MayBeLeft = MayBeLeftIn mode key sectors;
}

-- ---- placed cells

-- The image can be opened in direct mode by superblock and geometry alone: it has no bitmap.
-- Source: Linux, drivers/md/dm-integrity.c, dm_integrity_ctr and SB_FLAG_DIRTY_BITMAP.
abbrev pub CanOpenPlaced : Option (List ℕ) → ℕ → Image → Type 0
CanOpenPlaced key sectors image =
    IsReadable sectors image × (has_flag DIRTY_BITMAP (format_on key sectors image).superblock.flags ≡ false)

-- What a cut may leave of a device that was opened so: the same blocks with the same tags, and their placed cells as direct
-- mode says.
pub record MayBeLeftPlaced (key : Option (List ℕ)) (sectors : ℕ) (entry : Image) (h : History)
    (left : Image) : Type 0 where
  pub blocks : blocks_of (format_on key sectors left) ≡ blocks_of (format_on key sectors entry)
  pub left_is : IsLeftPlaced (format_on key sectors left) h left

-- The devices in direct mode below the opening: they look at no journal.
-- Own: the kind of a device over its parts, for an opening that has emptied the journal before.
abbrev pub placed_kind : Option (List ℕ) → ℕ → DeviceKind
placed_kind key sectors = record {
  CanOpen = CanOpenPlaced key sectors;
  format = λ image. device_format Direct (format_on key sectors image);
  opened = λ image. opened_placed (format_on key sectors image) image;
  MayBeLeft = MayBeLeftPlaced key sectors;
}

-- ---- laws

-- What may be left by the format of the image at entry may be left of the device that was opened on it in journal mode.
abbrev pub JournalKindLaw : Type 0
JournalKindLaw = (d : DiskFormat) (entry : Image) (h : History) (left : Image)
    → format_on d.key d.sectors entry ≡ d → IsLeftInJournal d h left
    → MayBeLeftIn Journal d.key d.sectors entry h left

-- The same in bitmap mode,
abbrev pub BitmapKindLaw : Type 0
BitmapKindLaw = (d : DiskFormat) (entry : Image) (h : History) (left : Image)
    → format_on d.key d.sectors entry ≡ d → IsLeftInBitmap d h left
    → MayBeLeftIn Bitmap d.key d.sectors entry h left

-- and in direct mode.
abbrev pub DirectKindLaw : Type 0
DirectKindLaw = (d : DiskFormat) (entry : Image) (h : History) (left : Image)
    → format_on d.key d.sectors entry ≡ d → IsLeftInDirect d h left
    → MayBeLeftIn Direct d.key d.sectors entry h left

-- So it is of the placed cells.
abbrev pub PlacedKindLaw : Type 0
PlacedKindLaw = (d : DiskFormat) (entry : Image) (h : History) (left : Image)
    → format_on d.key d.sectors entry ≡ d → IsLeftPlaced d h left
    → MayBeLeftPlaced d.key d.sectors entry h left
