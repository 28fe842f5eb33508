-- What is kept of an image that is checked, and when it is right of a disk.
use Rattle.std.specs.Prelude.{◌≡◌, ℕ, true, false, Bool, ◌||◌, if◌then◌else◌, List, Option, Some, None, is_some}
use Rattle.disk_model.specs.Disk.{Content, Image, last_image}
use Rattle.disk_model.specs.Identity.{DiskIdentity, IsBound}
use Rattle.disk_model.specs.Moments.{HasNow}
use Rattle.image_model.specs.declared.flags.TheConstants.{DIRTY_BITMAP}
use Rattle.image_model.specs.Bitmap.{awaits}
use Rattle.image_model.specs.Cells.{salt_of}
use Rattle.image_model.specs.Superblock.{has_flag}
use Rattle.image_format.specs.declared.reading.ImageFormat.{ImageFormat}
use Rattle.image_format.specs.Format.{IsFormat, disk_format}
use Rattle.hmac_tag.specs.TagMaker.{TagRule}
use Rattle.journal_reading.specs.Newest.{newest_in}
use Rattle.place_model.specs.Format.{DiskFormat, format_on}
use Rattle.sector_window.specs.Window.{HasRoom, Window}
use Rattle.check_model.specs.Bad.{bad_block, bad_blocks, bad_placed, first_bad_from}
use Rattle.check_model.specs.declared.bad.Bad.{Bad}
use Rattle.image_model.specs.declared.judged.What.{What}
use Rattle.image_model.specs.declared.judged.What.TheVariants.{Cells, Placed}
use Rattle.check_model.specs.Report.{awaiting_in}
use Rattle.image_check.specs.Index.{IsIndexOn}

-- Its format, the rule of its tags, what is judged, which blocks have an entry in its journal, where that is looked at, and
-- what was read last.
pub record Checked : Type 0 where
  pub format : ImageFormat
  pub rule : TagRule
  pub what : What
  pub journal : Option (List (ℕ × ℕ))
  pub tags : Window
  pub blocks : Window
  pub bits : Window

-- The block has an entry in the journal that is looked at.
abbrev pub has_entry : Option (List (ℕ × ℕ)) → ℕ → Bool
has_entry None b = false
has_entry (Some newest) b = is_some (newest_in newest b)

-- A journal that is looked at is that of an image without a bitmap.
pub record IsLookedAt (rule : TagRule) (format : ImageFormat) (image : Image) (newest : List (ℕ × ℕ)) : Type 0 where
  pub no_bitmap : has_flag DIRTY_BITMAP format.fields.flags ≡ false
  pub index : IsIndexOn rule.key rule.salt format.geometry image newest

-- Where cells are judged, the journal that is looked at is the image's, and where none is, there is a bitmap. Where what is
-- placed is judged, none is.
abbrev pub IsJournalOf : What → TagRule → ImageFormat → Image → Option (List (ℕ × ℕ)) → Type 0
IsJournalOf Cells rule format image None = has_flag DIRTY_BITMAP format.fields.flags ≡ true
IsJournalOf Cells rule format image (Some newest) = IsLookedAt rule format image newest
IsJournalOf Placed rule format image journal = journal ≡ None

-- Block b awaits its tag, where that matters: a cell that awaits has the tag of its bytes.
abbrev pub awaits_in : What → ImageFormat → Image → ℕ → Bool
awaits_in Cells format image b = awaits format.fields format.geometry image b
awaits_in Placed format image b = false

-- Block b is not judged by what is placed: it has an entry, which was judged, or it awaits its tag.
abbrev pub is_passed : What → ImageFormat → Option (List (ℕ × ℕ)) → Image → ℕ → Bool
is_passed what format journal image b = has_entry journal b || awaits_in what format image b

-- Block b, where it is bad by what is kept.
abbrev pub bad_kept : What → TagRule → ImageFormat → Option (List (ℕ × ℕ)) → Image → ℕ → Option Bad
bad_kept what rule format journal image b =
    if is_passed what format journal image b then None else bad_placed rule.key rule.salt format.geometry image b

-- All that is kept is of this disk, which is bound.
pub record IsCheckOf (image : Checked) (disk : DiskIdentity) (moments : List Content) : Type 0 where
  pub bound : IsBound disk.name
  pub format : IsFormat disk.sectors image.format
  pub salt : image.rule.salt ≡ salt_of image.format.fields
  pub size : image.rule.size ≡ image.format.geometry.shape.tag_size
  pub own : HasNow (λ c. format_on image.rule.key disk.sectors (last_image c)
      ≡ disk_format image.rule.key disk.sectors image.format) moments
  pub journal : HasNow (λ c. IsJournalOf image.what image.rule image.format (last_image c) image.journal) moments
  pub tags : HasRoom 2 image.tags moments
  pub blocks : HasRoom 8 image.blocks moments
  pub bits : HasRoom 1 image.bits moments

-- It is the same image, whatever was read of it.
pub record IsSameCheck (old new : Checked) : Type 0 where
  pub format : new.format ≡ old.format
  pub rule : new.rule ≡ old.rule
  pub what : new.what ≡ old.what
  pub journal : new.journal ≡ old.journal

-- The format that an image has on a disk of so many sectors, under the key of the check.
abbrev pub checked_format : Checked → (sectors : ℕ) → Image → DiskFormat
checked_format image sectors found = format_on image.rule.key sectors found

-- Block b of an image that is checked, where it is bad by what is looked at,
abbrev pub bad_at : Checked → (sectors : ℕ) → Image → (b : ℕ) → Option Bad
bad_at checked sectors image b = bad_block checked.what (checked_format checked sectors image) image b

-- the first bad block of it from a block on, if there is one,
abbrev pub bad_behind : Checked → (sectors : ℕ) → Image → (from : ℕ) → Option Bad
bad_behind checked sectors image from =
    first_bad_from checked.what (checked_format checked sectors image) image from

-- and all its bad blocks, in order.
abbrev pub bad_in : Checked → (sectors : ℕ) → Image → List Bad
bad_in checked sectors image = bad_blocks checked.what (checked_format checked sectors image) image

-- How many of its blocks await their tags.
abbrev pub awaiting_at : Checked → (sectors : ℕ) → Image → ℕ
awaiting_at checked sectors image = awaiting_in (checked_format checked sectors image) image
