-- What an opening that makes a bitmap tells, by the format that was read.
use Rattle.std.proofs.Common.{◌≡◌, ℕ, false, sym, ◌∙◌, ap, subst, Option, Some, List}
use Rattle.std.proofs.lemmas.Bool.{true≢false}
use Rattle.disk_model.specs.Disk.{Content, EachImage, last_image, newest_only}
use Rattle.disk_model.specs.Identity.{DiskIdentity}
use Rattle.disk_model.specs.Moments.{EachMoment, content_now}
use Rattle.disk_model.proofs.MomentsLemmas.{EachMoment-weaker, FromStart-weaker}
use Rattle.image_model.specs.declared.flags.TheConstants.{DIRTY_BITMAP}
use Rattle.image_model.specs.Superblock.{has_flag}
use Rattle.device_model.specs.Mode.{Bitmap}
use Rattle.place_model.specs.Format.{DiskFormat, format_on}
use Rattle.place_model.specs.Kind.{kind_in}
use Rattle.change_model.specs.Opened.{KeepsEntry}
use Rattle.image_format.specs.declared.reading.ImageFormat.{ImageFormat}
use Rattle.image_format.specs.Format.{disk_format}
use Rattle.device_opening.specs.Changing.{LeavesMade, WritesBitmap}
use Rattle.change_model.specs.OpeningWrites.{IsOfBitmapOpening, IsOfMade}
use Rattle.device_parts.specs.Device.{CanOpenRead}
use Rattle.image_model.specs.Openable.{IsOpenable}
use Rattle.device_opening.specs.declared.judging.JudgedImage.{JudgedImage}
use Rattle.device_opening.specs.Judged.{HasBitmapFormat, HasJournalFormat, HasJudged}
use Rattle.device_opening.specs.Opening.{LeavesOpenable, OnlySyncs}
use Rattle.device_opening.proofs.MadeLemmas.{entry_may_be_left, entry_opens}
use Rattle.device_opening.proofs.MomentsLemmas.{since_from}

module _ (key : Option (List ℕ)) (disk : DiskIdentity) (format : ImageFormat) (a b : List Content) (found : HasJournalFormat disk.sectors format a)
    (leaves : LeavesMade (disk_format key disk.sectors format) a b) where
  own : (start : Content) → content_now a ≡ Some start → format_on key disk.sectors (last_image start) ≡ disk_format key disk.sectors format
  own start told = (found.reads key start told).own

  clear_on : (start : Content) → content_now a ≡ Some start → has_flag DIRTY_BITMAP (format_on key disk.sectors (last_image start)).superblock.flags ≡ false
  clear_on start told = ap (λ (x : DiskFormat). has_flag DIRTY_BITMAP x.superblock.flags) (own start told) ∙ found.format_.no_bitmap

  keeps_own : (start : Content) → content_now a ≡ Some start → EachMoment a b (EachImage (KeepsEntry (format_on key disk.sectors (last_image start)) (last_image start)))
  keeps_own start told = subst (λ (x : DiskFormat). EachMoment a b (EachImage (KeepsEntry x (last_image start)))) (sym (own start told)) (leaves.keeps start told)

  -- Each image that is left may be left of the device,
  pub made_left : LeavesOpenable Bitmap key disk.sectors a b
  made_left can = record {
    opens = since_from a b (λ start. EachImage (kind_in Bitmap key disk.sectors).CanOpen) (IsOfMade format.fields format.geometry) leaves.writes
        (λ start told. EachMoment-weaker (λ c each left is. entry_opens key disk.sectors (last_image start) left (each left is)) (keeps_own start told));
    left = since_from a b (λ start. EachImage ((kind_in Bitmap key disk.sectors).MayBeLeft (last_image start) ((kind_in Bitmap key disk.sectors).opened (last_image start)).history))
        (IsOfMade format.fields format.geometry) leaves.writes
        (λ start told. EachMoment-weaker (λ c each left is. entry_may_be_left key disk.sectors (last_image start) left (each left is) (clear_on start told)) (keeps_own start told));
  }

  -- and what is written makes a bitmap.
  pub made_writes : WritesBitmap key disk.sectors a b
  made_writes =
      EachMoment-weaker (FromStart-weaker a (IsOfMade format.fields format.geometry)
      (λ start. let d = format_on key disk.sectors (last_image start) in IsOfBitmapOpening d.superblock d.geometry start)
      (λ start c told of. record {
        found = λ set. absurd (true≢false (sym set ∙ clear_on start told));
        made = λ none. subst (λ (x : DiskFormat). IsOfMade x.superblock x.geometry start c) (sym (own start told)) of;
      })) leaves.writes

-- Where there is a bitmap the sync alone is such an opening.
pub found_writes : (key : Option (List ℕ)) (disk : DiskIdentity) (format : ImageFormat) (a b : List Content) → HasBitmapFormat disk.sectors format a → OnlySyncs a b → WritesBitmap key disk.sectors a b
found_writes key disk format a b found synced =
    EachMoment-weaker (FromStart-weaker a (λ start c. c ≡ newest_only start)
    (λ start. let d = format_on key disk.sectors (last_image start) in IsOfBitmapOpening d.superblock d.geometry start)
    (λ start c told is. record {
      found = λ set. is;
      made = λ none. absurd (true≢false (sym (ap (λ (x : DiskFormat). has_flag DIRTY_BITMAP x.superblock.flags) (found.reads key start told).own ∙ found.format_.bitmap) ∙ none));
    })) synced

-- An image that was judged can be opened.
pub can_made : (key : Option (List ℕ)) (disk : DiskIdentity) (format : ImageFormat) (a : List Content) → HasJournalFormat disk.sectors format a → (image : JudgedImage) → HasJudged disk.sectors image a
    → image.maker.key ≡ key → CanOpenRead Bitmap key disk.sectors a
can_made key disk format a found image judged same c told =
    subst (λ (k : Option (List ℕ)). IsOpenable k disk.sectors (last_image c)) same (judged.now c told).opens.openable
