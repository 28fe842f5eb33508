-- What an opening writes that recovers a journal or makes one, by the format that was read, and what it leaves.
use Rattle.std.proofs.Common.{◌≡◌, ℕ, true, false, sym, ◌∙◌, ap, subst, Option, Some, List}
use Rattle.std.proofs.lemmas.Bool.{true≢false}
use Rattle.disk_model.specs.Disk.{Content, EachImage, Image, last_image}
use Rattle.disk_model.specs.Identity.{DiskIdentity}
use Rattle.disk_model.specs.Moments.{EachMoment, EachSince, content_now}
use Rattle.disk_model.proofs.MomentsLemmas.{EachMoment-weaker, FromStart-weaker}
use Rattle.image_model.specs.declared.flags.TheConstants.{DIRTY_BITMAP}
use Rattle.image_model.specs.Superblock.{has_flag}
use Rattle.device_model.specs.Mode.{Mode}
use Rattle.place_model.specs.Format.{DiskFormat, format_on}
use Rattle.place_model.specs.Kind.{kind_in}
use Rattle.change_model.specs.Opened.{KeepsEntry}
use Rattle.image_format.specs.declared.reading.ImageFormat.{ImageFormat}
use Rattle.image_format.specs.Format.{disk_format}
use Rattle.replay.specs.Emptied.{IsRecoveredAlready}
use Rattle.place_model.specs.EmptyJournal.{KeepsEmpty}
use Rattle.device_opening.specs.JournalMaking.{KeepsClosed, LeavesMadeJournal, WritesDirect, WritesJournal}
use Rattle.change_model.specs.OpeningWrites.{IsOfDirectOpening, IsOfJournalOpening, IsOfMadeJournal}
use Rattle.device_opening.specs.Judged.{HasBitmapFormat, HasJournalFormat}
use Rattle.device_opening.specs.Opening.{KeepsRecovered, LeavesOpenable}
use Rattle.place_model.specs.RecoveryWrites.{IsOfOpening}
use Rattle.device_opening.proofs.MomentsLemmas.{EachMoment-both, each_from, since_from}

-- What an opening in a mode writes, by the format of the image at the start.
abbrev JournalBy : Option (List ℕ) → DiskIdentity → (start c : Content) → Type 0
JournalBy key disk start = let d = format_on key disk.sectors (last_image start) in IsOfJournalOpening d.superblock d.geometry start

abbrev DirectBy : Option (List ℕ) → DiskIdentity → (start c : Content) → Type 0
DirectBy key disk start = let d = format_on key disk.sectors (last_image start) in IsOfDirectOpening d.superblock d.geometry start

-- ---- of an image with a journal

module _ (key : Option (List ℕ)) (disk : DiskIdentity) (format : ImageFormat) (a b : List Content) (found : HasJournalFormat disk.sectors format a) where
  own : (start : Content) → content_now a ≡ Some start → format_on key disk.sectors (last_image start) ≡ disk_format key disk.sectors format
  own start told = (found.reads key start told).own

  clear_on : (start : Content) → content_now a ≡ Some start → has_flag DIRTY_BITMAP (format_on key disk.sectors (last_image start)).superblock.flags ≡ false
  clear_on start told = ap (λ (x : DiskFormat). has_flag DIRTY_BITMAP x.superblock.flags) (own start told) ∙ found.format_.no_bitmap

  recovers : (start c : Content) → content_now a ≡ Some start → IsOfOpening format.geometry start c → JournalBy key disk start c
  recovers start c told of = record {
    found = λ none. subst (λ (x : DiskFormat). IsOfOpening x.geometry start c) (sym (own start told)) of;
    made = λ set. absurd (true≢false (sym set ∙ clear_on start told));
  }

  -- A recovery is an opening in journal mode,
  pub found_writes : EachSince (IsOfOpening format.geometry) a b → WritesJournal key disk.sectors a b
  found_writes writes = EachMoment-weaker (FromStart-weaker a (IsOfOpening format.geometry) (JournalBy key disk) recovers) writes

  pub found_closed : KeepsRecovered (λ image. format.geometry) a b → KeepsClosed key disk.sectors a b
  found_closed keeps start told none already = keeps start told (subst (λ (x : DiskFormat). IsRecoveredAlready x.geometry (last_image start)) (own start told) already)

  -- and with an emptying one in direct mode.
  pub found_writes_direct : EachSince (IsOfOpening format.geometry) a b → EachSince (KeepsEmpty format.geometry) a b → WritesDirect key disk.sectors a b
  found_writes_direct writes keeps =
      since_from a b (DirectBy key disk) (IsOfOpening format.geometry) writes
      (λ start told. EachMoment-weaker (λ c both. record {
        opening = recovers start c told both.0;
        keeps = λ none. subst (λ (x : DiskFormat). KeepsEmpty x.geometry start c) (sym (own start told)) both.1;
      }) (EachMoment-both (each_from (IsOfOpening format.geometry) start told writes) (each_from (KeepsEmpty format.geometry) start told keeps)))

-- ---- of an image with a bitmap

module _ (key : Option (List ℕ)) (disk : DiskIdentity) (format : ImageFormat) (a b : List Content) (found : HasBitmapFormat disk.sectors format a) where
  own_bitmap : (start : Content) → content_now a ≡ Some start → format_on key disk.sectors (last_image start) ≡ disk_format key disk.sectors format
  own_bitmap start told = (found.reads key start told).own

  pub set_on : (start : Content) → content_now a ≡ Some start → has_flag DIRTY_BITMAP (format_on key disk.sectors (last_image start)).superblock.flags ≡ true
  set_on start told = ap (λ (x : DiskFormat). has_flag DIRTY_BITMAP x.superblock.flags) (own_bitmap start told) ∙ found.format_.bitmap

  makes : (start c : Content) → content_now a ≡ Some start → IsOfMadeJournal format.fields format.geometry start c → JournalBy key disk start c
  makes start c told of = record {
    found = λ none. absurd (true≢false (sym (set_on start told) ∙ none));
    made = λ set. subst (λ (x : DiskFormat). IsOfMadeJournal x.superblock x.geometry start c) (sym (own_bitmap start told)) of;
  }

  -- The making of a journal is an opening in journal mode, and one in direct mode.
  pub made_writes : EachSince (IsOfMadeJournal format.fields format.geometry) a b → WritesJournal key disk.sectors a b
  made_writes writes = EachMoment-weaker (FromStart-weaker a (IsOfMadeJournal format.fields format.geometry) (JournalBy key disk) makes) writes

  pub made_writes_direct : EachSince (IsOfMadeJournal format.fields format.geometry) a b → WritesDirect key disk.sectors a b
  made_writes_direct writes =
      EachMoment-weaker (FromStart-weaker a (IsOfMadeJournal format.fields format.geometry) (DirectBy key disk)
      (λ start c told of. record { opening = makes start c told of; keeps = λ none. absurd (true≢false (sym (set_on start told) ∙ none)) })) writes

  pub made_closed : KeepsClosed key disk.sectors a b
  made_closed start told none already = absurd (true≢false (sym (set_on start told) ∙ none))

  -- Each image that is left may be left of the device.
  pub made_left : (mode : Mode) → ((start left : Image) → has_flag DIRTY_BITMAP (format_on key disk.sectors start).superblock.flags ≡ true → KeepsEntry (format_on key disk.sectors start) start left
      → (kind_in mode key disk.sectors).CanOpen left × (kind_in mode key disk.sectors).MayBeLeft start ((kind_in mode key disk.sectors).opened start).history left)
      → LeavesMadeJournal (disk_format key disk.sectors format) a b → LeavesOpenable mode key disk.sectors a b
  made_left mode may leaves can = record {
    opens = since_from a b (λ start. EachImage (kind_in mode key disk.sectors).CanOpen) (IsOfMadeJournal format.fields format.geometry) leaves.writes
        (λ start told. EachMoment-weaker (λ c each left is. (may (last_image start) left (set_on start told) (each left is)).0) (keeps_own start told));
    left = since_from a b (λ start. EachImage ((kind_in mode key disk.sectors).MayBeLeft (last_image start) ((kind_in mode key disk.sectors).opened (last_image start)).history))
        (IsOfMadeJournal format.fields format.geometry) leaves.writes
        (λ start told. EachMoment-weaker (λ c each left is. (may (last_image start) left (set_on start told) (each left is)).1) (keeps_own start told));
  }
    where
      keeps_own : (start : Content) → content_now a ≡ Some start → EachMoment a b (EachImage (KeepsEntry (format_on key disk.sectors (last_image start)) (last_image start)))
      keeps_own start told = subst (λ (x : DiskFormat). EachMoment a b (EachImage (KeepsEntry x (last_image start)))) (sym (own_bitmap start told)) (leaves.keeps start told)
