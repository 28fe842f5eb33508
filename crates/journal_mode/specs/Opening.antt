-- A device in journal mode that was just recovered.
use Rattle.std.specs.Prelude.{◌≡◌, ℕ, Some, false, List}
use Rattle.disk_model.specs.Disk.{Content, Image}
use Rattle.disk_model.specs.Moments.{content_now}
use Rattle.image_model.specs.declared.flags.TheConstants.{DIRTY_BITMAP}
use Rattle.image_model.specs.Superblock.{has_flag}
use Rattle.device_model.specs.Mode.{Journal}
use Rattle.place_model.specs.Format.{DiskFormat}
use Rattle.place_model.specs.Opened.{device_format, next_on, opened_on}
use Rattle.journal_model.specs.JournaledDisk.{JournaledDisk}
use Rattle.journal_model.specs.Opening.{opened_disk}
use Rattle.journal_model.specs.Recovery.{IsRecovered}
use Rattle.tag_store.specs.Store.{Store, given_tags}
use Rattle.journal_mode.specs.Journal.{empty_journal}
use Rattle.journal_mode.specs.Standing.{JournalStanding, StandsAs}

-- The device that is opened on an image, over a disk that its recovery left.
abbrev pub opened_standing : DiskFormat → Image → JournaledDisk → JournalStanding
opened_standing f image disk = record {
  format = device_format Journal f;
  history = (opened_on Journal f image).history;
  counts = (opened_on Journal f image).progress.journal;
  disk = disk;
}

-- It stands so with the journal that goes on where the image's walk says, and where the recovery told.
abbrev pub RecoveredStandsLaw : Type 0
RecoveredStandsLaw = (f : DiskFormat) (image : Image) (number : ℕ) (store : Store) (moments : List Content)
    (c : Content) → has_flag DIRTY_BITMAP f.superblock.flags ≡ false → f.geometry ≡ store.geometry
    → content_now moments ≡ Some c
    → (is : IsRecovered (opened_disk f image) (next_on Journal f image) number (given_tags store c) c)
    → StandsAs (opened_standing f image is.now) (empty_journal f.geometry (next_on Journal f image) number)
    store moments
