-- What an opening in journal mode leaves: the device that is open then.
use Rattle.std.specs.Prelude.{◌≡◌, List}
use Rattle.disk_model.specs.Disk.{Content, Image, last_image}
use Rattle.disk_model.specs.Moments.{HasNow}
use Rattle.device_model.specs.Mode.{Journal}
use Rattle.place_model.specs.Format.{DiskFormat}
use Rattle.place_model.specs.Opened.{awaiting_on}
use Rattle.journal_model.specs.JournaledDisk.{JournaledDisk}
use Rattle.journal_mode.specs.Journal.{empty_journal}
use Rattle.journal_mode.specs.Opening.{opened_standing}
use Rattle.device_parts.specs.Device.{rule_on}
use Rattle.journal_device.specs.declared.parts.JournalParts.{JournalParts}
use Rattle.journal_device.specs.Device.{IsWorking}

-- The device is the one that was just opened on an image of this format, of which these regions await. Its disk has the
-- format, its places are those of that, and tags are made by its rule.
pub record IsOpenOn (f : DiskFormat) (image : Image) (device : JournalParts) (moments : List Content) : Type 0 where
  pub disk : JournaledDisk
  pub format : disk.format ≡ f
  pub works : IsWorking (opened_standing f image disk) (awaiting_on Journal f image)
      device.state.journal device.state.recalculation device.parts.tags moments
  pub geometry : f.geometry ≡ device.parts.tags.geometry
  pub rule : device.parts.maker ≡ rule_on f

-- It is so by the image that reads gave.
abbrev pub HasOpenOn : DiskFormat → JournalParts → (before after : List Content) → Type 0
HasOpenOn f device before after = HasNow (λ start. IsOpenOn f (last_image start) device after) before

-- The journal lies where blocks and tags say, and no section of it is opened or committed.
abbrev pub HasEmptyRing : JournalParts → Type 0
HasEmptyRing device = device.state.journal
    ≡ empty_journal device.parts.tags.geometry device.state.journal.ring.next device.state.journal.ring.number
