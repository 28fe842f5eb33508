-- Which device of `device_model` a device in journal mode is, by what it keeps beside its disk and what the disk tells.
use Rattle.std.specs.Prelude.{◌≡◌, ℕ, Bool, false, List, [], Some}
use Rattle.disk_model.specs.Disk.{Content, Image}
use Rattle.disk_model.specs.Identity.{DiskIdentity}
use Rattle.disk_model.specs.Moments.{content_now}
use Rattle.image_model.specs.declared.flags.TheConstants.{DIRTY_BITMAP}
use Rattle.image_model.specs.Superblock.{has_flag}
use Rattle.device_model.specs.Device.{DeviceKind}
use Rattle.device_model.specs.Mode.{DeviceFormat, Journal}
use Rattle.device_model.specs.Progress as Model
use Rattle.device_model.specs.RequestLaws.{IsReached}
use Rattle.place_model.specs.Format.{DiskFormat}
use Rattle.place_model.specs.Kind.{kind_in}
use Rattle.place_model.specs.Opened.{device_format}
use Rattle.journal_model.specs.JournaledDisk.{JournaledDisk}
use Rattle.direct_laws.specs.MomentLaws.{IsLeftNow}
use Rattle.recalculate_laws.specs.Device.{HasBlocksOf}
use Rattle.recalculate_laws.specs.Formats.{AwaitsWork, IsFormatOf}
use Rattle.recalculate_laws.specs.Taking.{KeepsAwaitingNow}
use Rattle.recalculation.specs.declared.recalculating.Recalculation.{Recalculation}
use Rattle.recalculation.specs.Position.{CanBeWritten}
use Rattle.recalculation.specs.Recalculation.{IsRecalculationOf}
use Rattle.tag_store.specs.Store.{Store, given_tags}
use Rattle.request_slots.specs.Flight.{Flight}
use Rattle.request_slots.specs.InFlight.{IsFlightOf}
use Rattle.device_parts.specs.declared.condition.Condition.{Condition}
use Rattle.device_parts.specs.declared.condition.Condition.TheVariants.{Working}
use Rattle.device_parts.specs.declared.parts.Parts.{Parts}
use Rattle.device_parts.specs.Device as Devices
use Rattle.device_parts.specs.Device.{DeviceMode, HasDone, Standing, condition_of, rule_on}
use Rattle.journal_mode.specs.Journal.{PlacedRing}
use Rattle.journal_mode.specs.Standing.{JournalStanding, StandsAs}
use Rattle.journal_device.specs.declared.parts.JournalParts.{JournalParts}
use Rattle.journal_device.specs.declared.parts.JournalState.{JournalState}

-- ---- what is true of each device

-- What is kept is of this disk, as long as the device works, the journal lies on it, and the regions are those of its
-- blocks.
pub record IsReady (condition : Condition) (parts : Parts) (state : JournalState) (disk : DiskIdentity)
    (moments : List Content) : Type 0 where
  pub parts_ : condition ≡ Working → Devices.IsReady parts disk moments
  pub geometry : state.journal.ring.geometry ≡ parts.tags.geometry
  pub regions_ : state.recalculation.awaiting.geometry ≡ parts.tags.geometry

-- What a device in journal mode keeps.
abbrev pub kept : Parts → JournalState → JournalParts
kept parts state = record { parts = parts; state = state }

-- ---- over its disk

-- A device of `device_model` in journal mode: its format and state, its disk, and the image that it was opened on.
pub record JournaledStanding : Type 0 where
  pub format : DeviceFormat
  pub state : Model.DeviceState
  pub disk : JournaledDisk
  pub entry : Image

-- The same device after an event, with this disk.
abbrev pub standing_then : JournaledStanding → Model.Event → JournaledDisk → JournaledStanding
standing_then w event disk = record {
  format = w.format;
  state = Model.after_event w.format w.state event;
  disk = disk;
  entry = w.entry;
}

-- What its journal stands for.
abbrev pub standing_of : JournaledStanding → JournalStanding
standing_of w = record {
  format = w.format;
  history = w.state.history;
  counts = w.state.progress.journal;
  disk = w.disk;
}

-- The regions that await the tags of their blocks.
abbrev pub awaiting_in : JournaledStanding → ℕ → Bool
awaiting_in w = w.state.progress.regions.awaiting

-- What holds as long as a device works: what its journal stands for, with tags that are made in each region that does
-- not await; each region that does has a block to be recalculated; and these are the regions and the fields that are
-- kept.
pub record IsWorking (y : JournalStanding) (awaiting : ℕ → Bool) (journal : PlacedRing) (recalculation : Recalculation)
    (store : Store) (moments : List Content) : Type 0 where
  pub stands : StandsAs y journal store moments
  pub keeps : KeepsAwaitingNow y.disk awaiting (given_tags store) moments
  pub work : AwaitsWork y.disk.format awaiting
  pub recalc_ : IsRecalculationOf y.disk.superblock y.disk.geometry awaiting recalculation
  pub written : CanBeWritten y.disk.superblock

-- The kind of device that a disk is opened by in journal mode.
abbrev pub kind_on : DiskFormat → DeviceKind
kind_on d = kind_in Journal d.key d.sectors

-- What is kept is that of this device, whose disk tells its content, and has the blocks of the image that it was opened
-- on: the requests in flight, the tags' rule and, as long as it works, the journal and the regions that await. Each
-- image of the disk can be opened, and may be left by the history.
pub record IsOverDisk (w : JournaledStanding) (condition : Condition) (parts : Parts) (journal : PlacedRing)
    (recalculation : Recalculation) (moments : List Content) : Type 0 where
  pub reached : IsReached w.format w.state
  pub format : w.format ≡ device_format Journal w.disk.format
  pub no_bitmap : has_flag DIRTY_BITMAP w.disk.superblock.flags ≡ false
  pub opened : HasBlocksOf w.entry w.disk
  pub flight : IsFlightOf w.format parts.slots w.state.progress.requests
  pub rule : parts.maker ≡ rule_on w.disk.format
  pub condition_ : w.state.condition ≡ condition_of condition
  pub told : Content
  pub is_told : content_now moments ≡ Some told
  pub works : condition ≡ Working → IsWorking (standing_of w) (awaiting_in w) journal recalculation parts.tags moments
  pub left : IsLeftNow (kind_on w.disk.format) w.entry w.state.history moments

-- ---- as a device of any mode

-- The device, over this disk.
abbrev pub standing_on : Standing → JournaledDisk → JournaledStanding
standing_on w disk = record { format = w.format; state = w.state; disk = disk; entry = w.entry }

-- It is one over some disk of its format, but for what is to be recalculated.
pub record IsJournaled (w : Standing) (condition : Condition) (device : JournalParts) (moments : List Content)
    : Type 0 where
  pub disk : JournaledDisk
  pub format : IsFormatOf w.on disk.format
  pub over : IsOverDisk (standing_on w disk) condition device.parts device.state.journal device.state.recalculation moments

-- Journal mode.
abbrev pub in_journal : DeviceMode JournalParts
in_journal = record {
  IsDevice = IsJournaled;
  IsReady = λ condition device disk moments. IsReady condition device.parts device.state disk moments;
  parts = λ device. device.parts;
  mode_of = λ device. Journal;
  kind = λ w. kind_on w.on;
}

-- ---- a law

-- An event keeps the device that calls no disk, and changes nothing but its requests.
abbrev pub QuietLaw : Type 0
QuietLaw = (w : Standing) (condition : Condition) (device : JournalParts) (flight : Flight) (moments : List Content)
    (event : Model.Event) → IsJournaled w condition device moments
    → let result = Model.event_result w.format w.state event in result.changes ≡ []
    → result.progress.journal ≡ w.state.progress.journal → result.progress.regions ≡ w.state.progress.regions
    → IsFlightOf w.format flight result.progress.requests
    → (Model.after_event w.format w.state event).condition ≡ w.state.condition
    → HasDone in_journal w event condition (kept (record device.parts { slots = flight }) device.state) moments moments
