-- What a device in journal mode is at opening, and where writing then goes on in its journal.
-- Own: as the recovery.
use Rattle.std.specs.Prelude.{◌≡◌, ℕ, ◌<◌, Bool, false, List, length, Ok}
use Rattle.disk_model.specs.Disk.{Content}
use Rattle.image_model.specs.Cells.{Cell}
use Rattle.image_model.specs.Geometry.{IsGeometry}
use Rattle.image_model.specs.Grid.{walk_of}
use Rattle.image_model.specs.declared.journal_plan.State.TheVariants.{Rest, Mixed, Erasing, Blank}
use Rattle.image_model.specs.declared.journal_plan.Plan.{Plan}
use Rattle.device_model.specs.Mode.{DeviceFormat, Journal}
use Rattle.device_model.specs.Progress.{opened_device}
use Rattle.place_model.specs.Format.{DiskFormat}
use Rattle.place_model.specs.Opened.{device_format, next_on, opened_on}
use Rattle.journal_model.specs.Opening.{opened_disk}
use Rattle.image_model.specs.declared.flags.TheConstants.{DIRTY_BITMAP}
use Rattle.image_model.specs.Superblock.{has_flag}
use Rattle.disk_model.specs.Disk.{Image}
use Rattle.journal_model.specs.Entries.{cell_after}
use Rattle.journal_model.specs.JournaledDisk.{JournaledDisk, IsSound, Rests}
use Rattle.journal_model.specs.Recovery.{IsRecovered}
use Rattle.journal_model.specs.Ring.{empty_ring}
use Rattle.journal_laws.specs.Device.{IsJournalDevice}

-- A device opens on a disk at rest whose entries are all settled and change no cell. The cells at opening are told in any way.
abbrev pub OpeningLaw : Type 0
OpeningLaw = (f : DeviceFormat) (d : JournaledDisk) (base : ℕ → Cell) (set_bits awaiting : ℕ → Bool)
    → f ≡ device_format Journal d.format → IsSound d → Rests d → d.settled ≡ length d.entries
    → ((b : ℕ) → b < d.geometry.blocks → cell_after d.geometry d.base d.entries b ≡ d.base b)
    → ((b : ℕ) → b < d.geometry.blocks → d.base b ≡ base b)
    → IsJournalDevice f (opened_device base d.next set_bits awaiting) d (empty_ring d.geometry d.next d.number)

-- So it does on what a recovery of an image leaves, where writing goes on by that image's walk.
abbrev pub RecoveredLaw : Type 0
RecoveredLaw = (d : DiskFormat) (image : Image) (number : ℕ) (tags : ℕ → List ℕ) (c : Content)
    → has_flag DIRTY_BITMAP d.superblock.flags ≡ false
    → (is : IsRecovered (opened_disk d image) (next_on Journal d image) number tags c)
    → IsJournalDevice (device_format Journal d) (opened_on Journal d image) is.now
    (empty_ring is.now.geometry is.now.next is.now.number)

-- What the walk of an image says of where writing goes on: a journal at rest goes on there, and any other at its start.
pub record TellsNext (d : DiskFormat) (image : Image) (plan : Plan) : Type 0 where
  pub rest : (next number : ℕ) → plan.state ≡ Rest next number → (next_on Journal d image ≡ next)
      × Rests (record (opened_disk d image) { next = next; number = number })
  pub mixed : (number : ℕ) → plan.state ≡ Mixed number → next_on Journal d image ≡ 0
  pub erasing : (number : ℕ) → plan.state ≡ Erasing number → next_on Journal d image ≡ 0
  pub blank : (number : ℕ) → plan.state ≡ Blank number → next_on Journal d image ≡ 0

-- It says so of every journal that a scan accepts.
abbrev pub NextLaw : Type 0
NextLaw = (d : DiskFormat) (image : Image) (plan : Plan) → IsGeometry d.geometry d.sectors
    → walk_of d.geometry image ≡ Ok plan → TellsNext d image plan
