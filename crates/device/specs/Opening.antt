-- What an opening leaves, in the mode that is asked for.
use Rattle.std.specs.Prelude.{◌≡◌, ◌≢◌, ℕ, Option, None, List, Err}
use Rattle.disk_model.specs.Disk.{Content, HasNothingPending, Image, last_image}
use Rattle.disk_model.specs.Identity.{DiskIdentity}
use Rattle.disk_model.specs.Moments.{HasNow}
use Rattle.device_model.specs.Mode as Model
use Rattle.image_refusal.specs.declared.call_fault.CallFault.{CallFault}
use Rattle.image_refusal.specs.declared.call_fault.CallFault.TheVariants as Faults
use Rattle.image_refusal.specs.declared.open_fault.OpenFault.{OpenFault}
use Rattle.judging_model.specs.Faults.{ImageFault, fault_in, fault_of, format_fault_of}
use Rattle.device_parts.specs.Device.{HasOpened}
use Rattle.device_opening.specs.Changing.{WritesBitmap}
use Rattle.device_opening.specs.JournalMaking.{WritesDirect, WritesJournal}
use Rattle.device_opening.specs.Opening.{KeepsRefused, LeavesOpenable}
use Rattle.device.specs.declared.mode.DeviceParts.{DeviceParts}
use Rattle.device.specs.Device.{any_mode}
use Rattle.device.specs.declared.opening.OpenMode.{OpenMode}
use Rattle.device.specs.declared.opening.OpenMode.TheVariants.{Bitmap, Direct, Journal, Recovery}

-- The mode that is asked for.
abbrev pub asked_mode : OpenMode → Model.Mode
asked_mode (Direct consent) = Model.Direct
asked_mode (Journal consent) = Model.Journal
asked_mode (Bitmap consent) = Model.Bitmap
asked_mode Recovery = Model.Recovery

-- The fault of an image on a disk of so many sectors, where it is to be opened so under a key.
abbrev pub fault_in_mode : OpenMode → Option (List ℕ) → (sectors : ℕ) → Image → Option ImageFault
fault_in_mode (Direct consent) key sectors image = fault_of key consent sectors image
fault_in_mode (Journal consent) key sectors image = fault_of key consent sectors image
fault_in_mode (Bitmap consent) key sectors image = fault_of key consent sectors image
fault_in_mode Recovery key sectors image = format_fault_of sectors image

-- The device is open in that mode on the image that reads gave, which is one that can be opened. No request is in
-- flight.
abbrev pub HasOpenedIn : OpenMode → Option (List ℕ) → DiskIdentity → (before after : List Content) → DeviceParts
    → Type 0
HasOpenedIn mode key disk before after parts = HasOpened any_mode (asked_mode mode) key disk parts before after

-- That image has no fault in the mode.
abbrev pub HasNoFault : OpenMode → Option (List ℕ) → (sectors : ℕ) → List Content → Type 0
HasNoFault mode key sectors moments = HasNow (λ c. fault_in_mode mode key sectors (last_image c) ≡ None) moments

-- In direct mode nothing is pending once it is open.
abbrev pub IsSettledIn : OpenMode → List Content → Type 0
IsSettledIn (Direct consent) moments = HasNow HasNothingPending moments
IsSettledIn (Journal consent) moments = Unit {0}
IsSettledIn (Bitmap consent) moments = Unit {0}
IsSettledIn Recovery moments = Unit {0}

-- The disk is not opened in this mode. The image tells why, where the disk did not fail and there was memory; and
-- unless the disk failed it is as it was, not even synced.
pub record IsRefused (mode : OpenMode) (key : Option (List ℕ)) (disk : DiskIdentity) (before after : List Content)
    (fault : CallFault OpenFault) : Type 0 where
  pub told : fault ≢ Faults.Disk → fault ≢ Faults.Memory
      → HasNow (λ c. fault_in {T = DeviceParts} (Err fault) ≡ fault_in_mode mode key disk.sectors (last_image c)) before
  pub untouched : fault ≢ Faults.Disk → after ≡ before

-- What an opening may write: what a recovery does, and what a change of the mode does. In direct mode the empty
-- sections are those of the emptying, too, and where the journal was empty nothing of it is written. In bitmap mode
-- nothing is of an image with a bitmap; in recovery mode the disk is not synced either.
abbrev pub WritesInOpening : OpenMode → (key : Option (List ℕ)) → (sectors : ℕ) → (before after : List Content)
    → Type 0
WritesInOpening (Direct consent) key sectors before after = WritesDirect key sectors before after
WritesInOpening (Journal consent) key sectors before after = WritesJournal key sectors before after
WritesInOpening (Bitmap consent) key sectors before after = WritesBitmap key sectors before after
WritesInOpening Recovery key sectors before after = after ≡ before

-- The disk is the one that it was. Where the image could be opened it still can at each moment, and nothing of it is
-- lost. One that is refused is synced at most.
pub record LeavesOpening (mode : OpenMode) (key : Option (List ℕ)) (disk now : DiskIdentity)
    (before after : List Content) : Type 0 where
  pub identity : now ≡ disk
  pub left : LeavesOpenable (asked_mode mode) key disk.sectors before after
  pub refused : KeepsRefused (fault_in_mode mode key disk.sectors) before after
  pub writes : WritesInOpening mode key disk.sectors before after
