-- Why an image is not checked.
-- Own: it is refused as an opening in any mode but recovery mode would refuse it, but for consent, since no tag is made.
-- With a bitmap, and where what is placed is judged, no journal is looked at.
use Rattle.std.specs.Prelude.{◌≡◌, ◌≢◌, ℕ, if◌then◌else◌, Option, None, option_map, List, Result, Err}
use Rattle.disk_model.specs.Disk.{Content, Image, last_image}
use Rattle.disk_model.specs.Moments.{HasNow}
use Rattle.image_model.specs.declared.flags.TheConstants.{DIRTY_BITMAP}
use Rattle.image_model.specs.Superblock.{has_flag}
use Rattle.image_model.specs.Openable.{JournalFault}
use Rattle.image_format.specs.declared.reading.ImageFormat.{ImageFormat}
use Rattle.image_format.specs.Format.{format_of}
use Rattle.image_refusal.specs.declared.call_fault.CallFault.{CallFault}
use Rattle.image_refusal.specs.declared.call_fault.CallFault.TheVariants.{Memory, Disk}
use Rattle.image_refusal.specs.declared.open_fault.OpenFault.{OpenFault}
use Rattle.judging_model.specs.Faults.{ByJournal, ImageFault, fault_by, fault_in, fault_in_format}
use Rattle.image_model.specs.declared.judged.What.{What}
use Rattle.image_model.specs.declared.judged.What.TheVariants.{Cells, Placed}

-- The fault of the journal of an image in this format, under a key, if it has one and is looked at,
abbrev pub journal_fault_for : What → (key : Option (List ℕ)) → ImageFormat → Image → Option JournalFault
journal_fault_for Cells key format image =
    if has_flag DIRTY_BITMAP format.fields.flags then None else fault_in_format key image format
journal_fault_for Placed key format image = None

-- and that of an image on a disk of so many sectors.
abbrev pub fault_for : What → (key : Option (List ℕ)) → (sectors : ℕ) → Image → Option ImageFault
fault_for what key sectors image =
    fault_by (λ format. journal_fault_for what key format image) (format_of sectors image)

-- Where neither memory nor the disk failed, an answer tells the fault that the image has, if it has one,
abbrev pub TellsFault : {T : Type 0} → Result T (CallFault OpenFault) → (Image → Option ImageFault) → List Content → Type 0
TellsFault result fault moments = result ≢ Err Memory → result ≢ Err Disk
    → HasNow (λ c. fault_in result ≡ fault (last_image c)) moments

-- and that of its journal.
abbrev pub TellsJournalFault : {T : Type 0} → Result T (CallFault OpenFault) → (Image → Option JournalFault) → List Content
    → Type 0
TellsJournalFault result fault moments = result ≢ Err Memory → result ≢ Err Disk
    → HasNow (λ c. fault_in result ≡ option_map ByJournal (fault (last_image c))) moments
