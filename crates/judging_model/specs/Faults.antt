-- Why a disk is not opened: the fault that is told, and the one that an image has, in journal, bitmap and direct mode
-- alike.
-- Own: the superblock is judged before the geometry, that before consent, and the journal last.
use Rattle.std.specs.Prelude.{ℕ, Bool, false, if◌then◌else◌, is_some, Option, Some, None, option_map, List, Result, Ok, Err}
use Rattle.disk_model.specs.Disk.{Image}
use Rattle.image_model.specs.Bitmap.{is_dirty, some_await}
use Rattle.image_model.specs.Cells.{salt_of}
use Rattle.image_model.specs.Geometry.{Geometry, regions}
use Rattle.image_model.specs.Openable as model
use Rattle.image_model.specs.Openable.{journal_fault_of}
use Rattle.image_model.specs.Superblock.{has_flag}
use Rattle.image_model.specs.declared.flags.TheConstants.{DIRTY_BITMAP}
use Rattle.device_model.specs.Regions.{least_region}
use Rattle.image_refusal.specs.declared.call_fault.CallFault.{CallFault}
use Rattle.image_refusal.specs.declared.call_fault.CallFault.TheVariants.{Memory, Disk, Refused}
use Rattle.image_refusal.specs.declared.open_fault.HeadFault.{HeadFault}
use Rattle.image_refusal.specs.declared.open_fault.OpenFault.{OpenFault}
use Rattle.image_refusal.specs.declared.open_fault.OpenFault.TheVariants as Causes
use Rattle.image_refusal.specs.declared.open_fault.OpenFault.TheVariants.{Head, Journal}
use Rattle.image_refusal.specs.Causes.{as_fault}
use Rattle.image_format.specs.declared.reading.ImageFormat.{ImageFormat}
use Rattle.image_format.specs.Format.{format_of}
use Rattle.judging_model.specs.declared.consent.Consent.{Consent}
use Rattle.judging_model.specs.declared.consent.Consent.TheVariants.{Given, Withheld}

-- ---- what an image has

-- Why an image is refused: by its first sector; for want of consent, with the flags of the superblock; or by its
-- journal.
pub data ImageFault : Type 0 where
  ByHead : (fault : HeadFault) → ImageFault
  ByConsent : (flags : ℕ) → ImageFault
  ByJournal : (fault : model.JournalFault) → ImageFault

-- The fault of an image, by what its first sector tells: of the format, and else of the journal, if that has one.
abbrev pub fault_by : (journal : ImageFormat → Option model.JournalFault) → Result ImageFormat HeadFault
    → Option ImageFault
fault_by journal (Ok format) = option_map ByJournal (journal format)
fault_by journal (Err fault) = Some (ByHead fault)

-- The fault of the journal of an image in this format, under a key, if it has one.
abbrev pub fault_in_format : (key : Option (List ℕ)) → Image → ImageFormat → Option model.JournalFault
fault_in_format key image format = journal_fault_of key (salt_of format.fields) format.geometry image

-- Tags under a key would be made anew of bytes that no tag vouches for, where some await them, without consent to that.
-- Source: Linux, drivers/md/dm-integrity.c, legacy_recalculate.
abbrev pub lacks_consent : (key : Option (List ℕ)) → Consent → (some_await : Bool) → Bool
lacks_consent None consent some_await = false
lacks_consent (Some key) Given some_await = false
lacks_consent (Some key) Withheld some_await = some_await

-- The fault of an image in this format without a bitmap: want of consent, where by the fields some block awaits; and
-- else of the journal.
abbrev pub journal_fault : (key : Option (List ℕ)) → Consent → Image → ImageFormat → Option ImageFault
journal_fault key consent image format =
    if lacks_consent key consent (some_await format.fields)
    then Some (ByConsent format.fields.flags)
    else option_map ByJournal (fault_in_format key image format)

-- The image has a region whose bit is set.
abbrev pub has_dirty_region : Geometry → Image → Bool
has_dirty_region g image = is_some (least_region (regions g) (is_dirty g image))

-- The fault of an image in this format with a bitmap: want of consent, where some bit is set.
abbrev pub dirty_fault : (key : Option (List ℕ)) → Consent → Image → ImageFormat → Option ImageFault
dirty_fault key consent image format =
    if lacks_consent key consent (has_dirty_region format.geometry image)
    then Some (ByConsent format.fields.flags)
    else None

-- The fault of an image, by what its first sector tells: of the format; else with a bitmap by its bits, and without one
-- by its fields and its journal.
abbrev pub fault_by_format : (key : Option (List ℕ)) → Consent → Image → Result ImageFormat HeadFault
    → Option ImageFault
fault_by_format key consent image (Ok format) =
    if has_flag DIRTY_BITMAP format.fields.flags
    then dirty_fault key consent image format
    else journal_fault key consent image format
fault_by_format key consent image (Err fault) = Some (ByHead fault)

-- The fault of an image on a disk of so many sectors, in each of the three modes.
abbrev pub fault_of : (key : Option (List ℕ)) → Consent → (sectors : ℕ) → Image → Option ImageFault
fault_of key consent sectors image = fault_by_format key consent image (format_of sectors image)

-- The fault of an image on a disk of so many sectors in recovery mode, if it has one: by superblock and geometry alone,
-- whatever its flags, its journal and its bitmap say.
abbrev pub format_fault_of : (sectors : ℕ) → Image → Option ImageFault
format_fault_of sectors image = fault_by (λ format. None) (format_of sectors image)

-- ---- what is told

-- The fault of an image for which it is refused,
abbrev pub image_fault : OpenFault → ImageFault
image_fault (Head fault) = ByHead fault
image_fault (Causes.Consent flags) = ByConsent flags
image_fault (Journal fault) = ByJournal (as_fault fault)

-- and the one that an answer tells, if it tells one.
abbrev pub fault_in : {T : Type 0} → Result T (CallFault OpenFault) → Option ImageFault
fault_in (Ok answer) = None
fault_in (Err Memory) = None
fault_in (Err Disk) = None
fault_in (Err (Refused cause)) = Some (image_fault cause)
