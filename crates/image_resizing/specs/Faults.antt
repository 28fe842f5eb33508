-- Why an image was not resized: the fault that is told, and the one that the image has.
-- Own: its superblock is judged before its geometry, that before the geometry that it is to have, and the journal last.
use Rattle.std.specs.Prelude.{◌≡◌, ◌≢◌, ℕ, Option, Some, None, List, Result, Ok, Err}
use Rattle.disk_model.specs.Disk.{Content, last_image}
use Rattle.disk_model.specs.Moments.{HasNow}
use Rattle.device_model.specs.Refusals.{ImageFault, ByGeometry, ByJournal, BySuperblock}
use Rattle.image_format.specs.declared.reading.ImageFormat.{ImageFormat}
use Rattle.resize_model.specs.Refusals.{fault_by_journal, resize_fault_of}
use Rattle.image_refusal.specs.declared.call_fault.CallFault.{CallFault}
use Rattle.image_refusal.specs.declared.call_fault.CallFault.TheVariants.{Memory, Disk, Refused}
use Rattle.image_refusal.specs.declared.open_fault.HeadFault.{HeadFault}
use Rattle.image_refusal.specs.declared.open_fault.HeadFault.TheVariants.{Super, Geom}
use Rattle.image_refusal.specs.declared.resize_fault.ResizeFault.{ResizeFault}
use Rattle.image_refusal.specs.declared.resize_fault.ResizeFault.TheVariants.{Head, Growth, Journal}
use Rattle.image_refusal.specs.Causes.{as_fault}

-- ---- what is told

-- The fault of an image for which it is refused, of its first sector
abbrev pub head_fault : HeadFault → ImageFault
head_fault (Super fault) = BySuperblock fault
head_fault (Geom fault) = ByGeometry fault

-- and of all that is judged.
abbrev pub image_fault : ResizeFault → ImageFault
image_fault (Head fault) = head_fault fault
image_fault (Growth fault) = ByGeometry fault
image_fault (Journal fault) = ByJournal (as_fault fault)

-- The fault of an image that an answer tells, if it tells one.
abbrev pub fault_told : CallFault ResizeFault → Option ImageFault
fault_told Memory = None
fault_told Disk = None
fault_told (Refused cause) = Some (image_fault cause)

abbrev pub fault_in : {T : Type 0} → Result T (CallFault ResizeFault) → Option ImageFault
fault_in (Ok answer) = None
fault_in (Err fault) = fault_told fault

-- ---- what the image has

-- Where neither memory nor the disk failed, the image that reads give has the fault that is told.
abbrev pub TellsFault : Option (List ℕ) → (sectors : ℕ) → List Content → CallFault ResizeFault → Type 0
TellsFault key sectors moments fault = fault ≢ Memory → fault ≢ Disk
    → HasNow (λ c. fault_told fault ≡ resize_fault_of key sectors (last_image c)) moments

-- It has none but that of its journal, if that has one.
abbrev pub LeavesJournal : Option (List ℕ) → (sectors : ℕ) → ImageFormat → List Content → Type 0
LeavesJournal key sectors format moments = HasNow (λ c. resize_fault_of key sectors (last_image c)
    ≡ fault_by_journal key (last_image c) format.fields format.geometry) moments
