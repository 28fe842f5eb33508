-- Why an image is not salvaged: for its superblock or its geometry alone.
-- Own: no journal and no bitmap is looked at.
use Rattle.std.specs.Prelude.{◌≡◌, ◌≢◌, ℕ, Option, Some, None, List}
use Rattle.disk_model.specs.Disk.{Content, last_image}
use Rattle.disk_model.specs.Moments.{HasNow}
use Rattle.device_model.specs.Refusals.{ImageFault, ByGeometry, BySuperblock}
use Rattle.place_model.specs.Refusals.{read_fault_of}
use Rattle.image_refusal.specs.declared.call_fault.CallFault.{CallFault}
use Rattle.image_refusal.specs.declared.call_fault.CallFault.TheVariants.{Memory, Disk, Refused}
use Rattle.image_refusal.specs.declared.open_fault.HeadFault.{HeadFault}
use Rattle.image_refusal.specs.declared.open_fault.HeadFault.TheVariants.{Geom, Super}

-- The fault of an image whose first sector is refused,
abbrev pub head_fault : HeadFault → ImageFault
head_fault (Super fault) = BySuperblock fault
head_fault (Geom fault) = ByGeometry fault

-- and the one that is told, if one is.
abbrev pub refusal_of : CallFault HeadFault → Option ImageFault
refusal_of Memory = None
refusal_of Disk = None
refusal_of (Refused cause) = Some (head_fault cause)

-- The image that reads give, on a disk of so many sectors, has no fault.
abbrev pub HasNoFault : (sectors : ℕ) → List Content → Type 0
HasNoFault sectors moments = HasNow (λ c. read_fault_of sectors (last_image c) ≡ None) moments

-- Where neither memory nor the disk failed, it has the fault that is told, and there is one.
abbrev pub TellsFault : (sectors : ℕ) → List Content → CallFault HeadFault → Type 0
TellsFault sectors moments fault = fault ≢ Memory → fault ≢ Disk
    → HasNow (λ c. read_fault_of sectors (last_image c) ≡ refusal_of fault) moments
