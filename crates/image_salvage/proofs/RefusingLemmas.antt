-- The fault that is told is the one that the image has.
use Rattle.std.proofs.Common.{◌≡◌, ℕ, refl, sym, ap, ◌∙◌, Option, None, Some, Result, Ok, Err, List}
use Rattle.disk_model.specs.Disk.{Content, Image, last_image}
use Rattle.image_model.specs.declared.geom_fault.GeomFault.{GeomFault}
use Rattle.image_model.specs.declared.super_fields.SuperFault.{SuperFault}
use Rattle.image_model.specs.Geometry.{Geometry, geometry_of}
use Rattle.image_model.specs.Openable.{first_sector}
use Rattle.image_model.specs.Superblock.{Superblock, superblock_of}
use Rattle.device_model.specs.Refusals.{ImageFault}
use Rattle.place_model.specs.Refusals.{fault_by_geometry, fault_by_superblock, read_fault_of}
use Rattle.image_refusal.specs.declared.call_fault.CallFault.{CallFault}
use Rattle.image_refusal.specs.declared.call_fault.CallFault.TheVariants.{Memory, Disk, Refused}
use Rattle.image_refusal.specs.declared.open_fault.HeadFault.{HeadFault}
use Rattle.image_refusal.specs.Calls.{TellsCause}
use Rattle.image_format.specs.declared.reading.ImageFormat.{ImageFormat}
use Rattle.image_format.specs.Format.{format_by, format_of, format_with, told_fields}
use Rattle.image_salvage.specs.Refusing.{TellsFault, head_fault}

-- The fault of an answer, if it is one.
abbrev fault_in : Result ImageFormat HeadFault → Option ImageFault
fault_in (Ok format) = None
fault_in (Err cause) = Some (head_fault cause)

by_geometry : (s : Superblock) (r : Result Geometry GeomFault) → fault_in (format_with s r) ≡ fault_by_geometry r
by_geometry s (Ok g) = refl
by_geometry s (Err fault) = refl

by_superblock : (sectors : ℕ) (r : Result Superblock SuperFault) → fault_in (format_by sectors (told_fields r)) ≡ fault_by_superblock sectors r
by_superblock sectors (Ok s) = by_geometry s (geometry_of s sectors)
by_superblock sectors (Err fault) = refl

fault_told : (sectors : ℕ) (image : Image) → fault_in (format_of sectors image) ≡ read_fault_of sectors image
fault_told sectors image = by_superblock sectors (superblock_of (first_sector sectors image))

-- ---- for callers

-- An image that tells a format has no fault,
pub no_fault : (sectors : ℕ) (image : Image) (format : ImageFormat) → Ok format ≡ format_of sectors image → read_fault_of sectors image ≡ None
no_fault sectors image format told = sym (fault_told sectors image) ∙ ap fault_in (sym told)

own_fault : (sectors : ℕ) (image : Image) (cause : HeadFault) → Err cause ≡ format_of sectors image → read_fault_of sectors image ≡ Some (head_fault cause)
own_fault sectors image cause told = sym (fault_told sectors image) ∙ ap fault_in (sym told)

-- and the fault of reading a format is the one that the image has.
pub head_told : (sectors : ℕ) (moments : List Content) (fault : CallFault HeadFault) → TellsCause (format_of sectors) moments fault → TellsFault sectors moments fault
head_told sectors moments Memory told some well = absurd (some refl)
head_told sectors moments Disk told some well = absurd (well refl)
head_told sectors moments (Refused cause) told some well = λ x now. own_fault sectors (last_image x) cause (told cause refl x now)
