-- The fault that is told is the one that the image has.
use Rattle.std.proofs.Common.{◌≡◌, ℕ, refl, sym, ap, ◌∙◌, List, Option, Some, Result, Ok, Err}
use Rattle.disk_model.specs.Disk.{Content, Image, last_image}
use Rattle.image_model.specs.declared.geom_fault.GeomFault.{GeomFault}
use Rattle.image_model.specs.declared.super_fields.SuperFault.{SuperFault}
use Rattle.image_model.specs.Geometry.{Geometry, geometry_of}
use Rattle.image_model.specs.Openable.{first_sector}
use Rattle.image_model.specs.Superblock.{Superblock, superblock_of}
use Rattle.device_model.specs.Refusals.{ByGeometry, ImageFault}
use Rattle.image_refusal.specs.declared.call_fault.CallFault.{CallFault}
use Rattle.image_refusal.specs.declared.call_fault.CallFault.TheVariants.{Memory, Disk, Refused}
use Rattle.image_refusal.specs.declared.open_fault.HeadFault.{HeadFault}
use Rattle.image_refusal.specs.declared.resize_fault.ResizeFault.TheVariants.{Head}
use Rattle.image_refusal.specs.Calls.{TellsCause, with_cause}
use Rattle.image_format.specs.declared.reading.ImageFormat.{ImageFormat}
use Rattle.image_format.specs.Format.{format_by, format_of, format_with, told_fields}
use Rattle.resize_model.specs.Refusals.{fault_by_geometry, fault_by_growth, fault_by_journal, fault_by_superblock, resize_fault_of}
use Rattle.resize_model.specs.Resized.{resized_fields}
use Rattle.image_resizing.specs.Faults.{TellsFault, head_fault}

module _ (key : Option (List ℕ)) (sectors : ℕ) (image : Image) where
  -- The fault of an image in this format, by the geometry that it is to have, and by its journal.
  abbrev by_growth : ImageFormat → Option ImageFault
  by_growth format = fault_by_growth key image format.fields format.geometry (geometry_of (resized_fields format.fields sectors) sectors)

  -- The fault by what the first sector tells.
  abbrev by_format : Result ImageFormat HeadFault → Option ImageFault
  by_format (Ok format) = by_growth format
  by_format (Err fault) = Some (head_fault fault)

  by_geometry : (s : Superblock) (r : Result Geometry GeomFault) → by_format (format_with s r) ≡ fault_by_geometry key sectors image s r
  by_geometry s (Ok g) = refl
  by_geometry s (Err fault) = refl

  by_superblock : (r : Result Superblock SuperFault) → by_format (format_by sectors (told_fields r)) ≡ fault_by_superblock key sectors image r
  by_superblock (Ok s) = by_geometry s (geometry_of s sectors)
  by_superblock (Err fault) = refl

  fault_is : by_format (format_of sectors image) ≡ resize_fault_of key sectors image
  fault_is = by_superblock (superblock_of (first_sector sectors image))

  -- ---- for callers

  -- Where neither the first sector nor the geometry that it is to have is refused, the journal alone may be.
  pub journal_left : (format : ImageFormat) (grown : Geometry) → Ok format ≡ format_of sectors image → geometry_of (resized_fields format.fields sectors) sectors ≡ Ok grown
      → resize_fault_of key sectors image ≡ fault_by_journal key image format.fields format.geometry
  journal_left format grown told given =
      sym (ap by_format told ∙ fault_is) ∙ ap (fault_by_growth key image format.fields format.geometry) given

  -- Where that geometry is refused the image is.
  pub growth_refused : (format : ImageFormat) (fault : GeomFault) → Ok format ≡ format_of sectors image → geometry_of (resized_fields format.fields sectors) sectors ≡ Err fault
      → Some (ByGeometry fault) ≡ resize_fault_of key sectors image
  growth_refused format fault told given =
      ap (fault_by_growth key image format.fields format.geometry) (sym given) ∙ ap by_format told ∙ fault_is

  -- Where the first sector is refused the image is.
  head_refused : (cause : HeadFault) → Err cause ≡ format_of sectors image → Some (head_fault cause) ≡ resize_fault_of key sectors image
  head_refused cause told = ap by_format told ∙ fault_is

-- The fault of reading a format is the one that the image has.
pub head_told : (key : Option (List ℕ)) (sectors : ℕ) (moments : List Content) (fault : CallFault HeadFault) → TellsCause (format_of sectors) moments fault → TellsFault key sectors moments (with_cause Head fault)
head_told key sectors moments Memory told not_memory not_disk = absurd (not_memory refl)
head_told key sectors moments Disk told not_memory not_disk = absurd (not_disk refl)
head_told key sectors moments (Refused cause) told not_memory not_disk = λ x now.
    head_refused key sectors (last_image x) cause (told cause refl x now)
