-- Why an image is not read: by superblock and geometry alone.
-- Own: in recovery mode and for a salvage neither the journal nor the bitmap is looked at.
use Rattle.std.specs.Prelude.{ℕ, Option, Some, None, Result, Ok, Err}
use Rattle.disk_model.specs.Disk.{Image}
use Rattle.image_model.specs.declared.geom_fault.GeomFault.{GeomFault}
use Rattle.image_model.specs.declared.super_fields.SuperFault.{SuperFault}
use Rattle.image_model.specs.Geometry.{Geometry, geometry_of}
use Rattle.image_model.specs.Openable.{first_sector}
use Rattle.image_model.specs.Superblock.{Superblock, superblock_of}
use Rattle.device_model.specs.Refusals.{ImageFault, BySuperblock, ByGeometry}

-- By its geometry,
abbrev pub fault_by_geometry : Result Geometry GeomFault → Option ImageFault
fault_by_geometry (Ok g) = None
fault_by_geometry (Err fault) = Some (ByGeometry fault)

-- or by its superblock first.
abbrev pub fault_by_superblock : (sectors : ℕ) → Result Superblock SuperFault → Option ImageFault
fault_by_superblock sectors (Ok s) = fault_by_geometry (geometry_of s sectors)
fault_by_superblock sectors (Err fault) = Some (BySuperblock fault)

-- Why an image on a disk of so many sectors is not read, if it is refused.
abbrev pub read_fault_of : (sectors : ℕ) → Image → Option ImageFault
read_fault_of sectors image = fault_by_superblock sectors (superblock_of (first_sector sectors image))
