-- What an image tells an opening: the fields of its superblock and its geometry, or the first fault.
-- Own: the superblock is judged before the geometry.
use Rattle.std.specs.Prelude.{◌≡◌, ℕ, true, false, Option, List, Result, Ok, Err}
use Rattle.disk_model.specs.Disk.{Content, Image, last_image}
use Rattle.image_model.specs.declared.flags.TheConstants.{DIRTY_BITMAP}
use Rattle.image_model.specs.declared.geom_fault.GeomFault.{GeomFault}
use Rattle.image_model.specs.declared.super_fields.SuperFault.{SuperFault}
use Rattle.image_model.specs.Geometry.{Geometry, IsGeometry, geometry_of}
use Rattle.image_model.specs.Openable.{IsOpenable, first_sector}
use Rattle.image_model.specs.Superblock.{Superblock, IsAccepted, has_flag, superblock_of}
use Rattle.place_model.specs.Format.{DiskFormat, HasWholeSectors, IsReadAs, format_on}
use Rattle.image_refusal.specs.declared.open_fault.HeadFault.{HeadFault}
use Rattle.image_refusal.specs.declared.open_fault.HeadFault.TheVariants.{Super, Geom}
use Rattle.image_format.specs.declared.reading.ImageFormat.{ImageFormat}

-- ---- what an image tells

-- What the superblock tells.
abbrev pub told_fields : Result Superblock SuperFault → Result Superblock HeadFault
told_fields (Ok fields) = Ok fields
told_fields (Err fault) = Err (Super fault)

-- What fields tell whose geometry is judged.
abbrev pub format_with : Superblock → Result Geometry GeomFault → Result ImageFormat HeadFault
format_with fields (Ok geometry) = Ok (record { fields = fields; geometry = geometry })
format_with fields (Err fault) = Err (Geom fault)

-- What the fields that are told tell further, on a disk of so many sectors.
abbrev pub format_by : (sectors : ℕ) → Result Superblock HeadFault → Result ImageFormat HeadFault
format_by sectors (Ok fields) = format_with fields (geometry_of fields sectors)
format_by sectors (Err fault) = Err fault

-- The fields that the first sector of an image tells, or why it is refused. A disk without a sector has no magic.
abbrev pub fields_of : (sectors : ℕ) → Image → Result Superblock HeadFault
fields_of sectors image = told_fields (superblock_of (first_sector sectors image))

-- What an image tells of a disk of so many sectors.
abbrev pub format_of : (sectors : ℕ) → Image → Result ImageFormat HeadFault
format_of sectors image = format_by sectors (fields_of sectors image)

-- ---- what is told

-- Fields that are accepted, with their geometry on a disk of so many sectors.
pub record IsFormat (sectors : ℕ) (format : ImageFormat) : Type 0 where
  pub fields : IsAccepted format.fields
  pub told : geometry_of format.fields sectors ≡ Ok format.geometry
  pub geometry : IsGeometry format.geometry sectors

-- The same of an image without a bitmap,
pub record IsDirectFormat (sectors : ℕ) (format : ImageFormat) : Type 0 where
  pub accepted : IsFormat sectors format
  pub no_bitmap : has_flag DIRTY_BITMAP format.fields.flags ≡ false

-- and of one with a bitmap.
pub record IsBitmapFormat (sectors : ℕ) (format : ImageFormat) : Type 0 where
  pub accepted : IsFormat sectors format
  pub bitmap : has_flag DIRTY_BITMAP format.fields.flags ≡ true

-- The disk's format under a key.
abbrev pub disk_format : Option (List ℕ) → (sectors : ℕ) → ImageFormat → DiskFormat
disk_format key sectors format = record {
  key = key;
  sectors = sectors;
  superblock = format.fields;
  geometry = format.geometry;
}

-- The image that reads give can be read in this format under a key, and the format is its own. Its sectors are whole.
pub record IsReadNow (key : Option (List ℕ)) (sectors : ℕ) (format : ImageFormat) (c : Content) : Type 0 where
  pub reads : IsReadAs (disk_format key sectors format) (last_image c)
  pub own : format_on key sectors (last_image c) ≡ disk_format key sectors format
  pub whole : HasWholeSectors (disk_format key sectors format) (last_image c)

-- The image can be opened, too.
pub record IsOpenableNow (key : Option (List ℕ)) (sectors : ℕ) (format : ImageFormat) (c : Content) : Type 0 where
  pub read : IsReadNow key sectors format c
  pub opens : IsOpenable key sectors (last_image c)
