-- What an image tells, by what was read of it.
use Rattle.std.proofs.Common.{◌≡◌, ◌≢◌, ℕ, ◌<◌, true, refl, sym, ◌∙◌, ap, Result, Option, Ok, Err, List, [], length}
use Rattle.std.proofs.lemmas.Bool.{ne_eqb}
use Rattle.disk_model.specs.Disk.{Content, Image, last_image}
use Rattle.image_model.specs.declared.flags.TheConstants.{DIRTY_BITMAP}
use Rattle.image_model.specs.declared.super_fields.SuperFault.{SuperFault}
use Rattle.image_model.specs.declared.super_fields.SuperFault.TheVariants.{Magic}
use Rattle.image_model.specs.declared.geom_fault.GeomFault.{GeomFault}
use Rattle.image_model.specs.Geometry.{Geometry, geometry_of}
use Rattle.image_model.specs.Openable.{first_sector}
use Rattle.image_model.specs.Superblock.{Superblock, has_flag, superblock_of}
use Rattle.image_model.proofs.SuperblockLemmas.{superblock_of-no_magic}
use Rattle.place_model.proofs.FormatLemmas.{read_format_law}
use Rattle.image_format.proofs.FormatLawsLemmas.{bitmap_openable}
use Rattle.image_refusal.specs.declared.open_fault.HeadFault.{HeadFault}
use Rattle.image_refusal.specs.declared.open_fault.HeadFault.TheVariants.{Super}
use Rattle.image_format.specs.declared.reading.ImageFormat.{ImageFormat}
use Rattle.image_format.specs.Format.{told_fields, format_by, format_with, fields_of, format_of, IsFormat, IsReadNow, IsOpenableNow, disk_format}

-- Fields that are told are those of the superblock.
told_fields-ok : (r : Result Superblock SuperFault) (s : Superblock) → told_fields r ≡ Ok s → r ≡ Ok s
told_fields-ok (Ok x) s told = cc
told_fields-ok (Err fault) s told = absurd (cc)

-- ---- for callers

-- A disk without a sector has no magic.
pub fields_of-none : (sectors : ℕ) (image : Image) → sectors ≡ 0 → Err (Super Magic) ≡ fields_of sectors image
fields_of-none sectors image none = rw (none, superblock_of-no_magic [] refl) refl

-- Else the first sector tells.
pub fields_of-read : (sectors : ℕ) (bytes : List ℕ) (image : Image) → sectors ≢ 0 → bytes ≡ image 0 → told_fields (superblock_of bytes) ≡ fields_of sectors image
fields_of-read sectors bytes image some is = rw (ne_eqb sectors 0 some, is) refl

module _ (sectors : ℕ) (image : Image) where
  -- Where the superblock is refused the image is,
  pub format_of-refused : (cause : HeadFault) → Err cause ≡ fields_of sectors image → Err cause ≡ format_of sectors image
  format_of-refused cause told = ap (format_by sectors) told

  -- and else its geometry tells.
  pub format_of-fields : (fields : Superblock) (geometry : Result Geometry GeomFault) → Ok fields ≡ fields_of sectors image → geometry_of fields sectors ≡ geometry
      → format_with fields geometry ≡ format_of sectors image
  format_of-fields fields geometry told given = ap (format_with fields) (sym given) ∙ ap (format_by sectors) told

-- What was read is the image's own format,
pub read_now : (key : Option (List ℕ)) (sectors : ℕ) (format : ImageFormat) (c : Content) → IsFormat sectors format → Ok format.fields ≡ fields_of sectors (last_image c)
    → ((sector : ℕ) → sector < sectors → length (last_image c sector) ≡ 512) → IsReadNow key sectors format c
read_now key sectors format c is told whole =
    let head = told_fields-ok (superblock_of (first_sector sectors (last_image c))) format.fields (sym told) in
    let law = read_format_law (disk_format key sectors format) (last_image c) head is.told in
    record { reads = law.0; own = law.1; whole = whole }

-- and with a bitmap it can be opened.
pub bitmap_now : (key : Option (List ℕ)) (sectors : ℕ) (format : ImageFormat) (c : Content) → IsReadNow key sectors format c → has_flag DIRTY_BITMAP format.fields.flags ≡ true
    → IsOpenableNow key sectors format c
bitmap_now key sectors format c read set = record {
  read = read;
  opens = bitmap_openable key sectors (last_image c) read.reads.readable (ap (λ (s : Superblock). has_flag DIRTY_BITMAP s.flags) read.reads.superblock ∙ set);
}
