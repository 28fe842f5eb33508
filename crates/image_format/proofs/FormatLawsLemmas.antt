-- Which images tell a format.
use Rattle.std.proofs.Common.{◌≡◌, ℕ, Bool, true, refl, sym, ◌∙◌, ap, subst, Result, Option, Ok, Err, IsOk, is_ok, List, [], if◌then◌else◌}
use Rattle.std.specs.List.{AllByRecursion}
use Rattle.std.proofs.lemmas.Bool.{true≢false}
use Rattle.disk_model.specs.Disk.{Image}
use Rattle.image_model.specs.declared.flags.TheConstants.{DIRTY_BITMAP}
use Rattle.image_model.specs.declared.geom_fault.GeomFault.{GeomFault}
use Rattle.image_model.specs.declared.super_fields.SuperFault.{SuperFault}
use Rattle.image_model.specs.Cells.{replayed_entries, salt_of}
use Rattle.image_model.specs.Geometry.{Geometry, geometry_of}
use Rattle.image_model.specs.Openable.{IsOpenable, IsReadable, IsReplayable, first_sector}
use Rattle.image_model.specs.Superblock.{Superblock, has_flag, superblock_of}
use Rattle.image_format.specs.Format.{told_fields, format_with, format_by, format_of}
use Rattle.image_format.specs.FormatLaws.{ReadLaw}

-- ---- read

module _ (sectors : ℕ) (image : Image) where
  by_geometry : (s : Superblock) → superblock_of (first_sector sectors image) ≡ Ok s → (r : Result Geometry GeomFault) → geometry_of s sectors ≡ r → IsOk (format_with s r) → IsReadable sectors image
  by_geometry s head (Ok g) given ok = record { superblock = s; geometry = g; has_superblock = head; has_geometry = given }
  by_geometry s head (Err fault) given ok = absurd (true≢false (sym ok))

  by_fields : (r : Result Superblock SuperFault) → superblock_of (first_sector sectors image) ≡ r → IsOk (format_by sectors (told_fields r)) → IsReadable sectors image
  by_fields (Ok s) head ok = by_geometry s head (geometry_of s sectors) refl ok
  by_fields (Err fault) head ok = absurd (true≢false (sym ok))

  -- What an image tells that can be read.
  pub format_of-readable : (readable : IsReadable sectors image) → format_of sectors image ≡ Ok (record { fields = readable.superblock; geometry = readable.geometry })
  format_of-readable readable =
      ap (λ r. format_by sectors (told_fields r)) readable.has_superblock ∙ ap (format_with readable.superblock) readable.has_geometry

-- ---- with a bitmap

-- No entry of a journal counts there, so an image that can be read can be opened.
pub bitmap_openable : (key : Option (List ℕ)) (sectors : ℕ) (image : Image) (readable : IsReadable sectors image)
    → has_flag DIRTY_BITMAP readable.superblock.flags ≡ true → IsOpenable key sectors image
bitmap_openable key sectors image readable set = record {
  readable = readable;
  walk = λ clear. absurd (true≢false (sym set ∙ clear));
  entries = subst (λ (b : Bool). AllByRecursion (IsReplayable key (salt_of readable.superblock) readable.geometry)
      (if b then [] else replayed_entries readable.geometry image)) (sym set) tt;
}

-- ---- for callers

pub read_law : ReadLaw
read_law sectors image = (
  by_fields sectors image (superblock_of (first_sector sectors image)) refl,
  λ readable. ap is_ok (format_of-readable sectors image readable),
)
