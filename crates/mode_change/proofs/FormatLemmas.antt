-- The fields that a change writes.
use Rattle.std.proofs.Common.{◌≡◌, ℕ, refl, ◌∙◌, ap, bit_or, Ok}
use Rattle.image_model.specs.declared.flags.TheConstants.{DIRTY_BITMAP}
use Rattle.image_model.specs.Geometry.{Geometry, geometry_of, layout_of, fitting_log2_region}
use Rattle.image_model.specs.Superblock.{Superblock, version_for}
use Rattle.image_model.specs.SuperblockLaws.{FitsBytes}
use Rattle.image_model.proofs.GeometryOf.{geometry_given}
use Rattle.bitmap_model.proofs.BitLemmas.{bitmap_fits_at}
use Rattle.change_model.specs.Fields.{bitmap_fields, journal_fields, recalculated_fields, without_flag}
use Rattle.change_model.proofs.BeginLemmas.{own_geometry}
use Rattle.change_model.proofs.FieldsLemmas.{bitmap_fields_law, journal_fields_law}
use Rattle.image_format.specs.declared.reading.ImageFormat.{ImageFormat}
use Rattle.image_format.specs.Format.{IsBitmapFormat, IsDirectFormat, IsFormat}
use Rattle.mode_change.specs.ToBitmap.{MarksFormat, bitmap_format}
use Rattle.mode_change.specs.ToJournal.{journal_format}

-- ---- from a journal to a bitmap

-- A geometry that is given is the fields' own.
pub own_layout : (sectors : ℕ) (f : ImageFormat) → IsFormat sectors f → f.geometry ≡ layout_of f.fields
own_layout sectors f is = ((geometry_given f.fields sectors f.geometry).0 is.told).0

pub bitmap_fields-is : (s r : Superblock) (g : Geometry) (version region : ℕ) → r ≡ recalculated_fields s → g ≡ layout_of s
    → version ≡ version_for r.version (bit_or r.flags DIRTY_BITMAP) → region ≡ fitting_log2_region g
    → record r { version = version; flags = bit_or r.flags DIRTY_BITMAP; log2_region = region } ≡ bitmap_fields s
bitmap_fields-is s r g version region r_is g_is version_is region_is = rw (version_is, region_is, g_is, r_is) refl

pub marks_format : (sectors : ℕ) (f : ImageFormat) → IsFormat sectors f → FitsBytes f.fields → MarksFormat sectors f (bitmap_format f)
marks_format sectors f is fits =
    let law = bitmap_fields_law f.fields sectors f.geometry is.fields fits is.told in
    record { replaces = law.0; told = law.3; fits = bitmap_fits_at (bitmap_format f).fields sectors (bitmap_format f).geometry law.3 law.1 }

-- ---- from a bitmap to a journal

pub journal_fields-is : (s r : Superblock) (version : ℕ) → r ≡ recalculated_fields s → version ≡ version_for r.version (without_flag DIRTY_BITMAP r.flags)
    → record r { version = version; flags = without_flag DIRTY_BITMAP r.flags } ≡ journal_fields s
journal_fields-is s r version r_is version_is = rw (version_is, r_is) refl

-- The regions stay, so all lies where it did.
pub journal_told : (sectors : ℕ) (f : ImageFormat) → IsFormat sectors f → FitsBytes f.fields → geometry_of (journal_fields f.fields) sectors ≡ Ok f.geometry
journal_told sectors f is fits =
    let law = journal_fields_law f.fields sectors f.geometry is.fields fits is.told in
    law.3 ∙ ap Ok (ap (λ (k : ℕ). let under : Geometry = record f.geometry { log2_region = k } in under) law.2 ∙ own_geometry f.fields sectors f.geometry is.told)

pub direct_format : (sectors : ℕ) (f : ImageFormat) → FitsBytes f.fields → IsBitmapFormat sectors f → IsDirectFormat sectors (journal_format f)
direct_format sectors f fits is =
    let law = journal_fields_law f.fields sectors f.geometry is.accepted.fields fits is.accepted.told in
    record {
      accepted = record { fields = law.0.accepted; told = journal_told sectors f is.accepted fits; geometry = is.accepted.geometry };
      no_bitmap = law.1;
    }

-- The bitmap that was there fits the journal, which has the place of both.
pub unmarked_format : (sectors : ℕ) (f : ImageFormat) → FitsBytes f.fields → IsBitmapFormat sectors f → MarksFormat sectors f (journal_format f)
unmarked_format sectors f fits is =
    let law = journal_fields_law f.fields sectors f.geometry is.accepted.fields fits is.accepted.told in
    record { replaces = law.0; told = journal_told sectors f is.accepted fits; fits = bitmap_fits_at f.fields sectors f.geometry is.accepted.told is.bitmap }
