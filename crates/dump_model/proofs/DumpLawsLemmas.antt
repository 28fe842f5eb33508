-- Which images are shown.
use Rattle.std.proofs.Common.{◌≡◌, inl, inr, ℕ, false, refl, sym, ◌∙◌, ap, Result, Ok, Err, IsOk, is_ok}
use Rattle.std.proofs.lemmas.Bool.{cases_Bool, true≢false}
use Rattle.disk_model.specs.Disk.{Image}
use Rattle.image_model.specs.declared.flags.TheConstants.{DIRTY_BITMAP}
use Rattle.image_model.specs.declared.journal_plan.Plan.{Plan}
use Rattle.image_model.specs.declared.scan_fault.ScanFault.{ScanFault}
use Rattle.image_model.specs.Grid.{walk_of}
use Rattle.image_model.specs.Openable.{IsReadable}
use Rattle.image_model.specs.Superblock.{has_flag}
use Rattle.image_refusal.specs.declared.open_fault.HeadFault.{HeadFault}
use Rattle.image_format.specs.declared.reading.ImageFormat.{ImageFormat}
use Rattle.image_format.specs.Format.{format_by, format_of, format_with, told_fields}
use Rattle.image_format.specs.FormatLaws.{ReadLaw}
use Rattle.dump_model.specs.Dump.{dump_by, dump_by_plan, dump_in, dump_of}
use Rattle.dump_model.specs.DumpLaws.{ShownLaw}

-- ---- by the parts

format_shown : (image : Image) (r : Result ImageFormat HeadFault) → IsOk (dump_by image r) → IsOk r
format_shown image (Ok format) ok = refl
format_shown image (Err fault) ok = absurd (true≢false (sym ok))

plan_shown : (format : ImageFormat) (r : Result Plan ScanFault) → IsOk (dump_by_plan format r) → IsOk r
plan_shown format (Ok plan) ok = refl
plan_shown format (Err fault) ok = absurd (true≢false (sym ok))

shown_plan : (format : ImageFormat) (r : Result Plan ScanFault) → IsOk r → IsOk (dump_by_plan format r)
shown_plan format (Ok plan) ok = refl
shown_plan format (Err fault) ok = absurd (true≢false (sym ok))

-- ---- in a format

clear_shown : (format : ImageFormat) (image : Image) → IsOk (dump_in format image)
    → has_flag DIRTY_BITMAP format.fields.flags ≡ false → IsOk (walk_of format.geometry image)
clear_shown format image ok clear = plan_shown format (walk_of format.geometry image) (rw clear at ok)

shown_in : (format : ImageFormat) (image : Image)
    → (has_flag DIRTY_BITMAP format.fields.flags ≡ false → IsOk (walk_of format.geometry image))
    → IsOk (dump_in format image)
shown_in format image plan = elim (cases_Bool (has_flag DIRTY_BITMAP format.fields.flags)) [
  | inl set ↦ rw set refl
  | inr clear ↦ rw clear (shown_plan format (walk_of format.geometry image) (plan clear))
]

-- What an image shows that can be read.
dump_of-readable : (sectors : ℕ) (image : Image) (readable : IsReadable sectors image)
    → dump_of sectors image
    ≡ dump_in (record { fields = readable.superblock; geometry = readable.geometry }) image
dump_of-readable sectors image readable =
    ap (λ r. dump_by image (format_by sectors (told_fields r))) readable.has_superblock
    ∙ ap (λ r. dump_by image (format_with readable.superblock r)) readable.has_geometry

-- ---- for callers

pub shown_law : ReadLaw → ShownLaw
shown_law read sectors image = (
  λ ok.
      let readable = (read sectors image).0 (format_shown image (format_of sectors image) ok) in
      let format : ImageFormat = record { fields = readable.superblock; geometry = readable.geometry } in
      record {
        readable = readable;
        plan = clear_shown format image (sym (ap is_ok (dump_of-readable sectors image readable)) ∙ ok);
      },
  λ shown.
      let readable = shown.readable in
      let format : ImageFormat = record { fields = readable.superblock; geometry = readable.geometry } in
      ap is_ok (dump_of-readable sectors image readable) ∙ shown_in format image shown.plan,
)
