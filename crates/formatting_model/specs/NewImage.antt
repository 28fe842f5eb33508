-- The fields of a new image, and how many sectors it provides.
-- Source: Linux, drivers/md/dm-integrity.c, initialize_superblock.
use Rattle.std.specs.Prelude.{ℕ, ◌≤◌, bit_or, List, Option, Some, None, unwrap_or, Result}
use Rattle.std.specs.Int.{IsInRange}
use Rattle.image_model.specs.declared.flags.TheConstants.{DIRTY_BITMAP, FIXED_PADDING, FIXED_HMAC, RECALCULATING}
use Rattle.image_model.specs.declared.geom_fault.GeomFault.{GeomFault}
use Rattle.image_model.specs.Geometry.{layout_of, fitting_log2_region, best_provided_of}
use Rattle.image_model.specs.Sectors.{zero_bytes}
use Rattle.image_model.specs.Superblock.{Superblock, version_for}
use Rattle.image_model.specs.declared.new_image.ImageMode.{ImageMode}
use Rattle.image_model.specs.declared.new_image.ImageMode.TheVariants.{Journal, Bitmap}
use Rattle.formatting_model.specs.declared.new_image.NewImage.{NewImage}
use Rattle.image_model.specs.declared.new_image.Padding.{Padding}
use Rattle.image_model.specs.declared.new_image.Padding.TheVariants.{Fixed, Legacy}
use Rattle.image_model.specs.declared.new_image.Wipe.{Wipe}
use Rattle.image_model.specs.declared.new_image.Wipe.TheVariants.{Wiped, Kept, Recalculated}

-- The fields are in their ranges.
pub record IsNewImage (new : NewImage) : Type 0 where
  pub tag_size : IsInRange 1 32 new.tag_size
  pub log2_spb : new.log2_spb ≤ 3
  pub log2_interleave : IsInRange 3 31 new.log2_interleave
  pub sections : 1 ≤ new.sections

-- The flag of the padding.
abbrev pub padding_flag : Padding → ℕ
padding_flag Fixed = FIXED_PADDING
padding_flag Legacy = 0

-- The flag of the salt, where there is one.
abbrev pub salt_flag : Option (List ℕ) → ℕ
salt_flag (Some salt) = FIXED_HMAC
salt_flag None = 0

-- The flag of a bitmap.
abbrev pub mode_flag : ImageMode → ℕ
mode_flag Journal = 0
mode_flag Bitmap = DIRTY_BITMAP

-- The flag of tags that are to be recalculated.
abbrev pub recalculating_flag : Wipe → ℕ
recalculating_flag Wiped = 0
recalculating_flag Kept = 0
recalculating_flag Recalculated = RECALCULATING

-- The flags of the image.
abbrev pub flags_of : NewImage → ℕ
flags_of new =
    bit_or (bit_or (bit_or (padding_flag new.padding) (salt_flag new.salt)) (mode_flag new.mode))
    (recalculating_flag new.wipe)

-- The fields with so many provided sectors and so large regions. Tags that are to be recalculated are so from the first
-- sector of the device on.
abbrev pub fields_with : NewImage → (provided log2_region : ℕ) → Superblock
fields_with new provided log2_region = record {
  version = version_for 1 (flags_of new);
  log2_interleave = new.log2_interleave;
  tag_size = new.tag_size;
  sections = new.sections;
  provided = provided;
  flags = flags_of new;
  log2_spb = new.log2_spb;
  log2_region = log2_region;
  recalc_sector = 0;
  salt = unwrap_or new.salt (zero_bytes 16);
}

-- The same with a journal, and with regions as large as they are asked for: no bitmap has to fit.
abbrev pub asked_fields : NewImage → (provided : ℕ) → Superblock
asked_fields new provided = fields_with (record new { mode = Journal }) provided new.log2_region

-- The fields of the image: its regions are raised so far that their bitmap fits the journal, or would fit it.
abbrev pub fields_of : NewImage → (provided : ℕ) → Superblock
fields_of new provided =
    fields_with new provided (fitting_log2_region (layout_of (asked_fields new provided)))

-- The sectors that the image provides on a disk of so many, or why it does not fit. Neither the regions nor the
-- mode are looked at.
abbrev pub provided_of : NewImage → (sectors : ℕ) → Result ℕ GeomFault
provided_of new sectors = best_provided_of (asked_fields new 0) sectors
