-- The fields of a new image are accepted, and have their geometry.
use Rattle.std.proofs.Common.{◌≡◌, ℕ, ◌≤◌, ◌==◌, IsTrue, true, false, not, List, Option, Some, None, Ok, Err, Result, refl, ◌∙◌, ap, sym, subst, arith, bit_and, bit_or, Bool}
use Rattle.std.specs.Int.{w32, bit_not}
use Rattle.std.proofs.lemmas.Nat.{and_or_apart, and_or_self}
use Rattle.image_model.specs.declared.flags.TheConstants.{DIRTY_BITMAP, FIXED_PADDING, KNOWN_FLAGS, RECALCULATING}
use Rattle.image_model.specs.declared.geom_fault.GeomFault.{GeomFault}
use Rattle.image_model.specs.Geometry.{Geometry, IsGeometry, layout_of, geometry_of, best_provided, best_provided_of, bitmap_sectors, fitting_log2_region, journal_sectors, tag_run_of}
use Rattle.image_model.specs.Superblock.{Superblock, has_flag, HasLayout, IsAccepted, unknown_flags}
use Rattle.image_model.proofs.BestProvided.{best_provided_is, best_provided-FitsDisk}
use Rattle.image_model.proofs.GeometryOf.{geometry_apart, geometry_given}
use Rattle.image_model.proofs.Regions.{fitting_log2_region_is}
use Rattle.image_model.proofs.SuperblockLemmas.{version_for-accepted}
use Rattle.image_model.specs.declared.new_image.ImageMode.{ImageMode}
use Rattle.image_model.specs.declared.new_image.ImageMode.TheVariants.{Journal, Bitmap}
use Rattle.formatting_model.specs.declared.new_image.NewImage.{NewImage}
use Rattle.image_model.specs.declared.new_image.Padding.{Padding}
use Rattle.image_model.specs.declared.new_image.Padding.TheVariants.{Fixed, Legacy}
use Rattle.image_model.specs.declared.new_image.Wipe.{Wipe}
use Rattle.image_model.specs.declared.new_image.Wipe.TheVariants.{Wiped, Kept, Recalculated}
use Rattle.formatting_model.specs.NewImage.{IsNewImage, asked_fields, mode_flag, padding_flag, recalculating_flag, salt_flag, flags_of, fields_of, fields_with, provided_of}

-- ---- the flags

-- Those of the padding, of the salt and of the mode: all but the one of tags that are to be recalculated.
abbrev pub flags_by : Padding → Option (List ℕ) → ImageMode → ℕ
flags_by padding salt mode = bit_or (bit_or (padding_flag padding) (salt_flag salt)) (mode_flag mode)

-- They are known.
known_flags : (padding : Padding) (salt : Option (List ℕ)) (mode : ImageMode) → unknown_flags (flags_by padding salt mode) ≡ 0
known_flags Fixed None Journal = refl
known_flags Fixed None Bitmap = refl
known_flags Fixed (Some salt) Journal = refl
known_flags Fixed (Some salt) Bitmap = refl
known_flags Legacy None Journal = refl
known_flags Legacy None Bitmap = refl
known_flags Legacy (Some salt) Journal = refl
known_flags Legacy (Some salt) Bitmap = refl

-- Whether there is a bitmap is told by the mode alone,
abbrev is_bitmap_mode : ImageMode → Bool
is_bitmap_mode Journal = false
is_bitmap_mode Bitmap = true

bitmap_by : (padding : Padding) (salt : Option (List ℕ)) (mode : ImageMode) → has_flag DIRTY_BITMAP (flags_by padding salt mode) ≡ is_bitmap_mode mode
bitmap_by Fixed None Journal = refl
bitmap_by Fixed None Bitmap = refl
bitmap_by Fixed (Some salt) Journal = refl
bitmap_by Fixed (Some salt) Bitmap = refl
bitmap_by Legacy None Journal = refl
bitmap_by Legacy None Bitmap = refl
bitmap_by Legacy (Some salt) Journal = refl
bitmap_by Legacy (Some salt) Bitmap = refl

-- and it has no part in the padding.
padding_by : (padding : Padding) (salt : Option (List ℕ)) (mode : ImageMode) → has_flag FIXED_PADDING (flags_by padding salt mode) ≡ has_flag FIXED_PADDING (flags_by padding salt Journal)
padding_by Fixed None Journal = refl
padding_by Fixed None Bitmap = refl
padding_by Fixed (Some salt) Journal = refl
padding_by Fixed (Some salt) Bitmap = refl
padding_by Legacy None Journal = refl
padding_by Legacy None Bitmap = refl
padding_by Legacy (Some salt) Journal = refl
padding_by Legacy (Some salt) Bitmap = refl

-- The flag of tags that are to be recalculated leaves the others as they are,
other_bits : (bits flags : ℕ) → bit_and 0 bits ≡ 0 → bit_and RECALCULATING bits ≡ 0 → (wipe : Wipe) → bit_and (bit_or flags (recalculating_flag wipe)) bits ≡ bit_and flags bits
other_bits bits flags none apart Wiped = and_or_apart bits flags 0 none
other_bits bits flags none apart Kept = and_or_apart bits flags 0 none
other_bits bits flags none apart Recalculated = and_or_apart bits flags RECALCULATING apart

pub other_flag : (flag flags : ℕ) → bit_and 0 flag ≡ 0 → bit_and RECALCULATING flag ≡ 0 → (wipe : Wipe) → has_flag flag (bit_or flags (recalculating_flag wipe)) ≡ has_flag flag flags
other_flag flag flags none apart wipe = ap (λ (n : ℕ). not (n == 0)) (other_bits flag flags none apart wipe)

-- and they don't have it.
no_recalculating : (padding : Padding) (salt : Option (List ℕ)) (mode : ImageMode) → has_flag RECALCULATING (flags_by padding salt mode) ≡ false
no_recalculating Fixed None Journal = refl
no_recalculating Fixed None Bitmap = refl
no_recalculating Fixed (Some salt) Journal = refl
no_recalculating Fixed (Some salt) Bitmap = refl
no_recalculating Legacy None Journal = refl
no_recalculating Legacy None Bitmap = refl
no_recalculating Legacy (Some salt) Journal = refl
no_recalculating Legacy (Some salt) Bitmap = refl

-- Whether it is set is told by what comes to the blocks alone.
abbrev pub is_recalculated : Wipe → Bool
is_recalculated Wiped = false
is_recalculated Kept = false
is_recalculated Recalculated = true

recalculating_by : (flags : ℕ) (wipe : Wipe) → has_flag RECALCULATING flags ≡ false → has_flag RECALCULATING (bit_or flags (recalculating_flag wipe)) ≡ is_recalculated wipe
recalculating_by flags Wiped none = ap (λ (n : ℕ). not (n == 0)) (and_or_apart RECALCULATING flags 0 refl) ∙ none
recalculating_by flags Kept none = ap (λ (n : ℕ). not (n == 0)) (and_or_apart RECALCULATING flags 0 refl) ∙ none
recalculating_by flags Recalculated none = ap (λ (n : ℕ). not (n == 0)) (and_or_self RECALCULATING flags)

pub is_recalculating : (new : NewImage) → has_flag RECALCULATING (flags_of new) ≡ is_recalculated new.wipe
is_recalculating new = recalculating_by (flags_by new.padding new.salt new.mode) new.wipe (no_recalculating new.padding new.salt new.mode)

-- All flags are known.
all_known : (new : NewImage) → unknown_flags (flags_of new) ≡ 0
all_known new =
    other_bits (bit_not w32 KNOWN_FLAGS) (flags_by new.padding new.salt new.mode) refl refl new.wipe ∙ known_flags new.padding new.salt new.mode

-- An image for journal mode has no bitmap, and one for bitmap mode has one.
pub no_bitmap : (new : NewImage) → new.mode ≡ Journal → has_flag DIRTY_BITMAP (flags_of new) ≡ false
no_bitmap new is = other_flag DIRTY_BITMAP (flags_by new.padding new.salt new.mode) refl refl new.wipe ∙ bitmap_by new.padding new.salt new.mode ∙ ap is_bitmap_mode is

pub with_bitmap : (new : NewImage) → new.mode ≡ Bitmap → has_flag DIRTY_BITMAP (flags_of new) ≡ true
with_bitmap new is = other_flag DIRTY_BITMAP (flags_by new.padding new.salt new.mode) refl refl new.wipe ∙ bitmap_by new.padding new.salt new.mode ∙ ap is_bitmap_mode is

-- The padding is that of the same image with a journal.
padding_is : (new : NewImage) → has_flag FIXED_PADDING (flags_of new) ≡ has_flag FIXED_PADDING (flags_of (record new { mode = Journal }))
padding_is new =
    other_flag FIXED_PADDING (flags_by new.padding new.salt new.mode) refl refl new.wipe
    ∙ padding_by new.padding new.salt new.mode
    ∙ sym (other_flag FIXED_PADDING (flags_by new.padding new.salt Journal) refl refl new.wipe)

-- ---- the fields

pub new_layout : (new : NewImage) (provided log2_region : ℕ) → IsNewImage new → HasLayout (fields_with new provided log2_region)
new_layout new provided log2_region h = record {
  version = (version_for-accepted 1 (flags_of new) (omega arith, omega arith)).0;
  flags = all_known new;
  log2_interleave = h.log2_interleave;
  log2_spb = h.log2_spb;
  tag_size = h.tag_size;
  sections = h.sections;
}

-- The provided sectors follow from neither the regions nor the mode.
same_provided : (new : NewImage) (sectors one log2_region : ℕ) → best_provided_of (fields_with new one log2_region) sectors ≡ provided_of new sectors
unfolding best_provided_of best_provided tag_run_of
same_provided new sectors one log2_region = rw (padding_is new) refl

-- The ranges are those of the same image with a journal.
abbrev with_journal : NewImage → NewImage
with_journal new = record new { mode = Journal }

asked_ranges : (new : NewImage) → IsNewImage new → IsNewImage (with_journal new)
asked_ranges new h = record { tag_size = h.tag_size; log2_spb = h.log2_spb; log2_interleave = h.log2_interleave; sections = h.sections }

module _ (new : NewImage) (sectors provided : ℕ) (ranges : IsNewImage new) (told : provided_of new sectors ≡ Ok provided) where
  -- The fields are accepted, whatever their regions,
  pub accepted_with : (log2_region : ℕ) → IsAccepted (fields_with new provided log2_region)
  accepted_with log2_region =
      (best_provided_is (fields_with new 0 log2_region) sectors provided (new_layout new 0 log2_region ranges) (same_provided new sectors 0 log2_region ∙ told)).accepted

  -- and they have their geometry where a bitmap fits, if there is one.
  given_with : (log2_region : ℕ) → (IsTrue (has_flag DIRTY_BITMAP (flags_of new)) → bitmap_sectors (layout_of (fields_with new provided log2_region)) ≤ journal_sectors (layout_of (fields_with new provided log2_region)))
      → geometry_of (fields_with new provided log2_region) sectors ≡ Ok (layout_of (fields_with new provided log2_region))
  given_with log2_region fits =
      let s = fields_with new provided log2_region in
      let room = best_provided-FitsDisk (fields_with new 0 log2_region) sectors provided (new_layout new 0 log2_region ranges) (same_provided new sectors 0 log2_region ∙ told) fits in
      (geometry_given s sectors (layout_of s)).1 (refl, room)

told_is : {n m : ℕ} → (let told : Result ℕ GeomFault = Ok n in told ≡ Ok m) → n ≡ m
told_is e = cc

module _ (new : NewImage) (sectors provided : ℕ) (ranges : IsNewImage new) (told : provided_of new sectors ≡ Ok provided) where
  -- With a journal they have it, with regions as large as they are asked for,
  asked_given : geometry_of (asked_fields new provided) sectors ≡ Ok (layout_of (asked_fields new provided))
  asked_given = given_with (with_journal new) sectors provided (asked_ranges new ranges) told new.log2_region
      (λ set. absurd (let none = no_bitmap (with_journal new) refl in cc))

  asked_accepted : IsAccepted (asked_fields new provided)
  asked_accepted = accepted_with (with_journal new) sectors provided (asked_ranges new ranges) told new.log2_region

  asked_geometry : IsGeometry (layout_of (asked_fields new provided)) sectors
  asked_geometry = (geometry_apart (asked_fields new provided) sectors (layout_of (asked_fields new provided)) asked_accepted asked_given).0

  -- and with regions that are raised so far that their bitmap fits, in any mode.
  pub given_fields : geometry_of (fields_of new provided) sectors ≡ Ok (layout_of (fields_of new provided))
  given_fields = given_with new sectors provided ranges told (fitting_log2_region (layout_of (asked_fields new provided)))
      (λ set. (fitting_log2_region_is (layout_of (asked_fields new provided)) sectors asked_geometry).fits)

  given_accepted : IsAccepted (fields_of new provided)
  given_accepted = accepted_with new sectors provided ranges told (fitting_log2_region (layout_of (asked_fields new provided)))

  -- ---- for callers

  -- The fields that are made are those of the image.
  pub fields_are : (s : Superblock) (log2_region : ℕ) → s ≡ fields_with new provided log2_region → (let fitting : Result ℕ GeomFault = Ok log2_region in fitting ≡ Ok (fitting_log2_region (layout_of (asked_fields new provided))))
      → s ≡ fields_of new provided
  fields_are s log2_region is raised = is ∙ ap (λ (n : ℕ). fields_with new provided n) (told_is raised)

  -- What is asked of a geometry is accepted,
  pub accepted_asked : (s : Superblock) → s ≡ asked_fields new provided → IsAccepted s
  accepted_asked s is = subst IsAccepted (sym is) asked_accepted

  -- and no fault is told of it.
  pub asked_never_refused : (s : Superblock) (fault : GeomFault) → s ≡ asked_fields new provided → geometry_of s sectors ≡ Err fault → ⊥
  asked_never_refused s fault is refused =
      let given = asked_given in
      let same = ap (λ (x : Superblock). geometry_of x sectors) is in
      absurd (cc (given, same, refused))

  -- What is told is its geometry.
  pub asked_told : (s : Superblock) (g : Geometry) → s ≡ asked_fields new provided → geometry_of s sectors ≡ Ok g → g ≡ layout_of (asked_fields new provided)
  asked_told s g is given = ((geometry_given s sectors g).0 given).0 ∙ ap layout_of is

  -- So it is of the fields of the image.
  pub accepted_fields : (s : Superblock) → s ≡ fields_of new provided → IsAccepted s
  accepted_fields s is = subst IsAccepted (sym is) given_accepted

  -- Of these no fault is told either.
  pub fields_never_refused : (s : Superblock) (fault : GeomFault) → s ≡ fields_of new provided → geometry_of s sectors ≡ Err fault → ⊥
  fields_never_refused s fault is refused =
      let given = given_fields in
      let same = ap (λ (x : Superblock). geometry_of x sectors) is in
      absurd (cc (given, same, refused))
