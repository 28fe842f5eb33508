-- Behind a close in direct and in journal mode no image has a bitmap.
use Rattle.std.proofs.Common.{◌≡◌, inl, inr, ℕ, Bool, false, not, refl, sym, ◌∙◌, ap, subst, Ok, Option, Some, None, List}
use Rattle.std.specs.List.{starts_with}
use Rattle.std.specs.Prelude.{nat_eq, ◌∷◌}
use Rattle.std.specs.Int.{w32, bit_not}
use Rattle.disk_model.specs.Disk.{Content}
use Rattle.disk_model.specs.Moments.{HasNow}
use Rattle.image_model.specs.declared.flags.TheConstants.{DIRTY_BITMAP, RECALCULATING}
use Rattle.image_model.specs.declared.super_fields.SuperFault.TheVariants.{Magic}
use Rattle.image_model.specs.Geometry.{Geometry}
use Rattle.image_model.specs.Superblock.{Superblock, fields_in, has_flag, magic, superblock_faults, superblock_of}
use Rattle.image_model.proofs.FaultLemmas.{ok_unless-told}
use Rattle.image_model.proofs.NumberLemmas.{cases_option}
use Rattle.change_model.proofs.FieldsLemmas.{has_flag-kept}
use Rattle.recalculate_laws.specs.Position.{next_awaiting, position_at}
use Rattle.recalculation.specs.declared.recalculating.Recalculation.{Recalculation}
use Rattle.recalculation.specs.Awaiting.{awaiting_of}
use Rattle.recalculation.specs.Position.{fields_to_write}
use Rattle.recalculation.specs.Recalculation.{HasFields, fields_left, fields_or}
use Rattle.recalculation.proofs.PositionLemmas.{written_moved}
use Rattle.device_parts.specs.declared.condition.Condition.TheVariants.{Working}
use Rattle.device_parts.specs.Device.{Standing}
use Rattle.direct_device.specs.declared.parts.DirectParts.{DirectParts}
use Rattle.direct_device.specs.Device.{IsDirect}
use Rattle.journal_device.specs.declared.parts.JournalParts.{JournalParts}
use Rattle.journal_device.specs.Answers as InJournal
use Rattle.journal_device.specs.Device.{IsJournaled}
use Rattle.place_model.specs.Awaiting.{HasNoBitmap}

-- ---- the fields that are left

-- Wherever the position moves to, the flag of a bitmap stays as it is.
clear_at : (s : Superblock) (g : Geometry) (o : Option ℕ) → has_flag DIRTY_BITMAP s.flags ≡ false → has_flag DIRTY_BITMAP (position_at s g o).flags ≡ false
clear_at s g None clear = has_flag-kept DIRTY_BITMAP (bit_not w32 RECALCULATING) s.flags refl ∙ clear
clear_at s g (Some region) clear = clear

clear_or : (g : Geometry) (s : Superblock) (awaiting : ℕ → Bool) → has_flag DIRTY_BITMAP s.flags ≡ false
    → has_flag DIRTY_BITMAP (fields_or (fields_to_write s g awaiting) s).flags ≡ false
clear_or g s awaiting clear = elim (cases_option (fields_to_write s g awaiting)) [
  | inl none ↦ subst (λ (o : Option Superblock). has_flag DIRTY_BITMAP (fields_or o s).flags ≡ false) (sym none) clear
  | inr some ↦
      subst (λ (o : Option Superblock). has_flag DIRTY_BITMAP (fields_or o s).flags ≡ false) (sym some.1)
      (subst (λ (t : Superblock). has_flag DIRTY_BITMAP t.flags ≡ false) (sym (written_moved s g awaiting some.0 some.1).0)
      (clear_at s g (next_awaiting s g awaiting) clear))
]

-- Fields that are accepted are those in the bytes.
fields_told : (bytes : List ℕ) (s : Superblock) → superblock_of bytes ≡ Ok s → fields_in bytes ≡ s
unfolding superblock_of
fields_told bytes s e = (ok_unless-told ((not (starts_with nat_eq bytes magic), Magic) ∷ superblock_faults (fields_in bytes)) (fields_in bytes) s e).0

left_clear : (r : Recalculation) (s : Superblock) (b : List Content) → r.position ≡ s → has_flag DIRTY_BITMAP s.flags ≡ false → HasFields (fields_left r) b → HasNow HasNoBitmap b
left_clear r s b same clear fields c told image is =
    ap (λ (t : Superblock). has_flag DIRTY_BITMAP t.flags) (fields_told (image 0) (fields_left r) (fields c told image is))
    ∙ clear_or r.awaiting.geometry r.position (awaiting_of r.awaiting) (ap (λ (t : Superblock). has_flag DIRTY_BITMAP t.flags) same ∙ clear)

-- ---- for callers

-- In direct mode these are in sector 0,
pub direct_rests : (w : Standing) (device : DirectParts) (a b : List Content) → IsDirect w Working device a → HasFields (fields_left device.recalculation) b
    → HasFields (fields_left device.recalculation) b × HasNow HasNoBitmap b
direct_rests w device a b is fields =
    let works = is.over.works refl in
    let formed = (works.cells.now is.over.told is.over.is_told).stands.formed in
    (fields, left_clear device.recalculation is.disk.superblock b works.recalculation_.fields formed.no_bitmap fields)

-- and so they are in journal mode.
pub journal_rests : (w : Standing) (device : JournalParts) (a b : List Content) → IsJournaled w Working device a → InJournal.IsAllPlaced w (fields_left device.state.recalculation) b
    → InJournal.IsAllPlaced w (fields_left device.state.recalculation) b × HasNow HasNoBitmap b
journal_rests w device a b is placed =
    let works = is.over.works refl in
    (placed, left_clear device.state.recalculation is.disk.superblock b works.recalc_.fields is.over.no_bitmap placed.fields_)
