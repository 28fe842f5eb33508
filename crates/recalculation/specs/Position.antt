-- The position of a recalculation without a bitmap: the fields as they stand in sector 0, which of them are to be
-- written, and how they are.
-- Own: sector 0 is written only where position or flag changes, and synced then.
use Rattle.std.specs.Prelude.{◌≡◌, true, ℕ, ◌==◌, Bool, not, ◌&&◌, if◌then◌else◌, Option, Some, None, List}
use Rattle.disk_model.specs.Disk.{AddsSome, Content, last_image, newest_only, with_run}
use Rattle.disk_model.specs.Moments.{EachSince, HasNow, IsChangedBy}
use Rattle.image_model.specs.declared.flags.TheConstants.{RECALCULATING}
use Rattle.image_model.specs.Geometry.{Geometry}
use Rattle.image_model.specs.Superblock.{IsAccepted, Superblock, has_flag}
use Rattle.image_model.specs.SuperblockLaws.{FitsBytes}
use Rattle.direct_laws.specs.ServeLaws.{Syncs}
use Rattle.change_model.specs.Fields.{with_head}
use Rattle.recalculate_laws.specs.Calls.{WritesHead}
use Rattle.recalculate_laws.specs.Position.{HasPosition, moved_fields}

-- ---- the fields

-- The fields may be written: they are accepted, and fit their bytes.
pub record CanBeWritten (s : Superblock) : Type 0 where
  pub accepted : IsAccepted s
  pub fits : FitsBytes s

-- Where the flag is set the position of these fields may move.
abbrev pub MayMove : Superblock → Type 0
MayMove s = has_flag RECALCULATING s.flags ≡ true → HasPosition s

-- Neither position nor flags differ.
abbrev pub is_same_position : Superblock → Superblock → Bool
is_same_position s t = t.recalc_sector == s.recalc_sector && t.flags == s.flags

-- The fields that are to be written where these regions await: none where the flag is not set, or position and flag
-- stay.
abbrev pub fields_to_write : Superblock → Geometry → (awaiting : ℕ → Bool) → Option Superblock
fields_to_write s g awaiting =
    if has_flag RECALCULATING s.flags && not (is_same_position s (moved_fields s g awaiting))
    then Some (moved_fields s g awaiting) else None

-- ---- sector 0

-- The bytes are those of sector 0 as reads give it, with these fields.
abbrev pub IsHeadOf : Superblock → (head : List ℕ) → List Content → Type 0
IsHeadOf fields head moments = HasNow (λ c. head ≡ with_head fields (last_image c 0)) moments

-- Sector 0 was written with these fields, and synced. The tags are as before.
pub record WritesFields (g : Geometry) (fields : Superblock) (tags : Content → ℕ → List ℕ)
    (before after : List Content) : Type 0 where
  pub head : List ℕ
  pub between : List Content
  pub is_head : IsHeadOf fields head before
  pub writes : WritesHead g head tags tags before between
  pub syncs : Syncs g tags tags between after

-- So far that came, whether it failed or not: nothing is written; sector 0 is being written; or it is written, and is
-- being synced.
pub data WritesFieldsIn (fields : Superblock) (before after : List Content) : Type 0 where
  Unwritten : after ≡ before → WritesFieldsIn fields before after
  Writing : (head : List ℕ) → IsHeadOf fields head before → EachSince (AddsSome 0 head) before after
      → WritesFieldsIn fields before after
  Syncing : (head : List ℕ) (between : List Content) → IsHeadOf fields head before
      → IsChangedBy (with_run 0 head) before between → EachSince (AddsSome 0 head) before between
      → EachSince (λ start c. c ≡ newest_only start) between after → WritesFieldsIn fields before after

-- ---- a move

-- The fields that were to be written, if any, were, and are those of the position then.
abbrev pub HasMoved : Option Superblock → Geometry → (tags : Content → ℕ → List ℕ) → (old new : Superblock)
    → (before after : List Content) → Type 0
HasMoved None g tags old new before after = (new ≡ old) × (after ≡ before)
HasMoved (Some fields) g tags old new before after = (new ≡ fields) × WritesFields g fields tags before after

-- So far that came.
abbrev pub MovesIn : Option Superblock → (before after : List Content) → Type 0
MovesIn None before after = after ≡ before
MovesIn (Some fields) before after = WritesFieldsIn fields before after
