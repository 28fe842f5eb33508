-- The moments of a step that recalculates a region, in journal mode and in direct mode: the tags are made and written
-- back, all is synced, and then the position is written and synced.
-- Own: the position moves behind the sync, so no tag below it is lost.
use Rattle.std.specs.Prelude.{◌≡◌, ℕ, Bool, false, Ok, List, length}
use Rattle.disk_model.specs.Disk.{Content, IsImage, OnlyAdds, last_image, newest_only, with_run}
use Rattle.image_model.specs.declared.flags.TheConstants.{DIRTY_BITMAP}
use Rattle.image_model.specs.Bitmap.{is_to_recalculate}
use Rattle.image_model.specs.Geometry.{geometry_of}
use Rattle.image_model.specs.Superblock.{Superblock, has_flag}
use Rattle.device_model.specs.Regions.{with_region}
use Rattle.place_model.specs.Format.{DiskFormat, tagger_of}
use Rattle.place_model.specs.Tags.{IsOfTags, KeepsOthers, ReadsTags}
use Rattle.bitmap_laws.specs.CallLaws.{region_tags}
use Rattle.change_model.specs.Fields.{with_head, KeepsRest}
use Rattle.change_model.specs.Opened.{rest_of}
use Rattle.recalculate_laws.specs.Position.{moved_fields, HasPosition, IsSamePosition}

-- The tags once a region has those of its bytes, where it is to be recalculated.
abbrev pub tags_then : DiskFormat → ℕ → Content → (ℕ → List ℕ) → ℕ → List ℕ
tags_then d region first tags =
    region_tags (tagger_of d) d.geometry (is_to_recalculate d.superblock d.geometry) region first tags

-- The regions that await then, the fields, and sector 0 with these.
abbrev pub awaiting_then : ℕ → (ℕ → Bool) → ℕ → Bool
awaiting_then region awaiting = with_region region false awaiting

abbrev pub fields_then : DiskFormat → ℕ → (awaiting : ℕ → Bool) → Superblock
fields_then d region awaiting = moved_fields d.superblock d.geometry (awaiting_then region awaiting)

abbrev pub head_then : DiskFormat → ℕ → (awaiting : ℕ → Bool) → Content → List ℕ
head_then d region awaiting first = with_head (fields_then d region awaiting) (last_image first 0)

-- This sector 0 alone is written.
abbrev pub IsOfNewHead : List ℕ → ℕ → List ℕ → Type 0
IsOfNewHead head sector x = (sector ≡ 0) × (x ≡ head)

-- The tags of a region were made and written back: only sectors of tags were written, and reads give the new tags.
pub record HasRegionTags (d : DiskFormat) (region : ℕ) (tags : ℕ → List ℕ) (first written : Content) : Type 0 where
  pub adds : OnlyAdds (IsOfTags d.geometry tags (tags_then d region first tags)) first written
  pub others : KeepsOthers d.geometry first written
  pub reads : IsImage written (last_image written)
  pub back : ReadsTags d.geometry (tags_then d region first tags) written

-- A moment of the step: tags are being written; or they are written back and synced; or the superblock is written, where
-- position or flag changes; or that is synced too.
pub data IsRecalcMoment (d : DiskFormat) (region : ℕ) (awaiting : ℕ → Bool) (tags : ℕ → List ℕ)
    (first c : Content) : Type 0 where
  Making : OnlyAdds (IsOfTags d.geometry tags (tags_then d region first tags)) first c
      → IsRecalcMoment d region awaiting tags first c
  Made : (written : Content) → HasRegionTags d region tags first written → c ≡ newest_only written
      → IsRecalcMoment d region awaiting tags first c
  Moving : (written : Content) → HasRegionTags d region tags first written
      → ¬ IsSamePosition d.superblock (fields_then d region awaiting)
      → OnlyAdds (IsOfNewHead (head_then d region awaiting first)) (newest_only written) c
      → IsRecalcMoment d region awaiting tags first c
  Moved : (written : Content) → HasRegionTags d region tags first written
      → ¬ IsSamePosition d.superblock (fields_then d region awaiting)
      → c ≡ newest_only (with_run 0 (head_then d region awaiting first) (newest_only written))
      → IsRecalcMoment d region awaiting tags first c

-- At each moment of it the bytes behind the fields of sector 0 are those before it.
abbrev pub StepRestLaw : Type 0
StepRestLaw = (d : DiskFormat) (region : ℕ) (awaiting : ℕ → Bool) (tags : ℕ → List ℕ) (first c : Content)
    → geometry_of d.superblock d.sectors ≡ Ok d.geometry → has_flag DIRTY_BITMAP d.superblock.flags ≡ false
    → HasPosition d.superblock → length (last_image first 0) ≡ 512 → KeepsRest (rest_of first) first
    → IsRecalcMoment d region awaiting tags first c → KeepsRest (rest_of first) c
