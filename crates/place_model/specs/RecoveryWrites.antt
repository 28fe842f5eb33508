-- Which sectors a recovery writes, and with which bytes; and what an opening leaves that recovers.
-- Source: Linux, drivers/md/dm-integrity.c, do_journal_write and init_journal.
use Rattle.std.specs.Prelude.{◌⊎◌, ℕ, ◌/◌, List}
use Rattle.std.specs.List.{Contains}
use Rattle.disk_model.specs.Disk.{Content, IsOfRun, OnlyAdds, last_image, newest_only}
use Rattle.image_model.specs.Cells.{replayed_entries}
use Rattle.image_model.specs.EmptySections.{AreEmptySections}
use Rattle.image_model.specs.Geometry.{Geometry, data_at, section_at}
use Rattle.image_model.specs.Section.{Entry}
use Rattle.place_model.specs.Tags.{HoldsTag}

-- The bytes are those of one of these entries, in the place of its block.
pub record IsOfEntry (g : Geometry) (Among : Entry → Type 0) (sector : ℕ) (x : List ℕ) : Type 0 where
  pub entry : Entry
  pub among : Among entry
  pub in_place : IsOfRun (data_at g (entry.sector / g.shape.spb)) entry.bytes sector x

-- They are so, or the sector is one of tags.
abbrev pub IsOfPlacing : Geometry → (Entry → Type 0) → ℕ → List ℕ → Type 0
IsOfPlacing g Among sector x = IsOfEntry g Among sector x ⊎ HoldsTag g sector

-- They are those of a journal of empty sections, all of one commit number.
pub record IsOfEmptyJournal (g : Geometry) (sector : ℕ) (x : List ℕ) : Type 0 where
  pub number : ℕ
  pub bytes : List ℕ
  pub empty : AreEmptySections g number bytes
  pub in_place : IsOfRun (section_at g 0) bytes sector x

-- They come by a recovery of these entries.
abbrev pub IsOfRecovery : Geometry → List Entry → ℕ → List ℕ → Type 0
IsOfRecovery g entries sector x = IsOfPlacing g (Contains entries) sector x ⊎ IsOfEmptyJournal g sector x

-- The content comes by an opening: what was pending is settled, and then nothing is written but entries of the image's
-- journal in their places, sectors of tags, and empty sections.
abbrev pub IsOfOpening : Geometry → (start c : Content) → Type 0
IsOfOpening g start c =
    OnlyAdds (IsOfRecovery g (replayed_entries g (last_image start))) (newest_only start) c

-- The content comes by a recovery: what was pending is settled, and then nothing is written but entries of the image's
-- journal in their places, sectors of tags, and empty sections.
abbrev pub IsOfRecovering : Geometry → (start c : Content) → Type 0
IsOfRecovering g start c = OnlyAdds (IsOfRecovery g (replayed_entries g (last_image start))) (newest_only start) c
