-- What reads give of a disk in journal mode after each step, as calls leave them.
-- Own: as the disk in journal mode.
use Rattle.std.specs.Prelude.{◌≡◌, ℕ, ◌<◌, None, List, ◌++◌, drop}
use Rattle.disk_model.specs.Disk.{Content, IsImage, OnlyAdds, last_image, newest_only, with_run}
use Rattle.image_model.specs.Cells.{last_entry}
use Rattle.image_model.specs.Geometry.{section_at, data_at}
use Rattle.image_model.specs.Section.{Entry}
use Rattle.place_model.specs.Blocks.{GivesCell}
use Rattle.place_model.specs.Tags.{tag_byte_at, with_block_tag, IsOfTags, ReadsTags, KeepsOthers}
use Rattle.journal_model.specs.Entries.{cell_after}
use Rattle.journal_model.specs.JournaledDisk.{JournaledDisk, IsSound, Rests}
use Rattle.journal_model.specs.Steps.{IsBatch, IsNextEntry, KeepsCells, after_commit, after_place, after_settle}

-- A commit changes nothing of the data and the tags in place,
abbrev pub KeepsCommitted : Type 0
KeepsCommitted = (d : JournaledDisk) (batch : ℕ) (bytes : List ℕ) (tags : ℕ → List ℕ) (first : Content)
    → Rests d → IsBatch d batch bytes → IsImage first (last_image first) → KeepsCells d tags first
    → KeepsCells (after_commit d batch bytes) tags
    (newest_only (with_run (section_at d.geometry d.next) bytes first))

-- nor of the sectors of tags.
abbrev pub KeepsTagSectors : Type 0
KeepsTagSectors = (d : JournaledDisk) (batch : ℕ) (bytes : List ℕ) (first : Content) (b i : ℕ)
    → IsSound d → IsBatch d batch bytes → b < d.geometry.blocks → i < d.geometry.shape.tag_size
    → last_image (newest_only (with_run (section_at d.geometry d.next) bytes first))
    (tag_byte_at d.geometry b i).sector
    ≡ last_image first (tag_byte_at d.geometry b i).sector

-- The bytes of the next entry are written to its block, and then its tag, which may stand in memory.
abbrev pub KeepsPlaced : Type 0
KeepsPlaced = (d : JournaledDisk) (b : ℕ) (entry : Entry) (tags : ℕ → List ℕ) (first c : Content)
    → KeepsCells d tags first → IsNextEntry d b entry
    → OnlyAdds (IsOfTags d.geometry tags (with_block_tag b entry.tag tags))
    (with_run (data_at d.geometry b) entry.bytes first) c
    → KeepsOthers d.geometry (with_run (data_at d.geometry b) entry.bytes first) c
    → KeepsCells (after_place d) (with_block_tag b entry.tag tags) c

-- Tags are written back,
abbrev pub KeepsBack : Type 0
KeepsBack = (d : JournaledDisk) (tags : ℕ → List ℕ) (first c : Content) → KeepsCells d tags first
    → OnlyAdds (IsOfTags d.geometry tags tags) first c → KeepsOthers d.geometry first c → KeepsCells d tags c

-- and then a sync settles what is placed.
abbrev pub KeepsSettled : Type 0
KeepsSettled = (d : JournaledDisk) (tags : ℕ → List ℕ) (first : Content) → KeepsCells d tags first
    → IsImage first (last_image first) → ReadsTags d.geometry tags first
    → KeepsCells (after_settle d) tags (newest_only first)

-- Of a block with no entry that is not placed, reads of its data and the tag that is told give its cell after all.
abbrev pub PlacedReadLaw : Type 0
PlacedReadLaw = (d : JournaledDisk) (tags : ℕ → List ℕ) (c : Content) (uncommitted : List Entry) (b : ℕ)
    → b < d.geometry.blocks → KeepsCells d tags c
    → last_entry d.geometry (drop d.placed d.entries ++ uncommitted) b ≡ None
    → GivesCell d.format b (tags b) c (cell_after d.geometry d.base (d.entries ++ uncommitted) b)
