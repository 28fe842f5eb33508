-- The sectors of the journal on an image, their commit numbers, and the entries of its sections.
-- Own: as the replay walk.
use Rattle.std.specs.Prelude.{◌≡◌, ℕ, ◌+◌, ◌<◌, IsOk, List, [], map, filter_map}
use Rattle.std.specs.List.{range_with_len}
use Rattle.disk_model.specs.Disk.{Image}
use Rattle.image_model.specs.Cells.{entry_of, replayed_entries, places_in}
use Rattle.image_model.specs.CommitId.{commit_number}
use Rattle.image_model.specs.Geometry.{Geometry, section_at, section_entries, section_sectors}
use Rattle.image_model.specs.Grid.{walk_of}
use Rattle.image_model.specs.Section.{Entry}
use Rattle.image_model.specs.Walk.{Numbers}

-- The sector is one of the journal's.
pub record IsOfJournal (g : Geometry) (sector : ℕ) : Type 0 where
  pub section : ℕ
  pub place : ℕ
  pub inside : section < g.sections
  pub narrow : place < section_sectors g.shape
  pub is : sector ≡ section_at g section + place

-- The commit numbers on the journal of an image.
abbrev pub numbers_on : Geometry → Image → Numbers
numbers_on g image section sector = commit_number section sector (image (section_at g section + sector))

-- The used entries of a section of an image, in order.
unfoldable pub entries_in : Geometry → Image → ℕ → List Entry
entries_in g image section =
    filter_map (entry_of g image) (places_in (section_entries g.shape) section)

-- The journal of an image has a walk, and no entry of it is replayed.
pub record HasNothingToReplay (g : Geometry) (image : Image) : Type 0 where
  pub has_walk : IsOk (walk_of g image)
  pub none : replayed_entries g image ≡ []
