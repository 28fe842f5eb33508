-- An image whose journal is at rest, so that a recovery leaves it as it is.
use Rattle.std.specs.Prelude.{◌≡◌, ℕ, List, Some}
use Rattle.std.specs.List.{Contains}
use Rattle.disk_model.specs.Disk.{Content, Image, OnlyAdds, last_image}
use Rattle.disk_model.specs.Moments.{EachSince}
use Rattle.image_model.specs.Cells.{last_entry, placed_cells_of, replayed_entries}
use Rattle.image_model.specs.Geometry.{Geometry, section_sectors}
use Rattle.image_model.specs.Section.{Entry}
use Rattle.image_model.specs.Tables.{IsAtRest}
use Rattle.journal_model.specs.Entries.{cell_of}
use Rattle.place_model.specs.Journal.{numbers_on}
use Rattle.place_model.specs.RecoveryWrites.{IsOfPlacing}

-- The journal is at rest: writing goes on in one of its sections.
pub record IsRestingJournal (g : Geometry) (image : Image) : Type 0 where
  pub next : ℕ
  pub number : ℕ
  pub rests : IsAtRest g.sections (section_sectors g.shape) next number (numbers_on g image)

-- Where the journal of the image at the start is at rest, nothing is written from this content on but its entries in their
-- places and sectors of tags.
abbrev pub KeepsResting : Geometry → (start from c : Content) → Type 0
KeepsResting g start from c = IsRestingJournal g (last_image start)
    → OnlyAdds (IsOfPlacing g (Contains (replayed_entries g (last_image start)))) from c

-- So it is of each content since the start of a call.
abbrev pub StaysResting : Geometry → (before after : List Content) → Type 0
StaysResting g before after = EachSince (λ start. KeepsResting g start start) before after

-- Each block that has a replayed entry has the data and the tag of its last one in their places already,
pub record IsInPlaceAlready (g : Geometry) (image : Image) : Type 0 where
  pub each : (b : ℕ) (entry : Entry) → last_entry g (replayed_entries g image) b ≡ Some entry
      → placed_cells_of g image b ≡ cell_of entry

-- and the journal is at rest: the image was closed, and is as a recovery leaves it.
pub record IsRecoveredAlready (g : Geometry) (image : Image) : Type 0 where
  pub rests : IsRestingJournal g image
  pub in_place : IsInPlaceAlready g image
