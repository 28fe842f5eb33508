-- Where the newest entry of each block stands, as it is kept.
-- Own: the newest entry of a block is the last one that is replayed for it.
use Rattle.std.specs.Prelude.{◌≡◌, ℕ, ◌/◌, ◌==◌, List, if◌then◌else◌, Option, Some, None, option_and_then, option_map, is_some, slice_get}
use Rattle.disk_model.specs.Disk.{Image}
use Rattle.image_model.specs.declared.entry_place.EntryPlace.{EntryPlace}
use Rattle.image_model.specs.Cells.{counted_sections, entry_of, entry_places, last_entry, replayed_entries}
use Rattle.image_model.specs.Geometry.{Geometry}
use Rattle.image_model.specs.Grid.{walk_of}
use Rattle.image_model.specs.Section.{Entry}

-- The places of the sections that count, in the order of the replay.
abbrev pub counted_places : Geometry → Image → List EntryPlace
counted_places g image = entry_places g (counted_sections (walk_of g image))

-- The entry at the place with this number, if one stands there.
abbrev pub numbered_entry : Geometry → Image → ℕ → Option Entry
numbered_entry g image k = option_and_then (entry_of g image) (slice_get (counted_places g image) k)

-- Of each block that has a replayed entry the number of the last one is told, and of no other block any.
pub record IsIndexOf (g : Geometry) (image : Image) (newest : ℕ → Option ℕ) : Type 0 where
  pub each : (b : ℕ) → option_map (numbered_entry g image) (newest b)
      ≡ option_map (λ entry. Some entry) (last_entry g (replayed_entries g image) b)

-- The numbers with that of an entry, if there is one.
abbrev pub with_number : Geometry → (number : ℕ) → Option Entry → (ℕ → Option ℕ) → ℕ → Option ℕ
with_number g number None newest b = newest b
with_number g number (Some entry) newest b = if b == entry.sector / g.shape.spb then Some number else newest b

-- An entry was added, if there is one: it is counted, and is the newest of its block.
pub record AddsEntry (g : Geometry) (number : ℕ) (entry : Option Entry) (old new : ℕ → Option ℕ) (used : ℕ) : Type 0 where
  pub used_is : used ≡ (if is_some entry then 1 else 0)
  pub each : (b : ℕ) → new b ≡ with_number g number entry old b
