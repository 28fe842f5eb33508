-- Which blocks have an entry in a journal, as they are kept.
use Rattle.std.specs.Prelude.{◌≡◌, ℕ, List, Option, is_some}
use Rattle.std.specs.List.{AllByRecursion}
use Rattle.disk_model.specs.Disk.{Image}
use Rattle.image_model.specs.Cells.{last_entry, replayed_entries}
use Rattle.image_model.specs.Geometry.{Geometry}
use Rattle.image_model.specs.Openable.{IsReplayable}
use Rattle.journal_reading.specs.Newest.{newest_in}

-- A number is kept for exactly the blocks that have an entry of an image's journal, and these can be replayed.
pub record IsIndexOn (key salt : Option (List ℕ)) (g : Geometry) (image : Image) (newest : List (ℕ × ℕ)) : Type 0 where
  pub each : (b : ℕ) → is_some (newest_in newest b) ≡ is_some (last_entry g (replayed_entries g image) b)
  pub right : AllByRecursion (IsReplayable key salt g) (replayed_entries g image)
