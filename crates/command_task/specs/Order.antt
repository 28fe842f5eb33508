-- The moments of a command, and the order in which they come.
use Rattle.std.specs.Prelude.{ℕ, List, Option, Some, None, Result, Ok, Err}
use Rattle.disk_model.specs.Disk.{Content}
use Rattle.disk_model.specs.Moments.{EachMoment, KeepsMoments}
use Rattle.run_model.specs.declared.key_refusal.KeyRefusal.{KeyRefusal}
use Rattle.device.specs.Opening.{asked_mode}
use Rattle.place_model.specs.KeptTags.{KeepsStill}
use Rattle.resize_model.specs.Left.{IsInResizeOrder}
use Rattle.command_task.specs.declared.asked.Asked.{Asked}
use Rattle.command_task.specs.declared.asked.Task.{Task}
use Rattle.command_task.specs.declared.asked.Task.TheVariants as Tasks
use Rattle.command_model.specs.Exercising.{IsExercisedInOrder}
use Rattle.command_model.specs.Making.{IsMadeInOrder}
use Rattle.command_task.specs.Opening.{IsMomentAt}
use Rattle.command_model.specs.Outset.{key_by}
use Rattle.command_task.specs.Words.{key_file_of}

-- A new image is made in its order, one to be exercised too, and until it is made only sectors that it has are written;
-- then the lines of an exercise are run in theirs. An image is resized in its order. What only reads an image, whatever that is, as a run in recovery mode does, neither
-- writes to its disk nor syncs it.
abbrev pub IsInOrderAt : Task → (key : Option (List ℕ)) → (sectors : ℕ) → (before after : List Content) → Type 0
IsInOrderAt (Tasks.Run mode) key sectors before after = KeepsStill (asked_mode mode) before after
IsInOrderAt (Tasks.Serve mode) key sectors before after = KeepsStill (asked_mode mode) before after
IsInOrderAt Tasks.Dump key sectors before after = KeepsMoments before after
IsInOrderAt (Tasks.Check what) key sectors before after = KeepsMoments before after
IsInOrderAt Tasks.Salvage key sectors before after = KeepsMoments before after
IsInOrderAt Tasks.Resize key sectors before after = IsInResizeOrder key sectors before after
IsInOrderAt (Tasks.Format new) key sectors before after = IsMadeInOrder key sectors new before after
IsInOrderAt (Tasks.Exercise seed count) key sectors before after = IsExercisedInOrder sectors count seed before after

-- The same, under the key that is told, where one is.
abbrev pub IsInOrderUnder : Task → Result (Option (List ℕ)) KeyRefusal → ℕ → (before after : List Content) → Type 0
IsInOrderUnder task (Ok key) sectors before after = IsInOrderAt task key sectors before after
IsInOrderUnder task (Err refusal) sectors before after = Unit {0}

-- The same, of what is asked, where the key file has these bytes.
abbrev pub IsInOrderFor : Option Asked → (key_bytes : List ℕ) → (sectors : ℕ) → (before after : List Content) → Type 0
IsInOrderFor None key_bytes sectors before after = Unit {0}
IsInOrderFor (Some asked) key_bytes sectors before after =
    IsInOrderUnder asked.task (key_by (key_file_of asked.hash) key_bytes) sectors before after

-- What stands at each moment of what is done on a disk of so many sectors with this key, and in which order.
pub record HasMomentsAt (task : Task) (key : Option (List ℕ)) (sectors : ℕ) (start : Content) (script : List ℕ)
    (before after : List Content) : Type 0 where
  pub each : EachMoment before after (IsMomentAt task key sectors start script)
  pub order : IsInOrderAt task key sectors before after
