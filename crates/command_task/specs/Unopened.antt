-- What is left of an image that a run did not open for want of memory.
use Rattle.std.specs.Prelude.{◌≡◌, List, Option, Some, None}
use Rattle.disk_model.specs.Disk.{Content}
use Rattle.command_task.specs.declared.asked.Asked.{Asked}
use Rattle.command_task.specs.declared.asked.Task.{Task}
use Rattle.command_task.specs.declared.asked.Task.TheVariants as Tasks

-- The disk of a run is as it was, not even synced. What is done without a script opens no device, or makes its image
-- first; and a session takes memory once its device is open.
abbrev pub IsUnopenedAt : Task → (before after : List Content) → Type 0
IsUnopenedAt (Tasks.Run mode) before after = after ≡ before
IsUnopenedAt (Tasks.Serve mode) before after = Unit {0}
IsUnopenedAt Tasks.Dump before after = Unit {0}
IsUnopenedAt (Tasks.Check what) before after = Unit {0}
IsUnopenedAt Tasks.Salvage before after = Unit {0}
IsUnopenedAt Tasks.Resize before after = Unit {0}
IsUnopenedAt (Tasks.Format new) before after = Unit {0}
IsUnopenedAt (Tasks.Exercise seed count) before after = Unit {0}

-- The same, of what is asked.
abbrev pub IsUnopenedFor : Option Asked → (before after : List Content) → Type 0
IsUnopenedFor None before after = Unit {0}
IsUnopenedFor (Some asked) before after = IsUnopenedAt asked.task before after
