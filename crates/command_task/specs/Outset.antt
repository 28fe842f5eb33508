-- What a command starts on, by what it is given: the words, the key's bytes, and the image.
-- Own: the words are judged first, then the key, then the image.
use Rattle.std.specs.Prelude.{ℕ, List, Option, Some, None, Result, Ok, Err}
use Rattle.disk_model.specs.Disk.{Image}
use Rattle.device_model.specs.Device.{DeviceKind}
use Rattle.run_model.specs.Ending.{Refused, ByWords, ByKey}
use Rattle.run_model.specs.declared.key_refusal.KeyRefusal.{KeyRefusal}
use Rattle.place_model.specs.Kind.{kind_in}
use Rattle.command_model.specs.Salvaging.{salvage_outset}
use Rattle.device.specs.declared.opening.OpenMode.{OpenMode}
use Rattle.device.specs.declared.opening.OpenMode.TheVariants.{Bitmap, Direct, Journal, Recovery}
use Rattle.device.specs.Opening.{asked_mode, fault_in_mode}
use Rattle.command_task.specs.declared.asked.Asked.{Asked}
use Rattle.command_task.specs.declared.asked.Task.{Task}
use Rattle.command_task.specs.declared.asked.Task.TheVariants as Tasks
use Rattle.command_model.specs.Checking.{check_outset}
use Rattle.command_model.specs.Dumping.{dump_outset}
use Rattle.command_model.specs.Exercising.{exercise_outset}
use Rattle.command_model.specs.Making.{format_outset}
use Rattle.command_model.specs.Resizing.{resizing_outset}
use Rattle.command_model.specs.Outset.{judged_outset, key_by}
use Rattle.command_task.specs.Words.{asked_of, key_file_of}
use Rattle.run_model.specs.CommandRun.{Outset, ReadsOn, RefusedBy, RunsOn, Serves}

-- A device in this mode is open on the image. In recovery mode it writes nothing.
abbrev pub begun_on : OpenMode → DeviceKind → Image → Outset
begun_on (Direct consent) kind image = RunsOn kind image
begun_on (Journal consent) kind image = RunsOn kind image
begun_on (Bitmap consent) kind image = RunsOn kind image
begun_on Recovery kind image = ReadsOn kind image

-- What a run in this mode starts on, on a disk of so many sectors with this image, under a key.
abbrev pub run_outset : OpenMode → (key : Option (List ℕ)) → (sectors : ℕ) → Image → Outset
run_outset mode key sectors image =
    judged_outset (begun_on mode (kind_in (asked_mode mode) key sectors) image) (fault_in_mode mode key sectors image)

-- What a session in this mode starts on: an image is refused exactly where a run in this mode is.
abbrev pub nbd_outset : OpenMode → (key : Option (List ℕ)) → (sectors : ℕ) → Image → Outset
nbd_outset mode key sectors image =
    judged_outset (Serves (kind_in (asked_mode mode) key sectors) image) (fault_in_mode mode key sectors image)

-- What is done on such a disk starts on this, with this key.
abbrev pub task_outset : Task → (key : Option (List ℕ)) → (sectors : ℕ) → Image → Outset
task_outset (Tasks.Run mode) key sectors image = run_outset mode key sectors image
task_outset (Tasks.Serve mode) key sectors image = nbd_outset mode key sectors image
task_outset Tasks.Dump key sectors image = dump_outset sectors image
task_outset (Tasks.Check what) key sectors image = check_outset what key sectors image
task_outset Tasks.Salvage key sectors image = salvage_outset key sectors image
task_outset Tasks.Resize key sectors image = resizing_outset key sectors image
task_outset (Tasks.Format new) key sectors image = format_outset key sectors new
task_outset (Tasks.Exercise seed count) key sectors image = exercise_outset sectors count seed

abbrev pub keyed_outset : Task → Result (Option (List ℕ)) KeyRefusal → (sectors : ℕ) → Image → Outset
keyed_outset task (Ok key) sectors image = task_outset task key sectors image
keyed_outset task (Err refusal) sectors image = RefusedBy (Refused (ByKey refusal))

abbrev pub asked_outset : Option Asked → (key_bytes : List ℕ) → (sectors : ℕ) → Image → Outset
asked_outset None key_bytes sectors image = RefusedBy (Refused ByWords)
asked_outset (Some asked) key_bytes sectors image =
    keyed_outset asked.task (key_by (key_file_of asked.hash) key_bytes) sectors image

-- What a command with these words starts on, where the key file has these bytes, on a disk of so many sectors with this
-- image.
abbrev pub outset_of : List (List ℕ) → (key_bytes : List ℕ) → (sectors : ℕ) → Image → Outset
outset_of words key_bytes sectors image = asked_outset (asked_of words) key_bytes sectors image
