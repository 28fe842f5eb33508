-- The device behind the lines of a script, and what its close leaves, by what is done.
use Rattle.std.specs.Prelude.{◌≡◌, ℕ, List, Option, Some, None, Result, Ok, Err, OnOk}
use Rattle.std.specs.List.{AllZip}
use Rattle.disk_model.specs.Disk.{Content, last_image}
use Rattle.disk_model.specs.Identity.{DiskIdentity}
use Rattle.disk_model.specs.Moments.{HasNow}
use Rattle.run_model.specs.declared.key_refusal.KeyRefusal.{KeyRefusal}
use Rattle.device_model.specs.Grammar.{ReadLine, IsReadAs}
use Rattle.device_model.specs.ScriptBytes.{lines_of}
use Rattle.place_model.specs.Changed.{opened_format}
use Rattle.place_model.specs.Format.{format_on}
use Rattle.place_model.specs.Kind.{kind_in}
use Rattle.device_parts.specs.Device.{Standing}
use Rattle.device.specs.Opening.{asked_mode}
use Rattle.command_task.specs.declared.asked.Asked.{Asked}
use Rattle.command_task.specs.declared.asked.Task.{Task}
use Rattle.command_task.specs.declared.asked.Task.TheVariants as Tasks
use Rattle.command_model.specs.Outset.{key_by}
use Rattle.command_model.specs.Closed.{IsClosedBehind, IsClosedNew, IsClosedServed, state_behind}
use Rattle.command_task.specs.Words.{key_file_of}

-- ---- behind some lines

-- The same device, before these lines of a script, comes to where all of them lead.
pub record ComesTo (there : Standing) (script : List ℕ) (here : Standing) (lines : List ReadLine) : Type 0 where
  pub all : List ReadLine
  pub read : AllZip IsReadAs (lines_of script) all
  pub same : here ≡ record there { state = here.state }
  pub comes : state_behind there.format here.state lines ≡ state_behind there.format there.state all

-- ---- behind the close

-- So each image is left by the close behind what is done on a disk of so many sectors with this content, under a key,
-- where that runs a device.
abbrev pub IsClosedAt : Task → (key : Option (List ℕ)) → (sectors : ℕ) → (start : Content) → (script : List ℕ) → Content
    → Type 0
IsClosedAt (Tasks.Run mode) key sectors start script c =
    IsClosedBehind (kind_in (asked_mode mode) key sectors) (last_image start)
    (opened_format (asked_mode mode) (format_on key sectors (last_image start))) script c
IsClosedAt (Tasks.Serve mode) key sectors start script c =
    IsClosedServed (kind_in (asked_mode mode) key sectors) (last_image start)
    (opened_format (asked_mode mode) (format_on key sectors (last_image start))) script c
IsClosedAt Tasks.Dump key sectors start script c = Unit {0}
IsClosedAt (Tasks.Check what) key sectors start script c = Unit {0}
IsClosedAt Tasks.Salvage key sectors start script c = Unit {0}
IsClosedAt Tasks.Resize key sectors start script c = Unit {0}
IsClosedAt (Tasks.Format new) key sectors start script c = Unit {0}
IsClosedAt (Tasks.Exercise seed count) key sectors start script c = IsClosedNew sectors count seed start c

abbrev pub IsClosedUnder : Task → Result (Option (List ℕ)) KeyRefusal → ℕ → Content → List ℕ → Content → Type 0
IsClosedUnder task (Ok key) sectors start script c = IsClosedAt task key sectors start script c
IsClosedUnder task (Err refusal) sectors start script c = Unit {0}

abbrev pub IsClosedFor : Option Asked → (key_bytes : List ℕ) → (sectors : ℕ) → (start : Content) → (script : List ℕ)
    → Content → Type 0
IsClosedFor None key_bytes sectors start script c = Unit {0}
IsClosedFor (Some asked) key_bytes sectors start script c =
    IsClosedUnder asked.task (key_by (key_file_of asked.hash) key_bytes) sectors start script c

-- A task that came to its end leaves the disk closed so, whatever script its source tells.
abbrev pub ClosesTask : {T E D S : Type 0} → (D → DiskIdentity) → (D → List Content) → (S → Option (List ℕ)) → Task
    → (key : Option (List ℕ)) → Result T E → (first last : D) → S → Type 0
ClosesTask identity moments left task key result first last script = OnOk result ((bytes : List ℕ)
    → left script ≡ Some bytes → HasNow (λ c.
    HasNow (IsClosedAt task key (identity first).sectors c bytes) (moments last)) (moments first))
