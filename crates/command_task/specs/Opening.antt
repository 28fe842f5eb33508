-- What a run tells and leaves of its image, by what is done.
use Rattle.std.specs.Prelude.{◌≡◌, ℕ, List, Option}
use Rattle.disk_model.specs.Disk.{Content, last_image}
use Rattle.disk_model.specs.Moments.{HasNow}
use Rattle.run_model.specs.CommandRun.{Outset, Serves, IsEndedBy, IsAtExit, IsRunAt}
use Rattle.run_model.specs.Ending.{Ending}
use Rattle.device_model.specs.History.{Change}
use Rattle.run_model.specs.ScriptRun.{ScriptRun}
use Rattle.device.specs.declared.opening.OpenMode.{OpenMode}
use Rattle.stream_io.specs.Stream.{held_with}
use Rattle.command_ending.specs.declared.ended.Ended.{Ended}
use Rattle.command_ending.specs.declared.ended.Ended.TheVariants as Endings
use Rattle.command_task.specs.declared.asked.Task.{Task}
use Rattle.command_task.specs.declared.telling.Telling.{Telling}
use Rattle.command_task.specs.declared.telling.Telling.TheVariants.{Lines, Replies}
use Rattle.command_task.specs.Outset.{task_outset, run_outset}
use Rattle.command_model.specs.Outset.{geometry_on}
use Rattle.command_task.specs.Serving.{HasNotBegun, HasServedOn}
use Rattle.command_model.specs.Opening.{IsMomentOf}
use Rattle.run_model.specs.declared.outer.Outer.TheVariants as outers
use Rattle.command_ending.specs.declared.refusal.Refusal.TheVariants as refusals

-- The run came so far, and ended so: the sink holds its text behind what it held, and this is left of the disk.
pub record HasRunOn (outset : Outset) (start : Content) (script : List ℕ) (ending : Ending) (after : List Content)
    (held_before held : Option (List ℕ)) : Type 0 where
  pub run : ScriptRun
  pub is_run : IsRunAt outset script run
  pub text : List ℕ
  pub changes : List Change
  pub ended : IsEndedBy run text changes ending
  pub told : held ≡ held_with text held_before
  pub left : HasNow (IsAtExit outset start changes ending) after

-- A command came so far, and ended so, by what it starts on. Where a session has begun nothing but its replies is written.
abbrev pub HasRunIn : Outset → Telling → (start : Content) → (script : List ℕ) → Ending → (after : List Content)
    → (held_before held : Option (List ℕ)) → Type 0
HasRunIn (Serves kind image) Lines start stream ending after held_before held =
    HasNotBegun kind image start ending after held_before held
HasRunIn (Serves kind image) Replies start stream ending after held_before held =
    HasServedOn kind image stream ending after held_before held
HasRunIn outset Lines start script ending after held_before held =
    HasRunOn outset start script ending after held_before held
HasRunIn outset Replies start script ending after held_before held = ⊥

-- What stands at a moment of the run of a script in this mode on a disk of so many sectors, with this key.
abbrev pub IsMomentOn : OpenMode → Option (List ℕ) → (sectors : ℕ) → (start : Content) → List ℕ → (later : Content)
    → Type 0
IsMomentOn mode key sectors start script later =
    IsMomentOf (run_outset mode key sectors (last_image start)) (geometry_on sectors (last_image start)) start script
    later

-- The same, of what is done on such a disk.
abbrev pub IsMomentAt : Task → Option (List ℕ) → (sectors : ℕ) → (start : Content) → List ℕ → (later : Content) → Type 0
IsMomentAt task key sectors start script later =
    IsMomentOf (task_outset task key sectors (last_image start)) (geometry_on sectors (last_image start)) start script
    later

-- What can end a run on an image: neither words, nor a key, nor a second image.
abbrev pub EndsImage : Ended → Type 0
EndsImage (Endings.Refused refusals.Words) = ⊥
EndsImage (Endings.Refused (refusals.Key refusal)) = ⊥
EndsImage (Endings.Refused (refusals.Second fault)) = ⊥
EndsImage (Endings.Refused (refusals.Legs a_blocks a_size b_blocks b_size)) = ⊥
EndsImage (Endings.Failed outers.Key) = ⊥
EndsImage ended = Unit {0}
