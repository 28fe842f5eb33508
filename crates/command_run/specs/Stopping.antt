-- The run of a script on a device that stands somewhere in it: what stops it, what leads there, and what is read.
use Rattle.std.specs.Prelude.{◌≡◌, ℕ, ◌+◌, ◌<◌, ltb, Bool, List, [], ◌++◌, length, Option, ◌≤◌}
use Rattle.std.specs.List.{AllZip}
use Rattle.std.specs.Option.{ForSome, IsSomeAnd}
use Rattle.disk_model.specs.Disk.{Content}
use Rattle.disk_model.specs.Moments.{EachMoment}
use Rattle.run_model.specs.Ending.{Ending, Complete}
use Rattle.device_model.specs.Grammar.{ReadLine, IsReadAs}
use Rattle.device_model.specs.History.{Change, with_changes}
use Rattle.run_model.specs.ScriptRun.{ScriptRun, ScriptStep, changes_in, close_step, only_ends, run_from, texts_of, with_step}
use Rattle.direct_laws.specs.MomentLaws.{IsLeftNow}
use Rattle.device_parts.specs.declared.condition.Condition.TheVariants as Conditions
use Rattle.device.specs.declared.mode.DeviceParts.{DeviceParts}
use Rattle.device.specs.Device.{IsDevice, kind_of}
use Rattle.device_parts.specs.Device.{Standing}
use Rattle.device_model.specs.Device.{IsLeftWithin}
use Rattle.device.specs.Tags.{Leaves}
use Rattle.command_task.specs.Closed.{ComesTo}
use Rattle.script_reader.specs.Reading.{Reading}
use Rattle.script_text.specs.declared.tags_found.TagsFound.{TagsFound}
use Rattle.stream_io.specs.Stream.{held_with}
use Rattle.script_text.specs.Found.{finds_fault}
use Rattle.command_ending.specs.declared.ended.Ended.TheVariants as Endings
use Rattle.run_model.specs.CommandRun.{IsEndedBy}
use Rattle.run_model.specs.declared.outer.Outer.TheVariants as outers
use Rattle.command_ending.specs.declared.refusal.Refusal.TheVariants as refusals
use Rattle.device_model.specs.ScriptBytes.{newlines_in}
use Rattle.script_lines.specs.Lines.{is_beyond, lines_behind}

-- This is what stopped the rest of a run on a device: the rest came so far; at each moment some of its changes
-- are made, and now these; no sector is written but those that it may write in the device's mode; and the sink holds
-- its text behind what it held.
pub record IsStopped (w : Standing) (rest : ScriptRun) (ending : Ending) (before after : List Content)
    (held_before held : Option (List ℕ)) : Type 0 where
  pub text : List ℕ
  pub changes : List Change
  pub ended : IsEndedBy rest text changes ending
  pub since : EachMoment before after
      (IsLeftWithin (kind_of w) w.entry w.state.history (changes_in rest.steps))
  pub others : Leaves w (changes_in rest.steps) before after
  pub now : IsLeftNow (kind_of w) w.entry (with_changes changes w.state.history) after
  pub told : held ≡ held_with text held_before

-- What stops the rest of a run here stops the whole run, which began there.
abbrev pub Leads : (here : Standing) → (rest : ScriptRun) → (now : List Content) → (held : Option (List ℕ))
    → (there : Standing) → (run : ScriptRun) → (start : List Content) → (held_start : Option (List ℕ)) → Type 0
Leads here rest now held there run start held_start =
    (ending : Ending) (later : List Content) (held_later : Option (List ℕ))
    → IsStopped here rest ending now later held held_later
    → IsStopped there run ending start later held_start held_later

-- These steps of a run are made: it goes on with the rest. Their text is printed, and what is taken of the script has
-- no more newlines than they are many.
pub record IsPassed (run rest : ScriptRun) (script : List ℕ) (held_start : Option (List ℕ)) (reader : Reading)
    (left : List ℕ) (held : Option (List ℕ)) : Type 0 where
  pub steps : List ScriptStep
  pub is_split : run.steps ≡ steps ++ rest.steps
  pub printed : held ≡ held_with (texts_of steps) held_start
  pub front : List ℕ
  pub bytes : script ≡ front ++ (reader.unread ++ left)
  pub within : newlines_in front ≤ length steps

-- A run of a script stands before its line of this number.
pub record IsAt (there : Standing) (run : ScriptRun) (script : List ℕ) (start : List Content)
    (held_start : Option (List ℕ)) (number : ℕ) (found : TagsFound) (reader : Reading) (left : List ℕ)
    (parts : DeviceParts) (now : List Content) (held : Option (List ℕ)) : Type 0 where
  pub here : Standing
  pub device : IsDevice here Conditions.Working parts now
  pub lines : List ReadLine
  pub read : AllZip IsReadAs (lines_behind reader left) lines
  pub leads : Leads here
      (run_from here.format (is_beyond reader left) number here.state (finds_fault found) lines) now held
      there run start held_start
  pub passed : IsPassed run
      (run_from here.format (is_beyond reader left) number here.state (finds_fault found) lines) script held_start
      reader left held
  pub comes : ComesTo there script here lines

-- What is left of a run where no line is: the close.
abbrev pub only_close : Standing → TagsFound → ScriptRun
only_close w found = with_step (close_step w.format w.state) (only_ends (Complete (finds_fault found)))

-- All lines are run: the close is left.
pub record IsAtClose (there : Standing) (run : ScriptRun) (script : List ℕ) (start : List Content)
    (held_start : Option (List ℕ)) (found : TagsFound) (parts : DeviceParts) (now : List Content)
    (held : Option (List ℕ)) : Type 0 where
  pub here : Standing
  pub device : IsDevice here Conditions.Working parts now
  pub leads : Leads here (only_close here found) now held there run start held_start
  pub comes : ComesTo there script here []

-- ---- what is taken of a source

-- A byte of it at least was taken.
abbrev pub TakesSome : (left later : Option (List ℕ)) → Type 0
TakesSome left later = ForSome left (λ bytes. IsSomeAnd later (λ more. length more < length bytes))
