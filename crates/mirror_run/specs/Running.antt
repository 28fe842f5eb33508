-- The run of a script on a mirror that stands somewhere in it: what stops it, and what leads there.
-- Own: the mirror is levelled before the first line, and the script is not read before that is told.
use Rattle.std.specs.Prelude.{◌≡◌, ℕ, ◌+◌, ◌<◌, List, ◌++◌, length, Option}
use Rattle.std.specs.List.{AllZip}
use Rattle.disk_model.specs.Disk.{Content, EachImage, Image}
use Rattle.disk_model.specs.Moments.{HasNow}
use Rattle.device_model.specs.History.{Change, History, with_changes}
use Rattle.run_model.specs.Ending.{Complete, Ending}
use Rattle.mirror_model.specs.Command.{IsMirrorEndedBy}
use Rattle.mirror_model.specs.Mirror.{LegChanges, changes_on_first, changes_on_second}
use Rattle.mirror_model.specs.Script.{IsMirrorLine, MirrorLine}
use Rattle.mirror_model.specs.ScriptRun.{MirrorRun, MirrorStep, mirror_changes_in, mirror_close_step, mirror_only_ends}
use Rattle.mirror_model.specs.ScriptRun.{mirror_run_from, mirror_texts_of, with_mirror_step}
use Rattle.mirror_calls.specs.Leg.{IsLeftSince}
use Rattle.script_reader.specs.Reading.{Reading}
use Rattle.stream_io.specs.Stream.{held_with}
use Rattle.script_text.specs.Found.{finds_fault}
use Rattle.script_text.specs.declared.tags_found.TagsFound.{TagsFound}
use Rattle.script_lines.specs.Lines.{is_beyond, lines_behind}
use Rattle.device_model.specs.ScriptBytes.{newlines_in}
use Rattle.mirror_run.specs.Standing.{BothMoments, Cuts, IsStanding, Shown, Standing, format_at, standing_behind}

-- ---- what stops it

-- At each moment of the disk of a leg some of the rest of its changes are made, and now these.
pub record IsLegStopped (may_be_left : History → Image → Type 0) (h : History) (rest made : List Change)
    (before after : List Content) : Type 0 where
  pub since : IsLeftSince may_be_left h rest before after
  pub now : HasNow (EachImage (may_be_left (with_changes made h))) after

-- This is what stopped the rest of a run on a mirror: the rest came so far; so it is of each leg; and the sink holds its
-- text behind what it held.
pub record IsStopped (may : Cuts) (w : Standing) (rest : MirrorRun) (ending : Ending) (before after : BothMoments)
    (held_before held : Option (List ℕ)) : Type 0 where
  pub text : List ℕ
  pub changes : LegChanges
  pub ended : IsMirrorEndedBy rest text changes ending
  pub first : IsLegStopped (may.first w.a) w.m.a.history (changes_on_first (mirror_changes_in rest.steps)) changes.first
      before.first after.first
  pub second : IsLegStopped (may.second w.b) w.m.b.history (changes_on_second (mirror_changes_in rest.steps))
      changes.second before.second after.second
  pub told : held ≡ held_with text held_before

-- What stops the rest of a run here stops the whole run, which began there.
abbrev pub Leads : Cuts → (here : Standing) → (rest : MirrorRun) → (now : BothMoments) → (held : Option (List ℕ))
    → (there : Standing) → (run : MirrorRun) → (start : BothMoments) → (held_start : Option (List ℕ)) → Type 0
Leads may here rest now held there run start held_start =
    (ending : Ending) (later : BothMoments) (held_later : Option (List ℕ))
    → IsStopped may here rest ending now later held held_later
    → IsStopped may there run ending start later held_start held_later

-- ---- where it stands

-- These steps of a run are made, of which the levelling is the first: it goes on with the rest, on the same legs with
-- their changes. Their text is printed, and what is taken of the script has a newline less than they are many.
pub record IsPassed (there here : Standing) (run rest : MirrorRun) (script : List ℕ) (held_start : Option (List ℕ))
    (reader : Reading) (left : List ℕ) (held : Option (List ℕ)) : Type 0 where
  pub steps : List MirrorStep
  pub is_split : run.steps ≡ steps ++ rest.steps
  pub done : here ≡ standing_behind there (mirror_changes_in steps)
  pub printed : held ≡ held_with (mirror_texts_of steps) held_start
  pub front : List ℕ
  pub bytes : script ≡ front ++ (reader.unread ++ left)
  pub within : newlines_in front < length steps

-- What is left of a run at a line of this number, and those behind it.
abbrev pub rest_at : Standing → Reading → (left : List ℕ) → (number : ℕ) → TagsFound → List MirrorLine → MirrorRun
rest_at here reader left number found lines =
    mirror_run_from (format_at here) (is_beyond reader left) number here.m (finds_fault found) lines

-- A run of a script stands before its line of this number, and these legs with it.
pub record IsAt (may : Cuts) (there : Standing) (run : MirrorRun) (script : List ℕ) (start : BothMoments)
    (held_start : Option (List ℕ)) (number : ℕ) (found : TagsFound) (reader : Reading) (left : List ℕ) (now : Shown)
    (held : Option (List ℕ)) : Type 0 where
  pub here : Standing
  pub legs : IsStanding here now
  pub lines : List MirrorLine
  pub read : AllZip IsMirrorLine (lines_behind reader left) lines
  pub leads : Leads may here (rest_at here reader left number found lines) now.moments held there run start held_start
  pub passed : IsPassed there here run (rest_at here reader left number found lines) script held_start reader left held

-- What is left of a run where no line is: the close.
abbrev pub only_close : TagsFound → MirrorRun
only_close found = with_mirror_step mirror_close_step (mirror_only_ends (Complete (finds_fault found)))

-- All lines are run: the close is left.
pub record IsAtClose (may : Cuts) (there : Standing) (run : MirrorRun) (start : BothMoments)
    (held_start : Option (List ℕ)) (found : TagsFound) (now : Shown) (held : Option (List ℕ)) : Type 0 where
  pub here : Standing
  pub legs : IsStanding here now
  pub leads : Leads may here (only_close found) now.moments held there run start held_start
  pub steps : List MirrorStep
  pub is_split : run.steps ≡ steps ++ (only_close found).steps
  pub done : here ≡ standing_behind there (mirror_changes_in steps)
