-- What the levelling and the run of one line leave of a mirror.
use Rattle.std.specs.Prelude.{◌≡◌, ℕ, Bool, false, List, [], ◌∷◌, None, Option}
use Rattle.mirror_model.specs.Mirror.{MirrorFormat, MirrorState, changes_on_first, changes_on_second}
use Rattle.mirror_model.specs.Script.{AsksFor, IsMirrorLine, MirrorLine, MirrorOutcome, RefusedWords, Skips}
use Rattle.mirror_model.specs.Script.{mirror_ask_fault, mirror_outcome}
use Rattle.mirror_model.specs.ScriptRun.{MirrorStep, asking_step, level_step, mirror_run_from}
use Rattle.mirror_calls.specs.Leg.{IsLeftSince}
use Rattle.stream_io.specs.Stream.{held_with}
use Rattle.script_text.specs.Found.{finds_fault}
use Rattle.script_text.specs.declared.tags_found.TagsFound.{TagsFound}
use Rattle.command_ending.specs.Ended.{ending_of}
use Rattle.command_ending.specs.declared.ended.Ended.{Ended}
use Rattle.mirror_run.specs.Running.{IsStopped}
use Rattle.mirror_run.specs.Standing.{BothMoments, Cuts, IsStanding, Shown, Standing, format_at, standing_behind}

-- ---- a step

-- The step is made on the legs, and its text is told: they are the same with its changes, of which some of the first are
-- made at each moment of each disk.
pub record HasMadeStep (may : Cuts) (w : Standing) (step : MirrorStep) (before : BothMoments) (now : Shown)
    (held_before held : Option (List ℕ)) : Type 0 where
  pub legs : IsStanding (standing_behind w step.changes) now
  pub first : IsLeftSince (may.first w.a) w.m.a.history (changes_on_first step.changes) before.first now.moments.first
  pub second : IsLeftSince (may.second w.b) w.m.b.history (changes_on_second step.changes) before.second
      now.moments.second
  pub told : held ≡ held_with step.text held_before

-- The step of the levelling.
abbrev pub level_at : Standing → MirrorStep
level_at w = level_step (format_at w) w.m

-- ---- a line

-- What a line does that is skipped: nothing.
abbrev pub skipped_outcome : MirrorOutcome
skipped_outcome = record { text = []; changes = []; finds_fault = false }

-- What a line does that is run.
abbrev pub line_outcome : MirrorFormat → MirrorState → MirrorLine → MirrorOutcome
line_outcome f m Skips = skipped_outcome
line_outcome f m (AsksFor ask) = mirror_outcome f m ask
line_outcome f m (RefusedWords fault) = skipped_outcome

abbrev pub outcome_at : Standing → MirrorLine → MirrorOutcome
outcome_at w line = line_outcome (format_at w) w.m line

-- The line is one that is run.
abbrev pub IsRunnable : MirrorFormat → MirrorLine → Type 0
IsRunnable f Skips = Unit {0}
IsRunnable f (AsksFor ask) = mirror_ask_fault f ask ≡ None
IsRunnable f (RefusedWords fault) = ⊥

-- The bytes are a line, which was run.
pub record HasRunBytes (may : Cuts) (w : Standing) (bytes : List ℕ) (found : TagsFound) (before : BothMoments)
    (now : Shown) (held_before held : Option (List ℕ)) : Type 0 where
  pub line : MirrorLine
  pub read : IsMirrorLine bytes line
  pub runnable : IsRunnable (format_at w) line
  pub step : HasMadeStep may w (asking_step (outcome_at w line)) before now held_before held
  pub found_ : finds_fault found ≡ (outcome_at w line).finds_fault

-- The run of a script that goes on with these bytes is stopped with them, whatever stands behind them and was found
-- before.
abbrev pub IsStoppedByBytes : Cuts → Standing → (number : ℕ) → List ℕ → Ended → (before after : BothMoments)
    → (held_before held : Option (List ℕ)) → Type 0
IsStoppedByBytes may w number bytes ended before after held_before held =
    (too_long found : Bool) (read : MirrorLine) (lines : List MirrorLine) → IsMirrorLine bytes read
    → IsStopped may w (mirror_run_from (format_at w) too_long number w.m found (read ∷ lines))
    (ending_of ended) before after held_before held
