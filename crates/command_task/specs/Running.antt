-- How a run ended, and by which cause.
use Rattle.std.specs.Prelude.{◌≢◌, ◌==◌, if◌then◌else◌, [], ◌∷◌, Result, Ok, Err}
use Rattle.std.specs.Option.{ForSome}
use Rattle.run_model.specs.Ending.{Ending, Complete}
use Rattle.script_text.specs.declared.tags_found.TagsFound.{TagsFound}
use Rattle.script_text.specs.Found.{finds_fault}
use Rattle.command_ending.specs.Ended.{ending_of}
use Rattle.command_ending.specs.declared.ended.Ended.{Ended}
use Rattle.command_ending.specs.declared.ended.Ended.TheVariants as Endings
use Rattle.run_model.specs.declared.outer.Outer.TheVariants as outers
use Rattle.command_ending.specs.declared.refusal.Refusal.TheVariants as refusals

-- How a run ended.
abbrev pub ending_by : Result TagsFound Ended → Ending
ending_by (Ok found) = Complete (finds_fault found)
ending_by (Err ended) = ending_of ended

-- ---- causes

-- It ended a command before its script: nothing of that is read.
abbrev pub IsBeforeScript : Ended → Type 0
IsBeforeScript (Endings.Refused (refusals.Line number refusal)) = ⊥
IsBeforeScript (Endings.Refused refusals.Length) = ⊥
IsBeforeScript (Endings.Refused refusal) = Unit {0}
IsBeforeScript (Endings.Failed outers.Key) = Unit {0}
IsBeforeScript ended = ⊥
