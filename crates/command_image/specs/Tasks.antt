-- How what is done on an image ends, where it has no script.
use Rattle.std.specs.Prelude.{false, Result, Ok, Err}
use Rattle.run_model.specs.Ending.{Ending, Complete}
use Rattle.script_text.specs.declared.tags_found.TagsFound.{TagsFound}
use Rattle.script_text.specs.declared.tags_found.TagsFound.TheVariants.{Matching}
use Rattle.command_ending.specs.Ended.{ending_of}
use Rattle.command_ending.specs.declared.ended.Ended.{Ended}
use Rattle.command_ending.specs.declared.ended.Ended.TheVariants as Endings
use Rattle.run_model.specs.declared.outer.Outer.TheVariants as outers
use Rattle.command_ending.specs.declared.refusal.Refusal.TheVariants as refusals

-- It names no block where it came to its end.
abbrev pub ending_done : Result (Unit {0}) Ended → Ending
ending_done (Ok done) = Complete false
ending_done (Err ended) = ending_of ended

-- The same as the end of a run.
abbrev pub found_by : Result (Unit {0}) Ended → Result TagsFound Ended
found_by (Ok done) = Ok Matching
found_by (Err ended) = Err ended

-- What can end it: neither words, nor a key, nor a script.
abbrev pub EndsTask : Ended → Type 0
EndsTask (Endings.Refused (refusals.Image fault)) = Unit {0}
EndsTask (Endings.Failed outers.Disk) = Unit {0}
EndsTask (Endings.Failed outers.Sink) = Unit {0}
EndsTask Endings.Memory = Unit {0}
EndsTask ended = ⊥
