-- How a session of requests ended.
use Rattle.std.specs.Prelude.{true, false, Result, Ok, Err}
use Rattle.nbd_session.specs.declared.ended.Ended as sessions
use Rattle.nbd_session.specs.declared.ended.Ended.TheVariants.{Closed, Wrong, Long}
use Rattle.nbd_session.specs.declared.ended.SessionFault.{SessionFault}
use Rattle.nbd_session.specs.declared.ended.SessionFault.TheVariants as faults
use Rattle.script_text.specs.declared.tags_found.TagsFound.{TagsFound}
use Rattle.script_text.specs.declared.tags_found.TagsFound.TheVariants.{Matching, Differing}
use Rattle.command_ending.specs.declared.ended.Ended.{Ended}
use Rattle.command_ending.specs.declared.ended.Ended.TheVariants as Endings
use Rattle.command_ending.specs.declared.refusal.Refusal.TheVariants as refusals
use Rattle.run_model.specs.declared.outer.Outer.TheVariants as outers

-- It is told so as the end of a command.
abbrev pub ended_by_session : Result sessions.Ended SessionFault → Result TagsFound Ended
ended_by_session (Ok (Closed false)) = Ok Matching
ended_by_session (Ok (Closed true)) = Ok Differing
ended_by_session (Ok (Wrong magic)) = Err (Endings.Refused refusals.Length)
ended_by_session (Ok Long) = Err (Endings.Refused refusals.Length)
ended_by_session (Err faults.Memory) = Err Endings.Memory
ended_by_session (Err faults.Disk) = Err (Endings.Failed outers.Disk)
ended_by_session (Err faults.Source) = Err (Endings.Failed outers.Script)
ended_by_session (Err faults.Sink) = Err (Endings.Failed outers.Sink)
