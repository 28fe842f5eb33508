-- A stream of requests that is served on a device: how far its session came, and how many bytes are taken at
-- most.
use Rattle.std.specs.Prelude.{◌≡◌, ℕ, ◌+◌, true, false, List, [], Option, Some, None, Result, Ok, Err}
use Rattle.disk_model.specs.Disk.{Content, Image}
use Rattle.disk_model.specs.Moments.{HasNow}
use Rattle.device_model.specs.Device.{DeviceKind}
use Rattle.run_model.specs.Ending as endings
use Rattle.run_model.specs.Ending.{Ending}
use Rattle.device_model.specs.History.{Change}
use Rattle.nbd_model.specs.Session.{Deed, IsSessionOf, most_piece}
use Rattle.nbd_model.specs.Stream.{most_stream, requests_of}
use Rattle.nbd_command.specs.ServedRun.{Complete, DiskFailed, IsEndedBy, NoMemory, RefusedStream, SessionEnd, SinkFailed, SourceFailed}
use Rattle.run_model.specs.ServedRun.{EndsUnbegun}
use Rattle.stream_io.specs.Stream.{held_with}
use Rattle.run_model.specs.CommandRun.{IsOfDevice, IsOfScriptRun}
use Rattle.command_task.specs.declared.asked.Asking.{Asking}
use Rattle.command_task.specs.declared.asked.Asking.TheVariants.{OneImage, TwoImages}
use Rattle.command_task.specs.declared.asked.Task.{Task}
use Rattle.command_task.specs.declared.asked.Task.TheVariants as Tasks
use Rattle.device_model.specs.ScriptBytes.{most_taken}
use Rattle.run_model.specs.declared.outer.Outer.TheVariants as outers

-- ---- how far it came

-- What ended a session, as an ending of a command. A stream that is refused is a script that is refused as a whole.
abbrev pub session_ending : SessionEnd → Ending
session_ending (Complete found_fault) = endings.Complete found_fault
session_ending RefusedStream = endings.Refused endings.ByLength
session_ending DiskFailed = endings.Failed outers.Disk
session_ending SourceFailed = endings.Failed outers.Script
session_ending SinkFailed = endings.Failed outers.Sink
session_ending NoMemory = endings.NoMemory

-- Something ended the command before its session: nothing is written, and this is left of the disk.
pub record HasNotBegun (kind : DeviceKind) (image : Image) (start : Content) (ending : Ending) (after : List Content)
    (held_before held : Option (List ℕ)) : Type 0 where
  pub outside : EndsUnbegun ending
  pub told : held ≡ held_before
  pub left : HasNow (IsOfScriptRun kind image start []) after

-- Its session came so far, and ended so: the sink holds its replies behind what it held, and this is left of the disk.
pub record HasServedOn (kind : DeviceKind) (image : Image) (stream : List ℕ) (ending : Ending) (after : List Content)
    (held_before held : Option (List ℕ)) : Type 0 where
  pub deeds : List Deed
  pub is_session : IsSessionOf (kind.format image) (kind.opened image) stream deeds
  pub text : List ℕ
  pub changes : List Change
  pub ended : SessionEnd
  pub is : ending ≡ session_ending ended
  pub came : IsEndedBy (kind.format image) (kind.opened image) is_session.pieces (requests_of stream).ending deeds text
      changes ended
  pub told : held ≡ held_with text held_before
  pub left : HasNow (IsOfDevice kind image changes) after

-- ---- what is read

-- How many bytes of its source are taken at most: of a script one beyond its bound, of a stream one piece beyond that.
abbrev pub most_taken_at : Task → ℕ
most_taken_at (Tasks.Serve mode) = most_stream + most_piece
most_taken_at task = most_taken

abbrev pub most_taken_for : Option Asking → ℕ
most_taken_for None = most_taken
most_taken_for (Some (OneImage asked)) = most_taken_at asked.task
most_taken_for (Some (TwoImages asked)) = most_taken
