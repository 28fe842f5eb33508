-- The run of a command that serves a stream of requests: how far it came, and what it leaves.
-- Own: before the session begins, which it does once the device is open, the fault lines are those of a script's run;
-- from then on nothing but replies is written.
use Rattle.std.specs.Prelude.{◌≡◌, ◌⊎◌, ℕ, List, [], ◌++◌}
use Rattle.disk_model.specs.Disk.{Content, Image}
use Rattle.device_model.specs.Device.{DeviceKind}
use Rattle.device_model.specs.History.{Change}
use Rattle.nbd_model.specs.Stream.{requests_of}
use Rattle.nbd_model.specs.Session.{Deed, IsSessionOf}
use Rattle.nbd_command.specs.ServedRun as ends
use Rattle.nbd_command.specs.ServedRun.{SessionEnd, IsEndedBy, session_status}
use Rattle.run_model.specs.declared.outer.Outer.TheVariants.{Disk, Key}
use Rattle.run_model.specs.Ending.{Ending, Failed, NoMemory, status_of}
use Rattle.run_model.specs.CommandRun.{Faults, HasCauseIn, IsLastLine, IsOfDevice, IsOfScriptRun}

-- What is outside ends a session only where its count rose.
abbrev pub HasSessionCause : Faults → SessionEnd → Type 0
HasSessionCause faults (ends.Complete found_fault) = Unit {0}
HasSessionCause faults ends.RefusedStream = Unit {0}
HasSessionCause faults ends.DiskFailed = faults.disk
HasSessionCause faults ends.SourceFailed = faults.script
HasSessionCause faults ends.SinkFailed = faults.sink
HasSessionCause faults ends.NoMemory = Unit {0}

-- What may end a command before its session begins: a fault outside, or want of memory. Neither the stream nor the sink is called then.
abbrev pub EndsUnbegun : Ending → Type 0
EndsUnbegun (Failed Disk) = Unit {0}
EndsUnbegun (Failed Key) = Unit {0}
EndsUnbegun NoMemory = Unit {0}
EndsUnbegun other = ⊥

-- The device was not opened, or only in part: something ended the command as it ends a script's run there, and nothing was written but
-- its line.
pub record IsUnbegun (kind : DeviceKind) (image : Image) (start : Content) (before after : List ℕ) (status : ℕ) (faults : Faults)
    (later : Content) : Type 0 where
  pub ended : Ending
  pub outside : EndsUnbegun ended
  pub cause : HasCauseIn faults ended
  pub is_status : status ≡ status_of ended
  pub line : List ℕ
  pub last : IsLastLine faults.sink ended line
  pub printed : after ≡ before ++ line
  pub left : IsOfScriptRun kind image start [] later

-- It was, and its session came so far. Nothing but replies is written.
pub record IsServed (kind : DeviceKind) (image : Image) (stream before after : List ℕ) (status : ℕ) (faults : Faults)
    (later : Content) : Type 0 where
  pub deeds : List Deed
  pub is_session : IsSessionOf (kind.format image) (kind.opened image) stream deeds
  pub text : List ℕ
  pub changes : List Change
  pub ended : SessionEnd
  pub came : IsEndedBy (kind.format image) (kind.opened image) is_session.pieces (requests_of stream).ending deeds text changes ended
  pub cause : HasSessionCause faults ended
  pub is_status : status ≡ session_status ended
  pub printed : after ≡ before ++ text
  pub left : IsOfDevice kind image changes later

-- What a command with this status has written behind what the sink held, and left, that serves a stream on a device.
abbrev pub TellsServed : DeviceKind → Image → (start : Content) → (stream before after : List ℕ) → (status : ℕ) → Faults
    → (later : Content) → Type 0
TellsServed kind image start stream before after status faults later =
    IsUnbegun kind image start before after status faults later ⊎ IsServed kind image stream before after status faults later
