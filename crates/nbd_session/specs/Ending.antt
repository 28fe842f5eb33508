-- What ended a session, how far its deeds came then, and what it leaves, in the words of `nbd_command`.
-- Own.
use Rattle.std.specs.Prelude.{◌≡◌, ℕ, List, Option, Result, Ok, Err}
use Rattle.disk_model.specs.Moments.{EachMoment}
use Rattle.device_model.specs.History.{Change, with_changes}
use Rattle.direct_laws.specs.MomentLaws.{IsLeftNow}
use Rattle.device_parts.specs.Device.{Standing}
use Rattle.device.specs.Device.{kind_of}
use Rattle.device_model.specs.Device.{IsLeftWithin}
use Rattle.device.specs.Tags.{Leaves}
use Rattle.nbd_model.specs.Session.{Deed, session_deeds}
use Rattle.nbd_model.specs.Deeds.{changes_by}
use Rattle.nbd_command.specs.ServedRun.{SessionEnd, Complete, RefusedStream, DiskFailed, SourceFailed, SinkFailed, NoMemory, IsEndedBy}
use Rattle.nbd_flight.specs.Deeds.{Scene, held_with}
use Rattle.nbd_session.specs.declared.ended.Ended.{Ended}
use Rattle.nbd_session.specs.declared.ended.Ended.TheVariants.{Closed, Wrong, Long}
use Rattle.nbd_session.specs.declared.ended.SessionFault.{SessionFault}
use Rattle.nbd_session.specs.declared.ended.SessionFault.TheVariants as faults
use Rattle.nbd_session.specs.Session.{Course, Outside, ending_of}

-- What ended it.
abbrev pub end_of : Result Ended SessionFault → SessionEnd
end_of (Ok (Closed eio)) = Complete eio
end_of (Ok (Wrong magic)) = RefusedStream
end_of (Ok Long) = RefusedStream
end_of (Err faults.Memory) = NoMemory
end_of (Err faults.Disk) = DiskFailed
end_of (Err faults.Source) = SourceFailed
end_of (Err faults.Sink) = SinkFailed

-- All that it does over these pieces of a stream, the close included.
abbrev pub all_deeds : {left : Option (List ℕ)} → Standing → Course left → List Deed
all_deeds w course = session_deeds w.format w.state (ending_of course) course.pieces

abbrev pub all_changes : {left : Option (List ℕ)} → Standing → Course left → List Change
all_changes w course = changes_by w.format w.state (all_deeds w course)

-- This ended the session, whose deeds came so far; at each moment some of its first changes are made, and now these; no sector is
-- written but those that it may write in the device's mode; and the sink holds its replies behind what it held.
pub record HasComeTo (w : Standing) (left : Option (List ℕ)) (end : SessionEnd) (old : Scene) (new : Outside) : Type 0 where
  pub course : Course left
  pub text : List ℕ
  pub changes : List Change
  pub came : IsEndedBy w.format w.state course.pieces (ending_of course) (all_deeds w course) text changes end
  pub since : EachMoment old.moments new.moments (IsLeftWithin (kind_of w) w.entry w.state.history (all_changes w course))
  pub others : Leaves w (all_changes w course) old.moments new.moments
  pub now : IsLeftNow (kind_of w) w.entry (with_changes changes w.state.history) new.moments
  pub told : new.held ≡ held_with text old.held
