-- What an exercise of a device does, as `workload_model` has it: the events that it runs, and what it counts.
use Rattle.std.specs.Prelude.{◌≡◌, ℕ, ◌+◌, ◌≤◌, List, ◌++◌, map, Option, Some, None}
use Rattle.disk_model.specs.Disk.{Content}
use Rattle.disk_model.specs.Identity.{DiskIdentity}
use Rattle.device_model.specs.Progress.{Answer, Event}
use Rattle.device_model.specs.Script.{Ask}
use Rattle.workload_model.specs.Exercise.{Tally, asking_line, exercise_lines, exercise_tally, line_answers}
use Rattle.workload_model.specs.Exercise.{script_events, tally_of}
use Rattle.request_slots.specs.InFlight.{as_reply}
use Rattle.request_slots.specs.declared.reply.Reply.{Reply}
use Rattle.workload.specs.Tally.{with_reply}
use Rattle.device_parts.specs.declared.condition.Condition.{Condition}
use Rattle.device.specs.declared.mode.DeviceParts.{DeviceParts}
use Rattle.device.specs.Device.{IsReady, mode_of}
use Rattle.device_parts.specs.Device.{Standing}
use Rattle.device.specs.Run.{HasRun, IsCutOff}
use Rattle.script_session.specs.declared.tickets.Tickets.{Tickets}
use Rattle.script_session.specs.Tickets.{AreInFlight}
use Rattle.device_exercise.specs.InOrder.{AreAsksBegun, AreAsksMade, IsExerciseBegun, IsExerciseMade}

-- ---- the exercise

-- What an exercise does to a device: the requests of the workload, and then a read of each block.
abbrev pub exercise_events : Standing → (seed count : ℕ) → List Event
exercise_events w seed count = script_events w.format w.state (exercise_lines count seed w.format.blocks.blocks)

-- All of it is done, line by line, and this is what it counts.
pub record HasExercised (w : Standing) (seed count : ℕ) (tally : Tally) (parts : DeviceParts)
    (before after : List Content) : Type 0 where
  pub run : HasRun w (exercise_events w seed count) parts before after
  pub in_order : IsExerciseMade w seed count before after
  pub tally_ : tally ≡ exercise_tally w.format w.state count seed

-- It is cut off, and of its lines the first are done.
pub record IsExerciseCut (w : Standing) (seed count : ℕ) (before after : List Content) : Type 0 where
  pub cut : IsCutOff w (exercise_events w seed count) before after
  pub in_order : IsExerciseBegun w seed count before after

-- ---- some requests

-- What some requests do to a device, one after the other,
abbrev pub events_of_asks : Standing → List Ask → List Event
events_of_asks w asks = script_events w.format w.state (map asking_line asks)

-- and what each is answered.
abbrev pub answers_of : Standing → List Ask → List (Option Answer)
answers_of w asks = line_answers w.format w.state (map asking_line asks)

-- A reply is added, if there is one.
abbrev pub with_reply_of : Option Reply → Tally → Tally
with_reply_of None t = t
with_reply_of (Some reply) t = with_reply (as_reply reply) t

-- A tally goes on with these requests and these answers, whatever it has counted before.
abbrev pub Counts : List Ask → List (Option Answer) → (old new : Tally) → Type 0
Counts asks answers old new = (asks_before : List Ask) (answers_before : List (Option Answer))
    → old ≡ tally_of asks_before answers_before → new ≡ tally_of (asks_before ++ asks) (answers_before ++ answers)

-- Some requests are done, one after the other. What they are answered is counted, and of the requests these.
pub record HasRunAsks (w : Standing) (asks counted : List Ask) (old new : Tally) (parts : DeviceParts)
    (before after : List Content) : Type 0 where
  pub run : HasRun w (events_of_asks w asks) parts before after
  pub in_order : AreAsksMade w asks before after
  pub tally : Counts counted (answers_of w asks) old new

-- Some requests are cut off, and the first of them are done.
pub record AreAsksCut (w : Standing) (asks : List Ask) (before after : List Content) : Type 0 where
  pub cut : IsCutOff w (events_of_asks w asks) before after
  pub in_order : AreAsksBegun w asks before after

-- What so many requests leave in any case: the device is ready, in the same mode, with the same blocks on the same
-- disk, and the tickets are those in flight.
pub record StaysWithin (most : ℕ) (condition : Condition) (old new : DeviceParts) (tickets : Tickets)
    (disk_before disk : DiskIdentity) (moments : List Content) : Type 0 where
  pub ready : IsReady condition new disk moments
  pub tickets_ : AreInFlight tickets new.common.slots
  pub mode_ : mode_of new.mode ≡ mode_of old.mode
  pub blocks : new.common.slots.blocks ≡ old.common.slots.blocks
  pub block_size : new.common.slots.block_size ≡ old.common.slots.block_size
  pub submitted : new.common.slots.submitted ≤ old.common.slots.submitted + most
  pub identity : disk ≡ disk_before
