-- Some events of a device, one after the other: what is left while they run, and how far they came.
use Rattle.std.specs.Prelude.{◌≡◌, ℕ, List, [], ◌∷◌, ◌++◌, take, Option, Some, None}
use Rattle.disk_model.specs.Disk.{Content, EachImage, Image}
use Rattle.disk_model.specs.Moments.{EachMoment, HasNow}
use Rattle.device_model.specs.Actors.{actor_of}
use Rattle.device_model.specs.Device.{IsLeftWithin}
use Rattle.device_model.specs.History.{Change, History, with_changes}
use Rattle.device_model.specs.Progress.{Event, Submit, Serve, Step, Take, Close, FailedServe, FailedStep, FailedClose}
use Rattle.device_model.specs.Progress.{after_events, changes_of}
use Rattle.device_parts.specs.declared.condition.Condition.TheVariants as Conditions
use Rattle.device_model.specs.Script.{idle_events, room_events, turn_events, whole_finish}
use Rattle.device_model.specs.declared.actor.Actor.{Actor}
use Rattle.device.specs.declared.mode.DeviceParts.{DeviceParts}
use Rattle.device_parts.specs.Device.{Standing}
use Rattle.device.specs.Device.{IsDevice, kind_of}
use Rattle.device.specs.Tags.{LeavesIn}

-- The same device after some events.
abbrev pub standing_behind : Standing → List Event → Standing
standing_behind w events = record w { state = after_events w.format w.state events }

-- ---- which events

abbrev pub one_serve : ℕ → Standing → List Event
one_serve ticket w = Serve ticket ∷ []

-- A serve with room made for it, where the journal is full,
abbrev pub one_turn : ℕ → Standing → List Event
one_turn ticket w = turn_events w.format ticket w.state

-- and as long as that goes on.
abbrev pub all_turns : ℕ → Standing → List Event
all_turns ticket w = whole_finish w.format ticket w.state

abbrev pub one_step : Actor → Standing → List Event
one_step actor w = Step (actor_of actor) ∷ []

-- Steps of an actor until it is idle,
abbrev pub all_steps : Actor → Standing → List Event
all_steps actor w = idle_events w.format (actor_of actor) w.state

-- and those that make room.
abbrev pub room_steps : Standing → List Event
room_steps w = room_events w.format w.state

-- ---- what a run of them leaves

-- At each moment some of the first changes of these events are made.
abbrev pub IsLeftSince : Standing → List Event → (before after : List Content) → Type 0
IsLeftSince w events before after =
    EachMoment before after
    (IsLeftWithin (kind_of w) w.entry w.state.history (changes_of w.format w.state events))

-- These events are done: the device is the one after them, and works.
pub record HasRun (w : Standing) (events : List Event) (parts : DeviceParts) (before after : List Content)
    : Type 0 where
  pub device : IsDevice (standing_behind w events) Conditions.Working parts after
  pub since : IsLeftSince w events before after
  pub others : LeavesIn w events before after

-- They were cut off: of their changes some of the first are made, at each moment and now.
pub record IsCutOff (w : Standing) (events : List Event) (before after : List Content) : Type 0 where
  pub since : IsLeftSince w events before after
  pub now : HasNow
      (IsLeftWithin (kind_of w) w.entry w.state.history (changes_of w.format w.state events)) after
  pub others : LeavesIn w events before after

-- The event in which a disk fails where it would be this one, if it calls the disk.
abbrev pub failed_of : Event → Option Event
failed_of (Submit submission) = None
failed_of (Serve ticket) = Some (FailedServe ticket)
failed_of (Step actor) = Some (FailedStep actor)
failed_of (Take ticket) = None
failed_of Close = Some FailedClose
failed_of (FailedServe ticket) = None
failed_of (FailedStep actor) = None
failed_of FailedClose = None

-- The disk failed in one: of events that come to the same as these the first are done, and the next one has failed. The
-- device is the one after that, and is broken.
pub record HasFailed (w : Standing) (events : List Event) (parts : DeviceParts) (before after : List Content)
    : Type 0 where
  pub cut : IsCutOff w events before after
  pub made : List Event
  pub event : Event
  pub rest : List Event
  pub same : after_events w.format w.state (made ++ event ∷ rest) ≡ after_events w.format w.state events
  pub failed : Event
  pub fails : failed_of event ≡ Some failed
  pub device : IsDevice (standing_behind w (made ++ failed ∷ [])) Conditions.Broken parts after

-- Some of the first of them are done, and no other is begun: the device is the one after those, and works.
pub record HasBegun (w : Standing) (events : List Event) (parts : DeviceParts) (before after : List Content)
    : Type 0 where
  pub made : List Event
  pub rest : List Event
  pub all : events ≡ made ++ rest
  pub run : HasRun w made parts before after
