-- The deeds of a session, done on a device and told to a sink, and how far they came where something stopped them.
use Rattle.std.specs.Prelude.{◌≡◌, ℕ, ◌<◌, List, ◌∷◌, ◌++◌, length, map, Option}
use Rattle.std.specs.List.{AllByRecursion}
use Rattle.std.specs.Option.{option_map}
use Rattle.disk_model.specs.Disk.{Content}
use Rattle.device_model.specs.Progress.{Event}
use Rattle.device_parts.specs.Device.{Standing}
use Rattle.device.specs.declared.mode.DeviceParts.{DeviceParts}
use Rattle.device.specs.Run.{HasFailed, HasRun, standing_behind}
use Rattle.stream_io.specs.Stream.{AddsPrefix, with_bytes}
use Rattle.nbd_model.specs.Session.{Deed, Does, Replies}
use Rattle.nbd_model.specs.Deeds.{events_in, text_in}
use Rattle.nbd_command.specs.ServedRun.{ReachesDisk}
use Rattle.nbd_flight.specs.declared.stop.Stop.{Stop}
use Rattle.nbd_flight.specs.declared.stop.Stop.TheVariants.{Memory, Disk, Sink}

-- A moment outside the session: what is kept of the device, what its disk tells, and what the sink holds.
pub record Scene : Type 0 where
  pub parts : DeviceParts
  pub moments : List Content
  pub held : Option (List ℕ)

abbrev pub scene_of : {D O : Type 0} → (D → List Content) → (O → Option (List ℕ)) → DeviceParts → D → O → Scene
scene_of moments held parts disk sink = record { parts = parts; moments = moments disk; held = held sink }

-- The same with a sink that is not called.
abbrev pub scene_with : {D : Type 0} → (held : Option (List ℕ)) → (D → List Content) → DeviceParts → D → Scene
scene_with held moments parts disk = record { parts = parts; moments = moments disk; held = held }

-- What a sink holds behind a text, where it tells that.
abbrev pub held_with : List ℕ → Option (List ℕ) → Option (List ℕ)
held_with text held = option_map (with_bytes text) held

-- The device behind some deeds.
abbrev pub behind : Standing → List Deed → Standing
behind w deeds = standing_behind w (events_in deeds)

abbrev pub calls_of : List Event → List Deed
calls_of events = map (λ event. Does event) events

-- They are done: the device is the one after their events, and their text is told.
pub record HasDone (w : Standing) (deeds : List Deed) (old new : Scene) : Type 0 where
  pub run : HasRun w (events_in deeds) new.parts old.moments new.moments
  pub told : new.held ≡ held_with (text_in deeds) old.held

-- ---- what stopped them

-- The first of them are done, and no other is begun.
pub record IsStoppedBetween (w : Standing) (deeds : List Deed) (old new : Scene) : Type 0 where
  pub made : List Deed
  pub rest : List Deed
  pub all : deeds ≡ made ++ rest
  pub done : HasDone w made old new

-- The first of them are done, and the disk failed in one of the calls behind them. No reply is torn.
pub record IsStoppedByDisk (w : Standing) (deeds : List Deed) (old new : Scene) : Type 0 where
  pub made : List Deed
  pub calls : List Event
  pub some : 0 < length calls
  pub rest : List Deed
  pub all : deeds ≡ made ++ (calls_of calls ++ rest)
  pub of_disk : AllByRecursion ReachesDisk calls
  pub between : Scene
  pub done : HasDone w made old between
  pub failed : HasFailed (behind w made) calls new.parts between.moments new.moments
  pub told : new.held ≡ between.held

-- The first of them are done, and of the reply behind them the first bytes are written, not all.
pub record IsStoppedBySink (w : Standing) (deeds : List Deed) (old new : Scene) : Type 0 where
  pub made : List Deed
  pub number : ℕ
  pub bytes : List ℕ
  pub rest : List Deed
  pub all : deeds ≡ made ++ Replies number bytes ∷ rest
  pub run : HasRun w (events_in made) new.parts old.moments new.moments
  pub told : AddsPrefix bytes (held_with (text_in made) old.held) new.held

-- What stopped some deeds, and how far they came.
abbrev pub HasStopped : Standing → List Deed → Stop → (old new : Scene) → Type 0
HasStopped w deeds Memory old new = IsStoppedBetween w deeds old new
HasStopped w deeds Disk old new = IsStoppedByDisk w deeds old new
HasStopped w deeds Sink old new = IsStoppedBySink w deeds old new
