-- What a serve tells of its request in journal mode, and what steps leave of the journal, whatever the disk tells of
-- its content.
use Rattle.std.specs.Prelude.{◌≡◌, ℕ, Bool, true, length, OnOk, Result}
use Rattle.device_model.specs.Mode as Modes
use Rattle.journal_model.specs.Ring.{has_room}
use Rattle.request_slots.specs.declared.turn.Turn.TheVariants as Turns
use Rattle.request_slots.specs.Flight.{Flight, turn_of}
use Rattle.device_model.specs.declared.actor.Actor.{Actor}
use Rattle.device_parts.specs.declared.answers.Served.{Served}
use Rattle.journal_device.specs.Telling.{IsDoneBy, IsDueFor, KeepsRequest, TellsOf}
use Rattle.device.specs.declared.mode.DeviceParts.{DeviceParts}
use Rattle.device.specs.declared.mode.Mode.{Mode}
use Rattle.device.specs.declared.mode.Mode.TheVariants.{Bitmap, Direct, Journal, Recovery}
use Rattle.device.specs.Device.{mode_of}

-- ---- room

-- There is room for a block: in the journal, and in another mode always, since it needs none.
abbrev pub has_room_in : Mode → Bool
has_room_in (Direct recalculation) = true
has_room_in (Journal state) = has_room state.journal.ring
has_room_in (Bitmap regions) = true
has_room_in Recovery = true

-- What those actors have left of a journal that make room before this one,
abbrev pub IsDueIn : Actor → Mode → Type 0
IsDueIn actor (Direct recalculation) = Unit {0}
IsDueIn actor (Journal state) = IsDueFor actor state.journal
IsDueIn actor (Bitmap regions) = Unit {0}
IsDueIn actor Recovery = Unit {0}

-- and what this one leaves once it has nothing more to do.
abbrev pub IsDoneIn : Actor → Mode → Type 0
IsDoneIn actor (Direct recalculation) = Unit {0}
IsDoneIn actor (Journal state) = IsDoneBy actor state.journal
IsDoneIn actor (Bitmap regions) = Unit {0}
IsDoneIn actor Recovery = Unit {0}

-- ---- a serve in journal mode

-- It keeps its request, and what it answers is so; this is where it answers that there is no room.
abbrev pub Tells : {E : Type 0} → (ticket : ℕ) → (old new : DeviceParts) → (full : Type 0) → Result Served E → Type 0
Tells ticket old new full result = mode_of old.mode ≡ Modes.Journal
    → TellsOf ticket old.common.slots new.common.slots full result

-- Serves to the end keep the request, and leave it done where it is alone in flight.
pub record FinishesOf {T E : Type 0} (ticket : ℕ) (old new : Flight) (result : Result T E) : Type 0 where
  pub keeps : KeepsRequest ticket old new
  pub done : OnOk result (length old.slots ≡ 1 → turn_of new ticket ≡ Turns.Finished)

abbrev pub Finishes : {T E : Type 0} → (ticket : ℕ) → (old new : DeviceParts) → Result T E → Type 0
Finishes ticket old new result = mode_of old.mode ≡ Modes.Journal
    → FinishesOf ticket old.common.slots new.common.slots result
