-- What the calls of a device in direct mode write.
use Rattle.std.specs.Prelude.{◌≡◌, ℕ, Bool, true, false, List, Result}
use Rattle.disk_model.specs.Disk.{Content, OnlyAdds}
use Rattle.disk_model.specs.Moments.{EachSince}
use Rattle.image_model.specs.Geometry.{Geometry}
use Rattle.image_model.specs.Superblock.{Superblock}
use Rattle.device_model.specs.Progress as Model
use Rattle.place_model.specs.Places.{WritesPlaces}
use Rattle.request_slots.specs.declared.turn.Turn.TheVariants as Turns
use Rattle.request_slots.specs.Flight.{Flight, turn_of}
use Rattle.device_model.specs.declared.actor.Actor.{Actor}
use Rattle.device_model.specs.declared.actor.Actor.TheVariants as Actors
use Rattle.device_parts.specs.declared.answers.Moved.{Moved}
use Rattle.device_parts.specs.declared.answers.Served.{Served}
use Rattle.device_parts.specs.declared.condition.Condition.TheVariants as Conditions
use Rattle.device_parts.specs.declared.parts.Parts.{Parts}
use Rattle.device_parts.specs.Answers.{ServesNext, StepsNext}
use Rattle.device_parts.specs.Device.{Standing}
use Rattle.recalculation.specs.declared.recalculating.Recalculation.{Recalculation}
use Rattle.recalculation.specs.Recalculation.{HasFields, HasFieldsThrough, IsOfTagsOrHead, WritesRegion, count_of, fields_left, next_of}
use Rattle.place_model.specs.Tags.{HoldsTag}
use Rattle.direct_device.specs.declared.parts.DirectParts.{DirectParts}
use Rattle.direct_device.specs.Device.{IsDirect, in_direct}

-- ---- a serve

-- A device in direct mode that works does what is next for a request.
abbrev pub Serves : {E : Type 0} → (ticket : ℕ) → (old new : DirectParts) → (before after : List Content)
    → Result Served E → Type 0
Serves ticket old new before after result = ServesNext in_direct ticket old new before after result

-- A write of this block is done next for the request of this ticket.
pub record IsWrittenNext (flight : Flight) (ticket block : ℕ) : Type 0 where
  pub is_flushed : Bool
  pub turn : turn_of flight ticket ≡ Turns.Write block is_flushed

-- In a serve nothing is written but the block that is written next, and sectors of tags.
abbrev pub WritesServed : (ticket : ℕ) → (old new : Parts) → (before after : List Content) → Type 0
WritesServed ticket old new before after =
    WritesPlaces (IsWrittenNext old.slots ticket) old.tags.geometry new.tags.geometry before after

-- ---- a step

-- One that works lets an actor do its next step.
abbrev pub Steps : {E : Type 0} → Actor → (old new : DirectParts) → (before after : List Content) → Result Moved E
    → Type 0
Steps actor old new before after result = StepsNext in_direct actor old new before after result

-- At each moment of a call each image of one that works has the fields from before it, or these.
abbrev pub MovesFieldsTo : (new : Superblock) → DirectParts → (before after : List Content) → Type 0
MovesFieldsTo new device before after = (w : Standing) → IsDirect w Conditions.Working device before
    → HasFieldsThrough w.on device.recalculation.position new before after

-- How many steps of an actor still do something at most: a recalculation for each region that awaits.
abbrev pub steps_left : Actor → Recalculation → ℕ
steps_left Actors.Commit r = 0
steps_left Actors.Place r = 0
steps_left Actors.Settle r = 0
steps_left Actors.Clean r = 0
steps_left Actors.Recalc r = count_of r

-- What is written in a step: where a region awaits, what the recalculation of the least one writes.
abbrev pub WritesAs : Actor → Parts → Recalculation → (before after : List Content) → Type 0
WritesAs Actors.Commit parts r before after = after ≡ before
WritesAs Actors.Place parts r before after = after ≡ before
WritesAs Actors.Settle parts r before after = after ≡ before
WritesAs Actors.Clean parts r before after = after ≡ before
WritesAs Actors.Recalc parts r before after = WritesRegion (next_of r) parts.tags.geometry before after

-- The actor has nothing to do in direct mode.
abbrev pub HasNoWork : Model.Actor → Type 0
HasNoWork Model.Commit = Unit {0}
HasNoWork Model.Place = Unit {0}
HasNoWork Model.Settle = Unit {0}
HasNoWork Model.Clean = Unit {0}
HasNoWork Model.Recalc = ⊥

-- A step of such an actor is idle.
abbrev pub RestLaw : Type 0
RestLaw = (w : Standing) (device : DirectParts) (moments : List Content) (actor : Model.Actor) → HasNoWork actor
    → IsDirect w Conditions.Working device moments
    → Model.event_result w.format w.state (Model.Step actor) ≡ Model.only_answers w.state.progress Model.Idle

-- ---- a close

-- A close leaves each image of one that works with the fields that its regions leave.
abbrev pub LeavesFields : DirectParts → (before after : List Content) → Type 0
LeavesFields device before after = (w : Standing) → IsDirect w Conditions.Working device before
    → HasFields (fields_left device.recalculation) after

-- What is written in a close: sectors of tags, and sector 0 where the flag is set.
abbrev pub WritesClose : (is_set : Bool) → Geometry → (before after : List Content) → Type 0
WritesClose true g before after = EachSince (OnlyAdds (IsOfTagsOrHead g)) before after
WritesClose false g before after = EachSince (OnlyAdds (λ sector x. HoldsTag g sector)) before after
