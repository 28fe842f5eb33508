-- What the calls of a device write in its mode, how long its actors have work, and which tags they leave alone.
use Rattle.std.specs.Prelude.{◌≡◌, ℕ, ◌<◌, List, Option}
use Rattle.disk_model.specs.Disk.{Content, OnlyAdds}
use Rattle.disk_model.specs.Moments.{EachSince, HasNow}
use Rattle.image_model.specs.declared.flags.TheConstants.{RECALCULATING}
use Rattle.image_model.specs.Superblock.{has_flag}
use Rattle.device_model.specs.Mode as Modes
use Rattle.device_model.specs.Progress as Model
use Rattle.request_slots.specs.declared.request.Request.{Request}
use Rattle.request_slots.specs.declared.submit_fault.SubmitFault.{SubmitFault}
use Rattle.request_slots.specs.declared.turn.Turn.{Turn}
use Rattle.request_slots.specs.Flight.{Flight, turn_of}
use Rattle.device_model.specs.declared.actor.Actor.{Actor}
use Rattle.device_parts.specs.declared.answers.Moved.TheVariants.{Did}
use Rattle.device_parts.specs.declared.condition.Condition.{Condition}
use Rattle.device_parts.specs.declared.condition.Condition.TheVariants.{Working}
use Rattle.device_parts.specs.declared.parts.Parts.{Parts}
use Rattle.device_parts.specs.Answers.{IsOfNoBlock, IsOfNoRead, submit_fault}
use Rattle.device_parts.specs.Device.{Standing}
use Rattle.recalculation.specs.Recalculation.{HasFields, fields_left}
use Rattle.direct_device.specs.Answers as InDirect
use Rattle.direct_device.specs.Answers.{WritesServed}
use Rattle.direct_device.specs.Device.{kept as direct_kept}
use Rattle.recovery_device.specs.Answers.{refusal_of}
use Rattle.journal_device.specs.Answers as InJournal
use Rattle.journal_device.specs.Answers.{AdvancesAs, WritesFor}
use Rattle.journal_device.specs.Device.{kept}
use Rattle.device.specs.declared.mode.DeviceParts.{DeviceParts}
use Rattle.device.specs.declared.mode.Mode.{Mode}
use Rattle.bitmap_mode.specs.Closing.{IsOfClose}
use Rattle.bitmap_mode.specs.States.{States}
use Rattle.bitmap_device.specs.Answers as InBitmap
use Rattle.bitmap_device.specs.Device.{KeepsTagsBy, kept as bitmap_kept}
use Rattle.place_model.specs.Awaiting.{HasNoMoreIn, HasNoBitmap}
use Rattle.device.specs.Device.{IsEmptied, IsInJournalMode}
use Rattle.device.specs.Telling.{IsDoneIn, IsDueIn}
use Rattle.device.specs.declared.mode.Mode.TheVariants.{Bitmap, Direct, Journal, Recovery}

-- The regions are those of the blocks whose tags are kept.
abbrev pub HasPlacesOf : States → Parts → Type 0
HasPlacesOf regions common = regions.geometry ≡ common.tags.geometry

-- ---- the tags of blocks that do not await

-- In bitmap mode the tag of each block without a write by the history after this event, whose region's bit was clear in
-- the image that was opened, is in its place at each moment as it was there. In journal and in direct mode no block
-- awaits its tag at any moment, by the fields of an image, that did not by those of the image that was opened.
abbrev pub KeepsClearTags : Mode → Parts → Model.Event → (before after : List Content) → Type 0
KeepsClearTags (Direct recalculation) common event before after = (w : Standing)
    → IsEmptied w Working (direct_kept common recalculation) before → HasNoMoreIn w.on.geometry w.entry before after
KeepsClearTags (Journal state) common event before after = (w : Standing)
    → IsInJournalMode w Working (kept common state) before
    → HasNoMoreIn w.on.geometry w.entry before after
KeepsClearTags (Bitmap regions) common event before after =
    KeepsTagsBy event (bitmap_kept common regions) before after
KeepsClearTags Recovery common event before after = Unit {0}

-- ---- a submission

-- Why a request is refused in a mode, if it is. In recovery mode a write is read only, unless the device is broken.
abbrev pub refusal_in : Modes.Mode → Condition → Flight → Request → Option SubmitFault
refusal_in Modes.Recovery condition flight request = refusal_of condition flight request
refusal_in mode condition flight request = submit_fault condition flight request

-- ---- a serve

-- The disk is not read in such a turn: in journal mode in each but one of a read, in the others in one of no block.
abbrev pub NeedsNoRead : Mode → Turn → Type 0
NeedsNoRead (Journal state) turn = IsOfNoRead turn
NeedsNoRead mode turn = IsOfNoBlock turn

-- What is written in one: in direct mode sectors of tags, and the block that is written next; in journal and in bitmap
-- mode what is done next tells it; in recovery mode nothing.
abbrev pub WritesInServe : Mode → (ticket : ℕ) → (old new : Parts) → (before after : List Content) → Type 0
WritesInServe (Direct recalculation) ticket old new before after = WritesServed ticket old new before after
WritesInServe (Journal state) ticket old new before after =
    WritesFor (turn_of old.slots ticket) old state before after
WritesInServe (Bitmap regions) ticket old new before after =
    HasPlacesOf regions old × InBitmap.WritesFor (turn_of old.slots ticket) ticket old regions before after
WritesInServe Recovery ticket old new before after = after ≡ before

-- ---- a step

-- How many steps of an actor still do something at most: in recovery mode none.
abbrev pub steps_left : Actor → Mode → ℕ
steps_left actor (Direct recalculation) = InDirect.steps_left actor recalculation
steps_left actor (Journal state) = InJournal.steps_left actor state
steps_left actor (Bitmap regions) = InBitmap.steps_left actor regions
steps_left actor Recovery = 0

-- What is written in one: in recovery mode nothing, and else what the actor does.
abbrev pub WritesInStep : Mode → Actor → Parts → (before after : List Content) → Type 0
WritesInStep (Direct recalculation) actor common before after =
    InDirect.WritesAs actor common recalculation before after
WritesInStep (Journal state) actor common before after =
    InJournal.WritesAs actor common state before after
WritesInStep (Bitmap regions) actor common before after =
    HasPlacesOf regions common × InBitmap.WritesAs actor common regions before after
WritesInStep Recovery actor common before after = after ≡ before

-- What a step that did something leaves of a recalculation, in journal and in direct mode: one that recalculated a
-- region moved the position exactly as far as the regions that await still let it, and one of another actor left all as
-- it was. The mode stays.
abbrev pub Advances : Actor → (old new : Mode) → Type 0
Advances actor (Direct old) (Direct new) = AdvancesAs actor Did old new
Advances actor (Journal old) (Journal new) = AdvancesAs actor Did old.recalculation new.recalculation
Advances actor (Bitmap old) (Bitmap new) = Unit {0}
Advances actor Recovery Recovery = Unit {0}
Advances actor old new = ⊥

-- It leaves fewer steps of its actor, and what the actors before it have left.
pub record GoesOn (actor : Actor) (old new : Mode) : Type 0 where
  pub fewer : steps_left actor new < steps_left actor old
  pub advances : Advances actor old new
  pub due : IsDueIn actor old → IsDueIn actor new

-- One that finds nothing to do changes nothing, and its actor has all done.
pub record FindsNothing {D : Type 0} (actor : Actor) (old new : DeviceParts) (first last : D) : Type 0 where
  pub parts : new ≡ old
  pub disk : last ≡ first
  pub done : IsDueIn actor new.mode → IsDoneIn actor new.mode

-- The actor has nothing to do in the mode: in recovery mode none has.
abbrev pub HasNoWork : Modes.Mode → Model.Actor → Type 0
HasNoWork Modes.Direct actor = InDirect.HasNoWork actor
HasNoWork Modes.Journal actor = InJournal.HasNoWork actor
HasNoWork Modes.Bitmap actor = InBitmap.HasNoWork actor
HasNoWork Modes.Recovery actor = Unit {0}

-- ---- a close

-- In direct and in journal mode no image has a bitmap, and the position in each is as far as the regions that await let
-- it, and without one the flag is cleared. In journal mode each image also has in place of each block the cell that the
-- history gives it. In bitmap mode each image opens in the device's own format, the flag of a bitmap included, and
-- those bits are set that were before it and whose regions await.
abbrev pub IsAtRest : Mode → Standing → List Content → Type 0
IsAtRest (Direct recalculation) w moments = HasFields (fields_left recalculation) moments × HasNow HasNoBitmap moments
IsAtRest (Journal state) w moments =
    InJournal.IsAllPlaced w (fields_left state.recalculation) moments × HasNow HasNoBitmap moments
IsAtRest (Bitmap regions) w moments = InBitmap.HasBitmapLeft w moments
IsAtRest Recovery w moments = Unit {0}

-- What is written in one: in direct mode sectors of tags, in journal mode batches and then what is not placed, in both
-- sector 0 where the flag is set, in bitmap mode sectors of tags and then of the bitmap, in recovery mode nothing.
abbrev pub WritesInClose : Mode → Parts → (before after : List Content) → Type 0
WritesInClose (Direct recalculation) common before after =
    InDirect.WritesClose (has_flag RECALCULATING recalculation.position.flags) common.tags.geometry before after
WritesInClose (Journal state) common before after =
    InJournal.WritesClose (kept common state) before after
WritesInClose (Bitmap regions) common before after =
    HasPlacesOf regions common × EachSince (OnlyAdds (IsOfClose regions common.tags)) before after
WritesInClose Recovery common before after = after ≡ before
