-- What the calls of a device in journal mode do to its journal, and what they write.
use Rattle.std.specs.Prelude.{◌≡◌, ◌⊎◌, ℕ, ◌-◌, ◌<◌, Bool, true, false, not, ◌&&◌, is_some, List, length, Result}
use Rattle.disk_model.specs.Disk.{Content, EachImage, Image, OnlyAdds}
use Rattle.disk_model.specs.Moments.{EachSince, HasNow}
use Rattle.image_model.specs.Geometry.{Geometry, region_of}
use Rattle.image_model.specs.declared.flags.TheConstants.{RECALCULATING}
use Rattle.image_model.specs.Superblock.{Superblock, has_flag}
use Rattle.device_model.specs.History.{cells_now}
use Rattle.device_model.specs.Progress as Model
use Rattle.place_model.specs.Format.{format_on, placed_on}
use Rattle.journal_ring.specs.Places.{entry_of}
use Rattle.request_slots.specs.declared.turn.Turn.{Turn}
use Rattle.request_slots.specs.declared.turn.Turn.TheVariants as Turns
use Rattle.recalculation.specs.declared.recalculating.Recalculation.{Recalculation}
use Rattle.recalculation.specs.Awaiting.{awaiting_of}
use Rattle.recalculation.specs.Recalculation.{HasFields, HasFieldsThrough, IsOfTagsOrHead, WritesRegion, count_of, fields_left, fields_then, next_of}
use Rattle.tag_store.specs.Store.{IsOutForTag}
use Rattle.place_model.specs.Tags.{HoldsTag}
use Rattle.device_parts.specs.declared.answers.Moved.{Moved}
use Rattle.device_parts.specs.declared.answers.Served.{Served}
use Rattle.device_parts.specs.declared.condition.Condition.TheVariants.{Working}
use Rattle.device_parts.specs.declared.parts.Parts.{Parts}
use Rattle.device_model.specs.declared.actor.Actor.{Actor}
use Rattle.device_model.specs.declared.actor.Actor.TheVariants as Actors
use Rattle.device_parts.specs.declared.answers.Moved.TheVariants as Moves
use Rattle.device_parts.specs.Answers.{ServesNext, StepsNext}
use Rattle.device_parts.specs.Device.{Standing}
use Rattle.journal_ring.specs.declared.ring.Moved as JournalMove
use Rattle.journal_ring.specs.declared.ring.Moved.TheVariants as JournalMoves
use Rattle.journal_model.specs.Ring.{entries_of}
use Rattle.journal_ring.specs.Batch.{WritesBatch}
use Rattle.journal_mode.specs.PlaceWriterMoves.{WritesNext, WritesTags}
use Rattle.journal_mode.specs.Placement.{placed_in}
use Rattle.journal_mode.specs.Closing.{WritesAll}
use Rattle.journal_mode.specs.Commits.{WritesBatches}
use Rattle.journal_mode.specs.Journal.{PlacedRing, after_put}
use Rattle.journal_mode.specs.Reads.{newest_in}
use Rattle.journal_device.specs.Device.{IsJournaled, in_journal}
use Rattle.journal_device.specs.declared.parts.JournalParts.{JournalParts}
use Rattle.journal_device.specs.declared.parts.JournalState.{JournalState}

-- ---- a serve

-- A device in journal mode that works does what is next for a request.
abbrev pub Serves : {E : Type 0} → (ticket : ℕ) → (old new : JournalParts) → (before after : List Content)
    → Result Served E → Type 0
Serves ticket old new before after result = ServesNext in_journal ticket old new before after result

-- The journal with one entry more of a block, whose bytes and tag may be any.
pub record HasEntryMore (old : PlacedRing) (block : ℕ) (new : PlacedRing) : Type 0 where
  pub bytes : List ℕ
  pub tag : List ℕ
  pub is : new ≡ after_put (entry_of old.ring.geometry block bytes tag) old

-- Batches of the journal are written that holds one entry more of the block.
pub record WritesWithBlock (journal : PlacedRing) (block : ℕ) (before after : List Content) : Type 0 where
  pub put : PlacedRing
  pub more : HasEntryMore journal block put
  pub batches : WritesBatches put before after

-- The region of the block awaits, and no section that is not free holds the block: a read recalculates it first.
abbrev pub takes_first : PlacedRing → Recalculation → (block : ℕ) → Bool
takes_first journal recalculation block =
    awaiting_of recalculation.awaiting (region_of recalculation.awaiting.geometry block) && not (is_some (newest_in journal.ring block))

-- A read writes sectors of tags, and where it recalculates nothing those alone that make room for the block's.
abbrev pub WritesRead : (takes : Bool) → (block : ℕ) → Parts → (before after : List Content) → Type 0
WritesRead true block parts before after =
    EachSince (OnlyAdds (λ sector x. HoldsTag parts.tags.geometry sector)) before after
WritesRead false block parts before after = EachSince (OnlyAdds (IsOutForTag block parts.tags)) before after

-- What is written in a serve, by what is done next: for a read sectors of tags; for a flush batches of the journal, and
-- for a write with one the same with its entry, if it finds room; and else nothing.
abbrev pub WritesFor : Turn → Parts → JournalState → (before after : List Content) → Type 0
WritesFor Turns.Finished parts state before after = after ≡ before
WritesFor (Turns.Held by) parts state before after = after ≡ before
WritesFor (Turns.Read block) parts state before after =
    WritesRead (takes_first state.journal state.recalculation block) block parts before after
WritesFor (Turns.Write block true) parts state before after =
    (after ≡ before) ⊎ WritesWithBlock state.journal block before after
WritesFor (Turns.Write block false) parts state before after = after ≡ before
WritesFor Turns.Flush parts state before after = WritesBatches state.journal before after

-- ---- a step

-- One that works lets an actor do its next step.
abbrev pub Steps : {E : Type 0} → Actor → (old new : JournalParts) → (before after : List Content) → Result Moved E
    → Type 0
Steps actor old new before after result = StepsNext in_journal actor old new before after result

-- At each moment of a call each image of one that works has the fields from before it, or these.
abbrev pub MovesFieldsTo : (new : Superblock) → JournalParts → (before after : List Content) → Type 0
MovesFieldsTo new device before after = (w : Standing) → IsJournaled w Working device before
    → HasFieldsThrough w.on device.state.recalculation.position new before after

-- What a step of the journal did, as one of the device.
abbrev pub moved_as : JournalMove.Moved → Moved
moved_as JournalMoves.Did = Moves.Did
moved_as JournalMoves.Idle = Moves.Idle

-- What is written in one: a batch of the journal, an entry in its place, or sectors of tags; and where a region awaits,
-- what the recalculation of the least one writes.
abbrev pub WritesAs : Actor → Parts → JournalState → (before after : List Content) → Type 0
WritesAs Actors.Commit parts state before after = WritesBatch state.journal.ring before after
WritesAs Actors.Place parts state before after = WritesNext state.journal.placement state.journal.ring before after
WritesAs Actors.Settle parts state before after =
    WritesTags state.journal.placement state.journal.ring parts.tags before after
WritesAs Actors.Clean parts state before after = after ≡ before
WritesAs Actors.Recalc parts state before after =
    WritesRegion (next_of state.recalculation) parts.tags.geometry before after

-- How many steps of an actor still do something at most: a commit for each opened section, a place for each committed
-- entry that is not placed, a settle for each committed section, a recalculation for each region that awaits.
abbrev pub steps_left : Actor → JournalState → ℕ
steps_left Actors.Commit state = length state.journal.ring.opened
steps_left Actors.Place state =
    length (entries_of state.journal.ring.committed) - placed_in state.journal.placement state.journal.ring
steps_left Actors.Settle state = length state.journal.ring.committed
steps_left Actors.Clean state = 0
steps_left Actors.Recalc state = count_of state.recalculation

-- A step of the recalculation that did something moves the position as far as the regions that await let it, and a step
-- of another actor leaves all as it is.
abbrev pub AdvancesAs : Actor → Moved → (old new : Recalculation) → Type 0
AdvancesAs Actors.Recalc Moves.Did old new = new.position ≡ fields_then old new
AdvancesAs Actors.Recalc Moves.Idle old new = new ≡ old
AdvancesAs Actors.Commit moved old new = new ≡ old
AdvancesAs Actors.Place moved old new = new ≡ old
AdvancesAs Actors.Settle moved old new = new ≡ old
AdvancesAs Actors.Clean moved old new = new ≡ old

-- The actor has nothing to do in journal mode.
abbrev pub HasNoWork : Model.Actor → Type 0
HasNoWork Model.Commit = ⊥
HasNoWork Model.Place = ⊥
HasNoWork Model.Settle = ⊥
HasNoWork Model.Clean = Unit {0}
HasNoWork Model.Recalc = ⊥

-- ---- a close

-- In an image each block has in its place the cell that the history gives it, by the image's own fields.
abbrev pub HasAllPlaced : Standing → Image → Type 0
HasAllPlaced w image = (b : ℕ) → b < w.on.geometry.blocks
    → placed_on (format_on w.on.key w.on.sectors image) image b ≡ cells_now w.format.blocks.tag w.state.history b

-- So it is in each image, and each has these fields in sector 0.
pub record IsAllPlaced (w : Standing) (fields : Superblock) (moments : List Content) : Type 0 where
  pub placed : HasNow (EachImage (HasAllPlaced w)) moments
  pub fields_ : HasFields fields moments

-- A close leaves one that works so, under the fields that its regions leave.
abbrev pub LeavesPlaced : JournalParts → (before after : List Content) → Type 0
LeavesPlaced device before after = (w : Standing) → IsJournaled w Working device before
    → IsAllPlaced w (fields_left device.state.recalculation) after

-- What is written where the position moves: sectors of tags, and sector 0; and nothing where the flag is not set.
abbrev pub WritesMove : (is_set : Bool) → Geometry → (before after : List Content) → Type 0
WritesMove true g before after = EachSince (OnlyAdds (IsOfTagsOrHead g)) before after
WritesMove false g before after = after ≡ before

-- All of the journal is written and placed, and then the position moves.
pub record WritesClose (device : JournalParts) (before after : List Content) : Type 0 where
  pub middle : List Content
  pub all : WritesAll device.state.journal before middle
  pub moves : WritesMove (has_flag RECALCULATING device.state.recalculation.position.flags) device.parts.tags.geometry
      middle after
