-- What a serve tells of its request, and what steps leave of the journal, whatever the disk tells of its content.
use Rattle.std.specs.Prelude.{◌≡◌, ℕ, ◌+◌, ◌<◌, ◌≤◌, List, [], length, IfOk, IfSome, Result}
use Rattle.journal_model.specs.Ring.{JournalRing, entries_of}
use Rattle.request_slots.specs.declared.request.Request.{Request}
use Rattle.request_slots.specs.declared.request.Request.TheVariants.{Flush, Read, Write}
use Rattle.request_slots.specs.declared.slot.Outcome.{Outcome}
use Rattle.request_slots.specs.declared.slot.Outcome.TheVariants.{Fault, Finished, Unfinished}
use Rattle.request_slots.specs.declared.slot.Slot.{Slot}
use Rattle.request_slots.specs.declared.turn.Turn.TheVariants as Turns
use Rattle.request_slots.specs.Flight.{Flight, bytes_in, count_in, first_in, slot_of, turn_of}
use Rattle.device_model.specs.declared.actor.Actor.{Actor}
use Rattle.device_model.specs.declared.actor.Actor.TheVariants as Actors
use Rattle.device_parts.specs.declared.answers.Moved.{Moved}
use Rattle.device_parts.specs.declared.answers.Moved.TheVariants as Moves
use Rattle.device_parts.specs.declared.answers.Served.{Served}
use Rattle.device_parts.specs.declared.answers.Served.TheVariants as Serves
use Rattle.journal_mode.specs.Journal.{PlacedRing}
use Rattle.journal_mode.specs.Placement.{placed_in}
use Rattle.journal_device.specs.Answers.{AdvancesAs}
use Rattle.journal_device.specs.declared.parts.JournalState.{JournalState}

-- ---- a request in flight

-- The request, with this buffer where it is a read.
abbrev pub with_buffer : List ℕ → Request → Request
with_buffer buffer (Read first count given) = Read first count buffer
with_buffer buffer (Write first count bytes fua) = Write first count bytes fua
with_buffer buffer Flush = Flush

-- A fault is of one of its blocks.
abbrev pub IsFaultAmong : Request → Outcome → Type 0
IsFaultAmong request Unfinished = Unit {0}
IsFaultAmong request Finished = Unit {0}
IsFaultAmong request (Fault block stored computed) =
    (first_in request ≤ block) × (block < first_in request + count_in request)

-- The slot is that of this request, of which a read may have other bytes, and as many.
pub record IsSlotFor (request : Request) (slot : Slot) : Type 0 where
  pub buffer : List ℕ
  pub is : slot.request ≡ with_buffer buffer request
  pub size : length buffer ≡ length (bytes_in request)
  pub fault : IsFaultAmong request slot.outcome

-- The ticket is that of this request,
abbrev pub IsTicketOf : Request → ℕ → Flight → Type 0
IsTicketOf request ticket flight = IfSome (slot_of ticket flight) (IsSlotFor request)

-- and whichever it was the ticket of, it stays so.
abbrev pub KeepsRequest : ℕ → (old new : Flight) → Type 0
KeepsRequest ticket old new = (request : Request) → IsTicketOf request ticket old → IsTicketOf request ticket new

-- ---- what a serve answers

-- It waits for the request that it is told of, or is done; or this is so, of which it is told that there is no room.
abbrev pub IsToldOf : ℕ → (old new : Flight) → (full : Type 0) → Served → Type 0
IsToldOf ticket old new full (Serves.Held by) = turn_of old ticket ≡ Turns.Held by
IsToldOf ticket old new full Serves.Did = Unit {0}
IsToldOf ticket old new full Serves.Done = turn_of new ticket ≡ Turns.Finished
IsToldOf ticket old new full Serves.NoRoom = full

-- A serve keeps its request, and what it answers is so.
pub record TellsOf {E : Type 0} (ticket : ℕ) (old new : Flight) (full : Type 0) (result : Result Served E)
    : Type 0 where
  pub keeps : KeepsRequest ticket old new
  pub told : IfOk result (IsToldOf ticket old new full)

-- ---- what steps leave of the journal

-- No section of the ring is opened,
pub record IsCommitted (ring : JournalRing) : Type 0 where
  pub sections : 1 ≤ ring.geometry.sections
  pub none : ring.opened ≡ []

-- and all that is committed is placed,
pub record IsPlaced (journal : PlacedRing) : Type 0 where
  pub committed : IsCommitted journal.ring
  pub all : placed_in journal.placement journal.ring ≡ length (entries_of journal.ring.committed)

-- or every section is free.
pub record IsSettled (ring : JournalRing) : Type 0 where
  pub committed_ : IsCommitted ring
  pub free : ring.committed ≡ []

-- What those actors have left that make room before this one: first all is committed, then placed, and then settled.
abbrev pub IsDueFor : Actor → PlacedRing → Type 0
IsDueFor Actors.Commit journal = Unit {0}
IsDueFor Actors.Place journal = IsCommitted journal.ring
IsDueFor Actors.Settle journal = IsPlaced journal
IsDueFor Actors.Clean journal = Unit {0}
IsDueFor Actors.Recalc journal = Unit {0}

-- What this one leaves once it has nothing more to do.
abbrev pub IsDoneBy : Actor → PlacedRing → Type 0
IsDoneBy Actors.Commit journal = IsCommitted journal.ring
IsDoneBy Actors.Place journal = IsPlaced journal
IsDoneBy Actors.Settle journal = IsSettled journal.ring
IsDoneBy Actors.Clean journal = Unit {0}
IsDoneBy Actors.Recalc journal = Unit {0}

-- A step keeps what the others have left, and one that finds nothing to do has all done.
abbrev pub LeavesDue : Actor → Moved → (old new : PlacedRing) → Type 0
LeavesDue actor Moves.Did old new = IsDueFor actor old → IsDueFor actor new
LeavesDue actor Moves.Idle old new = IsDueFor actor old → IsDoneBy actor new

-- What a step leaves of a recalculation, and of the journal.
pub record MovesAs (actor : Actor) (moved : Moved) (old new : JournalState) : Type 0 where
  pub advances : AdvancesAs actor moved old.recalculation new.recalculation
  pub due : LeavesDue actor moved old.journal new.journal
