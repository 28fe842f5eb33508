-- What a contract sees of the requests in flight, and what is done next for each.
use Rattle.std.specs.Prelude.{◌≡◌, ℕ, suc, ◌+◌, ◌*◌, ◌<◌, ◌≤◌, ◌==◌, Bool, true, false, ◌&&◌, if◌then◌else◌, List, [], ◌∷◌, length, find, Option, Some, None, IfSome}
use Rattle.std.specs.List.{list_any}
use Rattle.range_lock.specs.Asks.{ask_for, holder_of}
use Rattle.range_lock.specs.declared.ask.Ask.{Ask}
use Rattle.request_slots.specs.declared.block_range.BlockRange.{BlockRange}
use Rattle.request_slots.specs.declared.request.Request.{Request}
use Rattle.request_slots.specs.declared.request.Request.TheVariants.{Read, Write, Flush}
use Rattle.request_slots.specs.declared.slot.Outcome.{Outcome}
use Rattle.request_slots.specs.declared.slot.Outcome.TheVariants.{Unfinished, Finished, Fault}
use Rattle.request_slots.specs.declared.slot.Slot.{Slot}
use Rattle.request_slots.specs.declared.turn.Turn.{Turn}
use Rattle.request_slots.specs.declared.turn.Turn.TheVariants as Turns

-- ---- a request

-- The first block. A flush has none.
abbrev pub first_in : Request → ℕ
first_in (Read first count buffer) = first
first_in (Write first count bytes fua) = first
first_in Flush = 0

-- How many blocks it has.
abbrev pub count_in : Request → ℕ
count_in (Read first count buffer) = count
count_in (Write first count bytes fua) = count
count_in Flush = 0

-- The bytes that came with it.
abbrev pub bytes_in : Request → List ℕ
bytes_in (Read first count buffer) = buffer
bytes_in (Write first count bytes fua) = bytes
bytes_in Flush = []

-- It has blocks to be served one after the other.
abbrev pub has_blocks : Request → Bool
has_blocks (Read first count buffer) = true
has_blocks (Write first count bytes fua) = true
has_blocks Flush = false

-- ---- a slot

-- A request of which nothing is served yet.
abbrev pub newly_slotted : ℕ → Request → Slot
newly_slotted ticket request = record { ticket = ticket; request = request; served = 0; outcome = Unfinished }

abbrev pub is_open : Outcome → Bool
is_open Unfinished = true
is_open Finished = false
is_open (Fault block stored computed) = false

-- It is still to be served.
abbrev pub is_unfinished : Slot → Bool
is_unfinished slot = is_open slot.outcome

abbrev pub is_of : ℕ → Slot → Bool
is_of ticket slot = slot.ticket == ticket

-- Its blocks. A flush has none.
abbrev pub range_of : Slot → BlockRange
range_of slot = record { first = first_in slot.request; count = count_in slot.request }

-- What it asks of the blocks.
abbrev pub ask_of : Slot → Ask
ask_of slot = ask_for slot.ticket (first_in slot.request) (count_in slot.request)

-- ---- all of them

-- How many blocks there are, and of how many bytes each; how many requests were submitted; and those that are in flight:
-- submitted and not taken, in order of submission.
pub record Flight : Type 0 where
  pub blocks : ℕ
  pub block_size : ℕ
  pub submitted : ℕ
  pub slots : List Slot

-- Nothing was submitted yet.
abbrev pub no_requests : ℕ → ℕ → Flight
no_requests blocks block_size = record { blocks = blocks; block_size = block_size; submitted = 0; slots = [] }

-- What those that are unfinished ask of the blocks.
abbrev pub asks_in : List Slot → List Ask
asks_in [] = []
asks_in (slot ∷ slots) = if is_unfinished slot then ask_of slot ∷ asks_in slots else asks_in slots

-- The request of this ticket, if it is in flight.
abbrev pub slot_of : ℕ → Flight → Option Slot
slot_of ticket flight = find (is_of ticket) flight.slots

-- The request of this ticket is in flight.
abbrev pub is_in_flight : ℕ → Flight → Bool
is_in_flight ticket flight = list_any (is_of ticket) flight.slots

-- ---- what is done next

-- A write is to be flushed with its last block, where it was submitted so.
abbrev pub is_flushed_by : Slot → Bool → Bool
is_flushed_by slot fua = fua && (suc slot.served == count_in slot.request)

-- One block of the request, or a flush.
abbrev pub next_of : Slot → Request → Turn
next_of slot (Read first count buffer) = Turns.Read (first + slot.served)
next_of slot (Write first count bytes fua) = Turns.Write (first + slot.served) (is_flushed_by slot fua)
next_of slot Flush = Turns.Flush

-- It waits for the request of this ticket, if there is one.
abbrev pub turn_behind : Slot → Option ℕ → Turn
turn_behind slot (Some ticket) = Turns.Held ticket
turn_behind slot None = next_of slot slot.request

abbrev pub turn_in : Flight → Option Slot → Turn
turn_in flight None = Turns.Finished
turn_in flight (Some slot) =
    if is_unfinished slot then turn_behind slot (holder_of slot.ticket (asks_in flight.slots)) else Turns.Finished

-- What is done next for the request of this ticket: nothing where it is done, or where it waits for another one.
abbrev pub turn_of : Flight → ℕ → Turn
turn_of flight ticket = turn_in flight (slot_of ticket flight)

-- A block is to be read.
abbrev pub IsRead : Turn → Type 0
IsRead Turns.Finished = ⊥
IsRead (Turns.Held by) = ⊥
IsRead (Turns.Read block) = Unit {0}
IsRead (Turns.Write block is_flushed) = ⊥
IsRead Turns.Flush = ⊥

-- A block is to be written.
abbrev pub IsWrite : Turn → Type 0
IsWrite Turns.Finished = ⊥
IsWrite (Turns.Held by) = ⊥
IsWrite (Turns.Read block) = ⊥
IsWrite (Turns.Write block is_flushed) = Unit {0}
IsWrite Turns.Flush = ⊥

-- Its block, if there is one, is one of so many.
abbrev pub IsTurnWithin : (blocks : ℕ) → Turn → Type 0
IsTurnWithin blocks Turns.Finished = Unit {0}
IsTurnWithin blocks (Turns.Held by) = Unit {0}
IsTurnWithin blocks (Turns.Read block) = block < blocks
IsTurnWithin blocks (Turns.Write block is_flushed) = block < blocks
IsTurnWithin blocks Turns.Flush = Unit {0}

-- ---- what is true of all

-- Its blocks are blocks of the device, with as many bytes as they have, no more of them are served, and where it is unfinished
-- some are not served yet.
pub record IsSlotOf (blocks block_size submitted : ℕ) (slot : Slot) : Type 0 where
  pub given : slot.ticket ≤ submitted
  pub there : first_in slot.request + count_in slot.request ≤ blocks
  pub bytes : length (bytes_in slot.request) ≡ count_in slot.request * block_size
  pub counted : slot.served ≤ count_in slot.request
  pub left : has_blocks slot.request ≡ true → is_unfinished slot ≡ true → slot.served < count_in slot.request

-- The request of this ticket is such, if it is in flight.
abbrev pub FitsFlight : ℕ → Flight → Type 0
FitsFlight ticket flight =
    IfSome (slot_of ticket flight) (IsSlotOf flight.blocks flight.block_size flight.submitted)

-- The tickets are above this one, and ascend.
abbrev pub AreAbove : ℕ → List Slot → Type 0
AreAbove ticket [] = Unit {0}
AreAbove ticket (slot ∷ slots) = (ticket < slot.ticket) × AreAbove slot.ticket slots
