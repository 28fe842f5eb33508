-- Which requests are taken, and why others are refused.
use Rattle.std.specs.Prelude.{ℕ, suc, ◌+◌, ◌*◌, ◌==◌, ◌||◌, ltb, leb, if◌then◌else◌, List, [], ◌∷◌, ◌++◌, length, Option, Some, None, Result, Ok, Err}
use Rattle.std.specs.Option.{option_or}
use Rattle.request_slots.specs.declared.request.Request.{Request}
use Rattle.request_slots.specs.declared.request.Request.TheVariants.{Read, Write, Flush}
use Rattle.request_slots.specs.declared.submit_fault.SubmitFault.{SubmitFault}
use Rattle.request_slots.specs.declared.submit_fault.SubmitFault.TheVariants.{Range, Length, SlotsFull}
use Rattle.request_slots.specs.Flight.{Flight, newly_slotted}

-- How many requests may be submitted and not taken.
-- Own: sixteen.
abbrev pub most_slots : ℕ
most_slots = 16

-- Why blocks with some bytes are refused, if they are.
abbrev pub blocks_fault : Flight → (first count : ℕ) → List ℕ → Option SubmitFault
blocks_fault flight first count bytes =
    if (count == 0) || ltb flight.blocks (first + count) then Some (Range first count flight.blocks)
    else if length bytes == count * flight.block_size then None
    else Some (Length (length bytes) (count * flight.block_size))

-- Why a request is refused whatever is in flight, if it is.
abbrev pub form_fault : Flight → Request → Option SubmitFault
form_fault flight (Read first count buffer) = blocks_fault flight first count buffer
form_fault flight (Write first count bytes fua) = blocks_fault flight first count bytes
form_fault flight Flush = None

-- Why any request is: no slot is left.
abbrev pub slots_fault : Flight → Option SubmitFault
slots_fault flight = if leb most_slots (length flight.slots) then Some (SlotsFull most_slots) else None

-- Why a request is refused, if it is: the first that holds.
abbrev pub fault_of : Flight → Request → Option SubmitFault
fault_of flight request = option_or (form_fault flight request) (slots_fault flight)

-- The next ticket, or the request back with its fault.
abbrev pub answer_by : Option SubmitFault → ℕ → Request → Result ℕ (Request × SubmitFault)
answer_by None ticket request = Ok ticket
answer_by (Some fault) ticket request = Err (request, fault)

-- It is in flight, behind all others.
abbrev pub with_request : Request → Flight → Flight
with_request request flight = record flight {
  submitted = suc flight.submitted;
  slots = flight.slots ++ newly_slotted (suc flight.submitted) request ∷ [];
}

-- A refused request changes nothing.
abbrev pub after_submit : Option SubmitFault → Request → Flight → Flight
after_submit None request flight = with_request request flight
after_submit (Some fault) request flight = flight
