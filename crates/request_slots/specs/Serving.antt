-- How a request in flight goes on when it is served.
use Rattle.std.specs.Prelude.{ℕ, suc, ◌+◌, ◌*◌, ◌==◌, if◌then◌else◌, List, [], ◌∷◌, length, take, drop}
use Rattle.std.specs.List.{replace_range}
use Rattle.request_slots.specs.declared.request.Request.{Request}
use Rattle.request_slots.specs.declared.request.Request.TheVariants.{Read, Write, Flush}
use Rattle.request_slots.specs.declared.slot.Outcome.TheVariants.{Finished, Fault}
use Rattle.request_slots.specs.declared.slot.Slot.{Slot}
use Rattle.request_slots.specs.Flight.{Flight, bytes_in, count_in, is_of}

-- The bytes with a piece in the place of those from byte `from` on.
abbrev pub with_piece : ℕ → List ℕ → List ℕ → List ℕ
with_piece from piece bytes = replace_range bytes from (from + length piece) piece

-- A read with a piece of its buffer.
abbrev pub with_read_piece : ℕ → List ℕ → Request → Request
with_read_piece from piece (Read first count buffer) = Read first count (with_piece from piece buffer)
with_read_piece from piece (Write first count bytes fua) = Write first count bytes fua
with_read_piece from piece Flush = Flush

-- One block more is served. With the last one the request is finished.
abbrev pub with_block_counted : Slot → Slot
with_block_counted slot = record slot {
  served = suc slot.served;
  outcome = if suc slot.served == count_in slot.request then Finished else slot.outcome;
}

-- One block more is read, behind those that are.
abbrev pub with_block_read : ℕ → List ℕ → Slot → Slot
with_block_read block_size bytes slot =
    with_block_counted (record slot { request = with_read_piece (slot.served * block_size) bytes slot.request })

-- A read ends with a fault of its next block.
abbrev pub with_fault : ℕ → (stored computed : List ℕ) → Slot → Slot
with_fault block stored computed slot = record slot { served = suc slot.served; outcome = Fault block stored computed }

-- The request is done.
abbrev pub with_finish : Slot → Slot
with_finish slot = record slot { outcome = Finished }

-- The request of this ticket has changed.
abbrev pub changed : ℕ → (Slot → Slot) → List Slot → List Slot
changed ticket change [] = []
changed ticket change (slot ∷ slots) =
    if is_of ticket slot then change slot ∷ slots else slot ∷ changed ticket change slots

abbrev pub with_change : ℕ → (Slot → Slot) → Flight → Flight
with_change ticket change flight = record flight { slots = changed ticket change flight.slots }

-- The bytes of the next block of a request.
abbrev pub next_bytes : ℕ → Slot → List ℕ
next_bytes block_size slot = take block_size (drop (slot.served * block_size) (bytes_in slot.request))
