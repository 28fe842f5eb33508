-- The requests in flight that a script has submitted.
use Rattle.std.specs.Prelude.{◌≡◌, ℕ, ◌≤◌, ◌==◌, suc, Bool, List, map}
use Rattle.disk_model.specs.Disk.{Content}
use Rattle.disk_model.specs.Identity.{DiskIdentity}
use Rattle.range_lock.specs.Asks.{ask_for}
use Rattle.range_lock.specs.declared.ask.Ask.{Ask}
use Rattle.request_slots.specs.Flight.{Flight, ask_of}
use Rattle.device_parts.specs.declared.condition.Condition.{Condition}
use Rattle.device.specs.declared.mode.DeviceParts.{DeviceParts}
use Rattle.device.specs.Device.{IsReady, mode_of}
use Rattle.script_session.specs.declared.tickets.Tickets.{Tickets}
use Rattle.script_session.specs.declared.tickets.Waiting.{Waiting}

-- What a request that waits to be taken asks of the blocks.
abbrev pub ask_by : Waiting → Ask
ask_by waiting = ask_for waiting.ticket waiting.first waiting.count

-- It has this ticket.
abbrev pub is_of : ℕ → Waiting → Bool
is_of number waiting = waiting.ticket == number

-- Their numbers, in order.
abbrev pub numbers_of : Tickets → List ℕ
numbers_of tickets = map (λ waiting. waiting.ticket) tickets.waiting.items

-- The tickets are those of the requests in flight, in order, each with the blocks of its request.
pub record AreInFlight (tickets : Tickets) (flight : Flight) : Type 0 where
  pub asks : map ask_by tickets.waiting.items ≡ map ask_of flight.slots

-- What a line leaves in any case: the device is ready, in the same mode, with the same blocks on the same disk, has
-- taken one request more at most, and the tickets are those in flight.
pub record Stays (condition : Condition) (old new : DeviceParts) (tickets : Tickets) (disk_before disk : DiskIdentity)
    (moments : List Content) : Type 0 where
  pub ready : IsReady condition new disk moments
  pub tickets_ : AreInFlight tickets new.common.slots
  pub mode_ : mode_of new.mode ≡ mode_of old.mode
  pub blocks : new.common.slots.blocks ≡ old.common.slots.blocks
  pub block_size : new.common.slots.block_size ≡ old.common.slots.block_size
  pub submitted : new.common.slots.submitted ≤ suc old.common.slots.submitted
  pub identity : disk ≡ disk_before
