-- How the requests in flight are kept.
use Rattle.std.specs.Prelude.{◌≡◌, ◌≤◌, ◌^◌, not, filter, if◌then◌else◌, length, vec_capacity}
use Rattle.std.specs.List.{AllByRecursion}
use Rattle.request_slots.specs.Flight.{Flight, IsSlotOf, AreAbove, asks_in, is_unfinished}
use Rattle.range_lock.specs.Asks.{Slots, has_ticket}
use Rattle.request_slots.specs.declared.slot.Slot.{Slot}
use Rattle.request_slots.specs.Submitting.{most_slots}
use Rattle.request_slots.specs.declared.slots.Slots.TheInside.{Inside}

-- The locks once a request has changed: those of one that is done are released.
abbrev pub with_unlocked : Slot → Slots → Slots
with_unlocked slot locks =
    if is_unfinished slot then locks
    else record locks { asks = filter (λ ask. not (has_ticket slot.ticket ask)) locks.asks }

-- What the table's fields stand for.
abbrev pub flight_of : Inside → Flight
flight_of table = record {
  blocks = table.blocks;
  block_size = table.block_size;
  submitted = table.submitted;
  slots = table.slots.items;
}

-- The blocks are not too many, there is memory for all slots, each has a request that fits, in order of tickets, and the locks
-- are what those that are unfinished ask for.
pub record IsTable (table : Inside) : Type 0 where
  pub few_blocks : table.blocks ≤ 2 ^ 48
  pub some : 1 ≤ table.block_size
  pub small : table.block_size ≤ 4096
  pub room : most_slots ≤ vec_capacity table.slots
  pub few : length table.slots.items ≤ most_slots
  pub each : AllByRecursion (IsSlotOf table.blocks table.block_size table.submitted) table.slots.items
  pub above : AreAbove 0 table.slots.items
  pub locks : table.locks ≡ record { count = most_slots; asks = asks_in table.slots.items }
