-- What was asked and is not released, and which of it holds which.
-- Own: overlapping requests are served in order of asking.
use Rattle.std.specs.Prelude.{ℕ, ◌≤◌, ◌==◌, Bool, List, length, take, find, position, get_or, Option, Some, None, option_map}
use Rattle.device_model.specs.Request.{Request, Read, overlaps}
use Rattle.range_lock.specs.declared.ask.Ask.{Ask}
use Rattle.range_lock.specs.declared.ask.Asked.{Asked}
use Rattle.range_lock.specs.declared.ask.Asked.TheVariants.{Granted, Held}

-- How many slots there are, and what was asked and is not released, in order of asking.
pub record Slots : Type 0 where
  pub count : ℕ
  pub asks : List Ask

-- What is asked for the request of a ticket: so many blocks from a first one on.
abbrev pub ask_for : (ticket first count : ℕ) → Ask
ask_for ticket first count = record { ticket = ticket; first = first; count = count }

-- The blocks of an ask, as a request of `device_model`. A write of the same blocks overlaps what their read does.
abbrev pub blocks_of : Ask → Request
blocks_of ask = Read ask.first ask.count

abbrev pub has_ticket : ℕ → Ask → Bool
has_ticket ticket ask = ask.ticket == ticket

-- The ticket of the first of some asks that has a block in common with this request, if one does.
abbrev pub holder_among : List Ask → Request → Option ℕ
holder_among asks r = option_map (λ ask. ask.ticket) (find (λ ask. overlaps r (blocks_of ask)) asks)

-- What holds the ask at a place, if there is one.
abbrev pub holder_at : List Ask → Option ℕ → Option ℕ
holder_at asks None = None
holder_at asks (Some k) = holder_among (take k asks) (blocks_of (get_or asks k (ask_for 0 0 0)))

-- What holds the ask of a ticket: the first one before it that has a block in common with it.
abbrev pub holder_of : ℕ → List Ask → Option ℕ
holder_of ticket asks = holder_at asks (position (has_ticket ticket) asks)

-- What a request is answered that this ticket holds, if one does.
abbrev pub answer_by : Option ℕ → Asked
answer_by None = Granted
answer_by (Some ticket) = Held ticket

-- There are as many asks as slots at most, for which there is memory.
pub record AreInSlots (count capacity : ℕ) (asks : List Ask) : Type 0 where
  pub room : count ≤ capacity
  pub few : length asks ≤ count
