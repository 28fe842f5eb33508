-- Histories that differ in the tickets of their writes alone.
-- Own: a ticket tells writes apart. What blocks hold, and what a cut may leave, does not depend on it.
use Rattle.std.specs.Prelude.{◌≡◌, List, map}
use Rattle.std.specs.Option.{option_map}
use Rattle.device_model.specs.History.{BlockWrite, Change, Begun, Written, Flushed, History}

-- A write without its ticket.
abbrev pub untold : BlockWrite → BlockWrite
untold write = record write { ticket = 0 }

abbrev pub untold_change : Change → Change
untold_change (Begun write) = Begun (untold write)
untold_change (Written write) = Written (untold write)
untold_change Flushed = Flushed

-- A history without tickets.
abbrev pub untold_history : History → History
untold_history h = record h { writes = map untold h.writes; pending = option_map untold h.pending }

-- They differ in tickets alone.
abbrev pub IsLike : (g h : History) → Type 0
IsLike g h = untold_history g ≡ untold_history h

abbrev pub AreLike : (ours theirs : List Change) → Type 0
AreLike ours theirs = map untold_change ours ≡ map untold_change theirs
