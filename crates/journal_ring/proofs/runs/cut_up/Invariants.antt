use Rattle.std.proofs.Common.{◌≡◌, ◌+◌, ◌*◌, ◌≤◌, length}
use Rattle.std.specs.Vec.{vec_capacity}
use Rattle.sector_pool.specs.Run.{sectors_of}
use Rattle.journal_ring.specs.Runs.{CutsUp}
use Rattle.journal_ring.proofs.runs.cut_up.Given as goal

abbrev pub invariant-loop : goal.invariant-loop
invariant-loop l =
    CutsUp l.each l.counter l.fn.runs.items l.runs.items l.fn.run l.rest
    × (vec_capacity l.runs ≡ vec_capacity l.fn.runs)
    × (length l.runs.items ≡ length l.fn.runs.items + l.counter)
    × (l.count * l.each ≤ l.counter * l.each + sectors_of l.rest)
