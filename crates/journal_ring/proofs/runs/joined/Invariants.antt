use Rattle.std.proofs.Common.{◌≡◌, ◌++◌, ◌∷◌, [], length}
use Rattle.std.specs.Vec.{vec_capacity}
use Rattle.journal_ring.specs.Runs.{bytes_of, FollowOn}
use Rattle.journal_ring.proofs.runs.joined.Given as goal

abbrev pub invariant-loop-front : goal.invariant-loop-front
invariant-loop-front l =
    FollowOn ((l.before.items ++ l.behind.items) ++ l.all ∷ [])
    × (bytes_of ((l.before.items ++ l.behind.items) ++ l.all ∷ []) ≡ bytes_of ((l.fn.before.items ++ l.fn.behind.items) ++ l.fn.last ∷ []))
    × (vec_capacity l.before ≡ vec_capacity l.fn.before)
    × (vec_capacity l.behind ≡ vec_capacity l.fn.behind)

abbrev pub decreases-loop-front : goal.decreases-loop-front
decreases-loop-front l = length (l.before.items ++ l.behind.items)
