use Rattle.std.proofs.Common.{sym, ap, subst, ◌∙◌}
use Rattle.journal_ring.specs.Places.{oldest_of}
use Rattle.journal_ring.specs.RoomLaws.{HasBounds}
use Rattle.journal_ring.proofs.BatchLemmas.{bounds_of}
use Rattle.journal_ring.proofs.PlacesLemmas.{oldest-some}
use Rattle.journal_ring.proofs.ring.Ring.oldest.Goals as goal

pub returns-clause-oldest : goal.returns-clause-oldest
returns-clause-oldest c =
    sym (oldest-some c.self.inside.pool.geometry c.self.inside.pool.bytes c.self.inside.counts.items c.self.inside.marks c.self.invariant c.if-self-eq0.false)
    ∙ ap oldest_of c.self.view_is

pub returns-clause-bounds : goal.returns-clause-bounds
returns-clause-bounds c =
    subst HasBounds c.self.view_is (bounds_of c.self.inside.pool.geometry c.self.inside.pool.bytes c.self.inside.counts.items c.self.inside.marks c.self.invariant)

pub returns-then-self-eq0-clause-bounds : goal.returns-then-self-eq0-clause-bounds
returns-then-self-eq0-clause-bounds c =
    subst HasBounds c.self.view_is (bounds_of c.self.inside.pool.geometry c.self.inside.pool.bytes c.self.inside.counts.items c.self.inside.marks c.self.invariant)
