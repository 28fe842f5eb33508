use Rattle.mirror_calls.proofs.SinceLemmas.{IsLeftSince-now}
use Rattle.mirror_calls.proofs.leg_laws.legs_are_left_by_their_calls.Goals as goal

pub returns : goal.returns
returns g c old new on s changes stands since =
    IsLeftSince-now (g.L.Leg.may_be_left on) s.history changes (c.legs_are_left_as_told.ensures old on s stands) since
