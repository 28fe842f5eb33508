use Rattle.recalculation.proofs.PositionLemmas.{can_end}
use Rattle.recalculation.proofs.position.without_position.Goals as goal

pub returns-clause-can : goal.returns-clause-can
returns-clause-can c = rw c.version_for.ensures (can_end c.args.fields.now c.requires)
