use Rattle.mirror_core.proofs.OpenedLemmas.{told_law}
use Rattle.mirror_core.proofs.leg_laws.legs_are_left_as_told.Goals as goal

pub returns : goal.returns
returns c = told_law
