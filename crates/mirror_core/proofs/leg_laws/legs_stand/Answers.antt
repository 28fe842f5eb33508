use Rattle.mirror_core.proofs.OpenedLemmas.{opened_law, rested_law}
use Rattle.mirror_core.proofs.leg_laws.legs_stand.Goals as goal

pub returns-clause-rested : goal.returns-clause-rested
returns-clause-rested c = rested_law

pub returns-clause-opened : goal.returns-clause-opened
returns-clause-opened c = opened_law
