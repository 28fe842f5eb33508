use Rattle.recalculation.proofs.LawsLemmas.{opened_bits_law, opened_position_law}
use Rattle.recalculation.proofs.laws.regions_await.Goals as goal

pub returns-clause-bits : goal.returns-clause-bits
returns-clause-bits c = opened_bits_law

pub returns-clause-position : goal.returns-clause-position
returns-clause-position c = opened_position_law
