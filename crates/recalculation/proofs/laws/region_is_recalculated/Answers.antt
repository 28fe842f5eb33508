use Rattle.recalculation.proofs.LawsLemmas.{bitmap_blocks_law, position_blocks_law, same_blocks_law, same_moments_law}
use Rattle.recalculation.proofs.laws.region_is_recalculated.Goals as goal

pub returns-clause-blocks : goal.returns-clause-blocks
returns-clause-blocks c = same_blocks_law

pub returns-clause-moments : goal.returns-clause-moments
returns-clause-moments c = same_moments_law

pub returns-clause-bitmap : goal.returns-clause-bitmap
returns-clause-bitmap c = bitmap_blocks_law

pub returns-clause-position : goal.returns-clause-position
returns-clause-position c = position_blocks_law
