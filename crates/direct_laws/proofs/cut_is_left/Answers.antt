use Rattle.direct_laws.proofs.PromiseLemmas.{placed_is_left_law, standing_left_law, reopens_law, flushed_left_law, kind_left_law, within_law, writing_left_law, back_left_law, recalculating_left_law, moving_left_law}
use Rattle.direct_laws.proofs.cut_is_left.Goals as goal

pub returns-clause-placed : goal.returns-clause-placed
returns-clause-placed c = placed_is_left_law

pub returns-clause-standing : goal.returns-clause-standing
returns-clause-standing c = standing_left_law

pub returns-clause-reopens : goal.returns-clause-reopens
returns-clause-reopens c = reopens_law

pub returns-clause-all : goal.returns-clause-all
returns-clause-all c = flushed_left_law

pub returns-clause-kind : goal.returns-clause-kind
returns-clause-kind c = kind_left_law

pub returns-clause-within : goal.returns-clause-within
returns-clause-within c = within_law

pub returns-clause-writing : goal.returns-clause-writing
returns-clause-writing c = writing_left_law

pub returns-clause-back : goal.returns-clause-back
returns-clause-back c = back_left_law

pub returns-clause-recalculating : goal.returns-clause-recalculating
returns-clause-recalculating c = recalculating_left_law

pub returns-clause-moving : goal.returns-clause-moving
returns-clause-moving c = moving_left_law
