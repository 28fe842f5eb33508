use Rattle.direct_laws.proofs.PlacedLemmas.{standing_placed_law, reopens_placed_law, flushed_placed_law, kind_placed_law, within_placed_law, writing_placed_law, back_placed_law, recalculating_placed_law, moving_placed_law}
use Rattle.direct_laws.proofs.placed_cut_is_left.Goals as goal

pub returns-clause-standing : goal.returns-clause-standing
returns-clause-standing c = standing_placed_law

pub returns-clause-reopens : goal.returns-clause-reopens
returns-clause-reopens c = reopens_placed_law

pub returns-clause-all : goal.returns-clause-all
returns-clause-all c = flushed_placed_law

pub returns-clause-kind : goal.returns-clause-kind
returns-clause-kind c = kind_placed_law

pub returns-clause-within : goal.returns-clause-within
returns-clause-within c = within_placed_law

pub returns-clause-writing : goal.returns-clause-writing
returns-clause-writing c = writing_placed_law

pub returns-clause-back : goal.returns-clause-back
returns-clause-back c = back_placed_law

pub returns-clause-recalculating : goal.returns-clause-recalculating
returns-clause-recalculating c = recalculating_placed_law

pub returns-clause-moving : goal.returns-clause-moving
returns-clause-moving c = moving_placed_law
