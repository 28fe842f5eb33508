use Rattle.direct_model.proofs.DirectLemmas.{placed_standing_law, placed_left_law}
use Rattle.direct_model.proofs.cuts_leave_placed_blocks.Goals as goal

pub returns-clause-standing : goal.returns-clause-standing
returns-clause-standing c = placed_standing_law

pub returns-clause-left : goal.returns-clause-left
returns-clause-left c = placed_left_law
