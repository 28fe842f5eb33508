use Rattle.recalculate_laws.proofs.DirectCallsLemmas.{direct_stands_cut_law, direct_sync_law, direct_head_through_law, direct_head_sync_through_law, direct_head_law, direct_settled_law, direct_head_moved_law, direct_position_moved_law}
use Rattle.recalculate_laws.proofs.direct_calls_move_the_position.Goals as goal

pub returns-clause-stands : goal.returns-clause-stands
returns-clause-stands c = direct_stands_cut_law

pub returns-clause-sync : goal.returns-clause-sync
returns-clause-sync c = direct_sync_law

pub returns-clause-head_through : goal.returns-clause-head_through
returns-clause-head_through c = direct_head_through_law

pub returns-clause-head_sync : goal.returns-clause-head_sync
returns-clause-head_sync c = direct_head_sync_through_law

pub returns-clause-head : goal.returns-clause-head
returns-clause-head c = direct_head_law

pub returns-clause-settled : goal.returns-clause-settled
returns-clause-settled c = direct_settled_law

pub returns-clause-moved : goal.returns-clause-moved
returns-clause-moved c = direct_head_moved_law

pub returns-clause-all : goal.returns-clause-all
returns-clause-all c = direct_position_moved_law
