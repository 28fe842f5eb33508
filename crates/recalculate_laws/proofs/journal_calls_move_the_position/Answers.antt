use Rattle.recalculate_laws.proofs.CallsLemmas.{take_through_law, back_through_law, back_law, sync_through_law, sync_law, head_through_law, head_sync_through_law, head_law, settled_law, head_moved_law, position_moved_law}
use Rattle.recalculate_laws.proofs.journal_calls_move_the_position.Goals as goal

pub returns-clause-take : goal.returns-clause-take
returns-clause-take c = take_through_law

pub returns-clause-back_through : goal.returns-clause-back_through
returns-clause-back_through c = back_through_law

pub returns-clause-back : goal.returns-clause-back
returns-clause-back c = back_law

pub returns-clause-sync_through : goal.returns-clause-sync_through
returns-clause-sync_through c = sync_through_law

pub returns-clause-sync : goal.returns-clause-sync
returns-clause-sync c = sync_law

pub returns-clause-head_through : goal.returns-clause-head_through
returns-clause-head_through c = head_through_law

pub returns-clause-head_sync : goal.returns-clause-head_sync
returns-clause-head_sync c = head_sync_through_law

pub returns-clause-head : goal.returns-clause-head
returns-clause-head c = head_law

pub returns-clause-settled : goal.returns-clause-settled
returns-clause-settled c = settled_law

pub returns-clause-moved : goal.returns-clause-moved
returns-clause-moved c = head_moved_law

pub returns-clause-all : goal.returns-clause-all
returns-clause-all c = position_moved_law
