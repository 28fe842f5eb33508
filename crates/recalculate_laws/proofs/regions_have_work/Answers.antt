use Rattle.recalculate_laws.proofs.FormatsLemmas.{work_opened_law, work_taken_law, work_moved_law, work_flag_law, work_moves_law}
use Rattle.recalculate_laws.proofs.regions_have_work.Goals as goal

pub returns-clause-opened : goal.returns-clause-opened
returns-clause-opened c = work_opened_law

pub returns-clause-taken : goal.returns-clause-taken
returns-clause-taken c = work_taken_law

pub returns-clause-moved : goal.returns-clause-moved
returns-clause-moved c = work_moved_law

pub returns-clause-flag : goal.returns-clause-flag
returns-clause-flag c = work_flag_law

pub returns-clause-moves : goal.returns-clause-moves
returns-clause-moves c = work_moves_law
