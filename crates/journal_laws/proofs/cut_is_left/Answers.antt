use Rattle.journal_laws.proofs.PromiseLemmas.{standing_left_law, placing_left_law, settling_left_law, committing_left_law}
use Rattle.journal_laws.proofs.cut_is_left.Goals as goal

pub returns-clause-standing : goal.returns-clause-standing
returns-clause-standing c = standing_left_law

pub returns-clause-committing : goal.returns-clause-committing
returns-clause-committing c = committing_left_law

pub returns-clause-placing : goal.returns-clause-placing
returns-clause-placing c = placing_left_law

pub returns-clause-settling : goal.returns-clause-settling
returns-clause-settling c = settling_left_law
