use Rattle.journal_laws.proofs.EventLemmas.{failed_serve_law, failed_left_law}
use Rattle.journal_laws.proofs.failures_leave_a_write.Goals as goal

pub returns-clause-serve : goal.returns-clause-serve
returns-clause-serve c = failed_serve_law

pub returns-clause-left : goal.returns-clause-left
returns-clause-left c = failed_left_law
