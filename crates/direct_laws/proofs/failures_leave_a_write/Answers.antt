use Rattle.direct_laws.proofs.EventLemmas.{failed_write_law}
use Rattle.direct_laws.proofs.PlacedLemmas.{failed_placed_law}
use Rattle.direct_laws.proofs.PromiseLemmas.{failed_left_law}
use Rattle.direct_laws.proofs.failures_leave_a_write.Goals as goal

pub returns-clause-write : goal.returns-clause-write
returns-clause-write c = failed_write_law

pub returns-clause-placed : goal.returns-clause-placed
returns-clause-placed c = failed_placed_law

pub returns-clause-left : goal.returns-clause-left
returns-clause-left c = failed_left_law
