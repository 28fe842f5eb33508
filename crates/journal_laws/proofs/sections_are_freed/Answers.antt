use Rattle.journal_laws.proofs.StepLemmas.{settle_law, idle_settle_law}
use Rattle.journal_laws.proofs.sections_are_freed.Goals as goal

pub returns-clause-settled : goal.returns-clause-settled
returns-clause-settled c = settle_law

pub returns-clause-idle : goal.returns-clause-idle
returns-clause-idle c = idle_settle_law
