use Rattle.journal_laws.proofs.StepLemmas.{next_law, opening_law, recovered_law}
use Rattle.journal_laws.proofs.device_opens.Goals as goal

pub returns-clause-opened : goal.returns-clause-opened
returns-clause-opened c = opening_law

pub returns-clause-recovered : goal.returns-clause-recovered
returns-clause-recovered c = recovered_law

pub returns-clause-next : goal.returns-clause-next
returns-clause-next c = next_law
