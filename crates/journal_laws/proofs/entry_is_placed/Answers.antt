use Rattle.journal_laws.proofs.StepLemmas.{place_law, idle_place_law}
use Rattle.journal_laws.proofs.entry_is_placed.Goals as goal

pub returns-clause-placed : goal.returns-clause-placed
returns-clause-placed c = place_law

pub returns-clause-idle : goal.returns-clause-idle
returns-clause-idle c = idle_place_law
