use Rattle.journal_mode.proofs.OpeningLemmas.{recovered_stands_law}
use Rattle.journal_mode.proofs.laws.recovered_journal_stands.Goals as goal

pub returns : goal.returns
returns c = recovered_stands_law
