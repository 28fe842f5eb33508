use Rattle.journal_laws.proofs.StepLemmas.{sealed_law}
use Rattle.journal_laws.proofs.sealed_is_section.Goals as goal

pub returns : goal.returns
returns c = sealed_law
