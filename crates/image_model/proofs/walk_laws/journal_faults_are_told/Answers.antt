use Rattle.image_model.proofs.OpenableLemmas.{journal_fault_law}
use Rattle.image_model.proofs.walk_laws.journal_faults_are_told.Goals as goal

pub returns : goal.returns
returns c = journal_fault_law
