use Rattle.image_model.proofs.CommitIdLemmas.{commit_ids_differ, commit_number_law}
use Rattle.image_model.proofs.walk_laws.commit_ids_differ.Goals as goal

pub returns-clause-differ : goal.returns-clause-differ
returns-clause-differ c = commit_ids_differ

pub returns-clause-number : goal.returns-clause-number
returns-clause-number c = commit_number_law
