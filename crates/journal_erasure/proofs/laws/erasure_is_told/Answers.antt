use Rattle.journal_erasure.proofs.LawsLemmas.{rest_erasure_law}
use Rattle.journal_erasure.proofs.laws.erasure_is_told.Goals as goal

pub returns-clause-rest : goal.returns-clause-rest
returns-clause-rest c = rest_erasure_law
