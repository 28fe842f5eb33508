use Rattle.journal_laws.proofs.EmptiedLemmas.{emptied_law, erased_law}
use Rattle.journal_laws.proofs.journal_is_emptied.Goals as goal

pub returns-clause-emptied : goal.returns-clause-emptied
returns-clause-emptied c = emptied_law

pub returns-clause-erased : goal.returns-clause-erased
returns-clause-erased c = erased_law
