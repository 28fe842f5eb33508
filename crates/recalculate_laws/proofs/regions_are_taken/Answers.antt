use Rattle.recalculate_laws.proofs.TakingLemmas.{taking_law, taken_law, direct_taking_law, direct_taken_law}
use Rattle.recalculate_laws.proofs.regions_are_taken.Goals as goal

pub returns-clause-taking : goal.returns-clause-taking
returns-clause-taking c = taking_law

pub returns-clause-taken : goal.returns-clause-taken
returns-clause-taken c = taken_law

pub returns-clause-direct_taking : goal.returns-clause-direct_taking
returns-clause-direct_taking c = direct_taking_law

pub returns-clause-direct_taken : goal.returns-clause-direct_taken
returns-clause-direct_taken c = direct_taken_law
