use Rattle.run_laws.proofs.ReadingLemmas.{has_run, one_run}
use Rattle.run_laws.proofs.scripts_have_one_run.Goals as goal

pub returns-clause-run : goal.returns-clause-run
returns-clause-run c = has_run

pub returns-clause-one : goal.returns-clause-one
returns-clause-one c = one_run
