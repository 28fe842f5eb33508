use Rattle.journal_laws.proofs.EventLemmas.{step_commit_law, step_place_law, step_settle_law, idle_law}
use Rattle.journal_laws.proofs.actors_step.Goals as goal

pub returns-clause-commit : goal.returns-clause-commit
returns-clause-commit c = step_commit_law

pub returns-clause-place : goal.returns-clause-place
returns-clause-place c = step_place_law

pub returns-clause-settle : goal.returns-clause-settle
returns-clause-settle c = step_settle_law

pub returns-clause-idle : goal.returns-clause-idle
returns-clause-idle c = idle_law
