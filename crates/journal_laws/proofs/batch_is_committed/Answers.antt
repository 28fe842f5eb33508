use Rattle.journal_laws.proofs.StepLemmas.{two_commits_law}
use Rattle.journal_laws.proofs.CommitLemmas.{idle_commit_law, commit_law}
use Rattle.journal_laws.proofs.batch_is_committed.Goals as goal

pub returns-clause-idle : goal.returns-clause-idle
returns-clause-idle c = idle_commit_law

pub returns-clause-committed : goal.returns-clause-committed
returns-clause-committed c = commit_law

pub returns-clause-twice : goal.returns-clause-twice
returns-clause-twice c = two_commits_law
