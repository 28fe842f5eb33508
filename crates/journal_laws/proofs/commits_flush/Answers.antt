use Rattle.journal_laws.proofs.StepLemmas.{flush_law, flush_write_law, commits_law}
use Rattle.journal_laws.proofs.commits_flush.Goals as goal

pub returns-clause-flushed : goal.returns-clause-flushed
returns-clause-flushed c = flush_law

pub returns-clause-written : goal.returns-clause-written
returns-clause-written c = flush_write_law

pub returns-clause-counts : goal.returns-clause-counts
returns-clause-counts c = commits_law
