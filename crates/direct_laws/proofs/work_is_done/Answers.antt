use Rattle.direct_laws.proofs.ServeLemmas.{block_written_law, put_failed_law, tags_kept_law, all_flushed_law, sync_failed_law}
use Rattle.direct_laws.proofs.work_is_done.Goals as goal

pub returns-clause-written : goal.returns-clause-written
returns-clause-written c = block_written_law

pub returns-clause-put_failed : goal.returns-clause-put_failed
returns-clause-put_failed c = put_failed_law

pub returns-clause-kept : goal.returns-clause-kept
returns-clause-kept c = tags_kept_law

pub returns-clause-flushed : goal.returns-clause-flushed
returns-clause-flushed c = all_flushed_law

pub returns-clause-sync_failed : goal.returns-clause-sync_failed
returns-clause-sync_failed c = sync_failed_law
