use Rattle.direct_laws.proofs.ServeLemmas.{served_block_law, failed_block_law, served_flush_law, served_close_law, served_kept_law, failed_read_law, failed_flush_law}
use Rattle.direct_laws.proofs.calls_keep_the_device.Goals as goal

pub returns-clause-block : goal.returns-clause-block
returns-clause-block c = served_block_law

pub returns-clause-failed_block : goal.returns-clause-failed_block
returns-clause-failed_block c = failed_block_law

pub returns-clause-flush : goal.returns-clause-flush
returns-clause-flush c = served_flush_law

pub returns-clause-close : goal.returns-clause-close
returns-clause-close c = served_close_law

pub returns-clause-kept : goal.returns-clause-kept
returns-clause-kept c = served_kept_law

pub returns-clause-failed_read : goal.returns-clause-failed_read
returns-clause-failed_read c = failed_read_law

pub returns-clause-failed_flush : goal.returns-clause-failed_flush
returns-clause-failed_flush c = failed_flush_law
