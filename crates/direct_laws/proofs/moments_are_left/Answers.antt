use Rattle.direct_laws.proofs.MomentLemmas.{opening_sync_law, opening_done_law, left_now_law, kept_through_law, written_through_law, failed_now_law}
use Rattle.direct_laws.proofs.moments_are_left.Goals as goal

pub returns-clause-opening : goal.returns-clause-opening
returns-clause-opening c = opening_sync_law

pub returns-clause-opened : goal.returns-clause-opened
returns-clause-opened c = opening_done_law

pub returns-clause-now : goal.returns-clause-now
returns-clause-now c = left_now_law

pub returns-clause-kept : goal.returns-clause-kept
returns-clause-kept c = kept_through_law

pub returns-clause-written : goal.returns-clause-written
returns-clause-written c = written_through_law

pub returns-clause-failed : goal.returns-clause-failed
returns-clause-failed c = failed_now_law
