use Rattle.recalculate_laws.proofs.DirectCallsLemmas.{direct_cut_left_law, direct_cut_now_law, direct_step_calls_law, direct_failed_step_law, direct_close_calls_law, direct_failed_close_law}
use Rattle.recalculate_laws.proofs.direct_calls_keep_the_device.Goals as goal

pub returns-clause-left : goal.returns-clause-left
returns-clause-left c = direct_cut_left_law

pub returns-clause-now : goal.returns-clause-now
returns-clause-now c = direct_cut_now_law

pub returns-clause-step : goal.returns-clause-step
returns-clause-step c = direct_step_calls_law

pub returns-clause-failed : goal.returns-clause-failed
returns-clause-failed c = direct_failed_step_law

pub returns-clause-close : goal.returns-clause-close
returns-clause-close c = direct_close_calls_law

pub returns-clause-failed_close : goal.returns-clause-failed_close
returns-clause-failed_close c = direct_failed_close_law
