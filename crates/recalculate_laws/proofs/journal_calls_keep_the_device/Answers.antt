use Rattle.recalculate_laws.proofs.JournalEventsLemmas.{cut_left_law, kept_left_law, step_calls_law, failed_step_law, kept_device_law, failed_read_law, read_calls_law, close_calls_law, failed_close_law, closed_cells_law}
use Rattle.recalculate_laws.proofs.journal_calls_keep_the_device.Goals as goal

pub returns-clause-left : goal.returns-clause-left
returns-clause-left c = cut_left_law

pub returns-clause-now : goal.returns-clause-now
returns-clause-now c = kept_left_law

pub returns-clause-step : goal.returns-clause-step
returns-clause-step c = step_calls_law

pub returns-clause-failed : goal.returns-clause-failed
returns-clause-failed c = failed_step_law

pub returns-clause-kept : goal.returns-clause-kept
returns-clause-kept c = kept_device_law

pub returns-clause-failed_read : goal.returns-clause-failed_read
returns-clause-failed_read c = failed_read_law

pub returns-clause-read : goal.returns-clause-read
returns-clause-read c = read_calls_law

pub returns-clause-close : goal.returns-clause-close
returns-clause-close c = close_calls_law

pub returns-clause-failed_close : goal.returns-clause-failed_close
returns-clause-failed_close c = failed_close_law

pub returns-clause-closed : goal.returns-clause-closed
returns-clause-closed c = closed_cells_law
