use Rattle.journal_laws.proofs.EventLemmas.{quiet_law, quiet_events_law, close_law}
use Rattle.journal_laws.proofs.others_are_quiet.Goals as goal

pub returns-clause-quiet : goal.returns-clause-quiet
returns-clause-quiet c = quiet_law

pub returns-clause-events : goal.returns-clause-events
returns-clause-events c = quiet_events_law

pub returns-clause-close : goal.returns-clause-close
returns-clause-close c = close_law
