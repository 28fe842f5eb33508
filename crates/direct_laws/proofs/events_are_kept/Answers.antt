use Rattle.direct_laws.proofs.DeviceLemmas.{event_law}
use Rattle.direct_laws.proofs.EventLemmas.{quiet_law, quiet_events_law}
use Rattle.direct_laws.proofs.events_are_kept.Goals as goal

pub returns-clause-changes : goal.returns-clause-changes
returns-clause-changes c = event_law

pub returns-clause-none : goal.returns-clause-none
returns-clause-none c = quiet_law

pub returns-clause-quiet : goal.returns-clause-quiet
returns-clause-quiet c = quiet_events_law
