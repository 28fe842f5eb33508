use Rattle.recovery_device.proofs.EventLemmas.{quiet_law}
use Rattle.recovery_device.proofs.laws.quiet_events_are_kept.Goals as goal

pub returns : goal.returns
returns c = quiet_law
