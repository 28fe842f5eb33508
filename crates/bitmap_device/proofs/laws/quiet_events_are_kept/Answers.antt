use Rattle.bitmap_device.proofs.EventLemmas.{quiet_kept_law}
use Rattle.bitmap_device.proofs.laws.quiet_events_are_kept.Goals as goal

pub returns : goal.returns
returns c = quiet_kept_law
