use Rattle.recovery_device.proofs.EventLemmas.{end_law}
use Rattle.recovery_device.proofs.laws.recovery_devices_end.Goals as goal

pub returns : goal.returns
returns c = end_law
