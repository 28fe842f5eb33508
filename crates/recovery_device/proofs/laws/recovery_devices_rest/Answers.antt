use Rattle.recovery_device.proofs.EventLemmas.{rest_law}
use Rattle.recovery_device.proofs.laws.recovery_devices_rest.Goals as goal

pub returns : goal.returns
returns c = rest_law
