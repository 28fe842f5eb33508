use Rattle.direct_device.proofs.EventLemmas.{rest_law}
use Rattle.direct_device.proofs.laws.direct_devices_rest.Goals as goal

pub returns : goal.returns
returns c = rest_law
