use Rattle.device_model.proofs.MomentLemmas.{broken_law}
use Rattle.device_model.proofs.moment_laws.broken_devices_rest.Goals as goal

pub returns : goal.returns
returns c = broken_law
