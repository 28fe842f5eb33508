use Rattle.device_model.proofs.MomentLemmas.{quiet_law}
use Rattle.device_model.proofs.moment_laws.serves_alone_write.Goals as goal

pub returns : goal.returns
returns c = quiet_law
