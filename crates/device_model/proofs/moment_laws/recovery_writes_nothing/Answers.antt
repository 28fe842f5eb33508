use Rattle.device_model.proofs.ClosingLemmas.{recovery_law}
use Rattle.device_model.proofs.moment_laws.recovery_writes_nothing.Goals as goal

pub returns : goal.returns
returns c = recovery_law
