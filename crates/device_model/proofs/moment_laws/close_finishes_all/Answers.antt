use Rattle.device_model.proofs.ClosingLemmas.{close_law}
use Rattle.device_model.proofs.moment_laws.close_finishes_all.Goals as goal

pub returns : goal.returns
returns c = close_law
