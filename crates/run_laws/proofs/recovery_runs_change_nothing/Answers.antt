use Rattle.run_laws.proofs.RecoveryLemmas.{recovery_run_law}
use Rattle.run_laws.proofs.recovery_runs_change_nothing.Goals as goal

pub returns : goal.returns
returns c = recovery_run_law
