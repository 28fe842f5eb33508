use Rattle.device_model.proofs.MomentLemmas.{pending_law, within_law}
use Rattle.device_model.proofs.moment_laws.one_write_is_under_way.Goals as goal

pub returns-clause-between : goal.returns-clause-between
returns-clause-between c = pending_law

pub returns-clause-within : goal.returns-clause-within
returns-clause-within c = within_law
