use Rattle.recalculate_laws.proofs.MomentLemmas.{step_rest_law}
use Rattle.recalculate_laws.proofs.steps_keep_the_rest.Goals as goal

pub returns : goal.returns
returns c = step_rest_law
