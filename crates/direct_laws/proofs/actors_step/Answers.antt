use Rattle.direct_laws.proofs.EventLemmas.{recalc_law, idle_law, recalc_idle_law}
use Rattle.direct_laws.proofs.actors_step.Goals as goal

pub returns-clause-others : goal.returns-clause-others
returns-clause-others c = idle_law

pub returns-clause-none : goal.returns-clause-none
returns-clause-none c = recalc_idle_law

pub returns-clause-recalc : goal.returns-clause-recalc
returns-clause-recalc c = recalc_law
