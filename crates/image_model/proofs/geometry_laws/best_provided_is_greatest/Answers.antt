use Rattle.image_model.proofs.BestProvided.{best_provided_is, none_provided}
use Rattle.image_model.proofs.geometry_laws.best_provided_is_greatest.Goals as goal

pub returns-clause-best : goal.returns-clause-best
returns-clause-best c = best_provided_is

pub returns-clause-none : goal.returns-clause-none
returns-clause-none c = none_provided
