use Rattle.recalculate_laws.proofs.AwaitsLemmas.{awaiting_stays_law, awaiting_served_law, work_less_law, work_stays_law, moved_same_law, awaiting_same_law}
use Rattle.recalculate_laws.proofs.what_awaits_grows_less.Goals as goal

pub returns-clause-stays : goal.returns-clause-stays
returns-clause-stays c = awaiting_stays_law

pub returns-clause-served : goal.returns-clause-served
returns-clause-served c = awaiting_served_law

pub returns-clause-less : goal.returns-clause-less
returns-clause-less c = work_less_law

pub returns-clause-moved : goal.returns-clause-moved
returns-clause-moved c = work_stays_law

pub returns-clause-fields : goal.returns-clause-fields
returns-clause-fields c = moved_same_law

pub returns-clause-same : goal.returns-clause-same
returns-clause-same c = awaiting_same_law
