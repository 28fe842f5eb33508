use Rattle.recalculate_laws.proofs.PlacingLemmas.{placing_law, places_then_law, places_none_law, same_cells_law, places_one_law}
use Rattle.recalculate_laws.proofs.calls_keep_what_awaits.Goals as goal

pub returns-clause-placing : goal.returns-clause-placing
returns-clause-placing c = placing_law

pub returns-clause-then_ : goal.returns-clause-then_
returns-clause-then_ c = places_then_law

pub returns-clause-none : goal.returns-clause-none
returns-clause-none c = places_none_law

pub returns-clause-cells : goal.returns-clause-cells
returns-clause-cells c = same_cells_law

pub returns-clause-one : goal.returns-clause-one
returns-clause-one c = places_one_law
