use Rattle.place_model.proofs.ReplayLemmas.{placed_cells_law, placed_opens_law, placed_left_law, same_journal_law, same_opening_law, same_left_law}
use Rattle.place_model.proofs.placed_cells_are_cells.Goals as goal

pub returns-clause-cells : goal.returns-clause-cells
returns-clause-cells c = placed_cells_law

pub returns-clause-opens : goal.returns-clause-opens
returns-clause-opens c = placed_opens_law

pub returns-clause-left : goal.returns-clause-left
returns-clause-left c = placed_left_law

pub returns-clause-same : goal.returns-clause-same
returns-clause-same c = same_journal_law

pub returns-clause-opening : goal.returns-clause-opening
returns-clause-opening c = same_opening_law

pub returns-clause-same_left : goal.returns-clause-same_left
returns-clause-same_left c = same_left_law
