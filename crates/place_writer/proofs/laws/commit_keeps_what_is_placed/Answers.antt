use Rattle.place_writer.proofs.CommitLawsLemmas.{committed_cells_law, placed_commit_law}
use Rattle.place_writer.proofs.laws.commit_keeps_what_is_placed.Goals as goal

pub returns-clause-cells : goal.returns-clause-cells
returns-clause-cells c = committed_cells_law

pub returns-clause-placed : goal.returns-clause-placed
returns-clause-placed c = placed_commit_law
