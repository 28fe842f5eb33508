use Rattle.recalculation.proofs.AllLemmas.{recovered_cells_law, recovered_changes_law}
use Rattle.recalculation.proofs.laws.recovered_regions_are_recalculated.Goals as goal

pub returns-clause-cells : goal.returns-clause-cells
returns-clause-cells c = recovered_cells_law

pub returns-clause-changes : goal.returns-clause-changes
returns-clause-changes c = recovered_changes_law
