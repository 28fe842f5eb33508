use Rattle.recalculation.proofs.AllWithBitmapLemmas.{bitmap_cells_law, bitmap_recalculated_law, opened_with_bitmap_law}
use Rattle.recalculation.proofs.laws.bitmap_regions_are_recalculated.Goals as goal

pub returns-clause-awaiting : goal.returns-clause-awaiting
returns-clause-awaiting c = opened_with_bitmap_law

pub returns-clause-cells : goal.returns-clause-cells
returns-clause-cells c = bitmap_cells_law

pub returns-clause-recalculated : goal.returns-clause-recalculated
returns-clause-recalculated c = bitmap_recalculated_law
