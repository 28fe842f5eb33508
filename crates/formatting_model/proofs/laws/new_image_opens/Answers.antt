use Rattle.formatting_model.proofs.FormattedLawsLemmas.{new_awaits_law, new_bitmap_law, new_cells_law, new_kept_law, new_opens_law}
use Rattle.formatting_model.proofs.laws.new_image_opens.Goals as goal

pub returns-clause-opens : goal.returns-clause-opens
returns-clause-opens c = new_opens_law

pub returns-clause-bitmap : goal.returns-clause-bitmap
returns-clause-bitmap c = new_bitmap_law

pub returns-clause-cells : goal.returns-clause-cells
returns-clause-cells c = new_cells_law

pub returns-clause-kept : goal.returns-clause-kept
returns-clause-kept c = new_kept_law

pub returns-clause-awaits : goal.returns-clause-awaits
returns-clause-awaits c = new_awaits_law
