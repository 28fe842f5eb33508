use Rattle.place_model.proofs.KindLemmas.{journal_kind_law, bitmap_kind_law, direct_kind_law, placed_kind_law}
use Rattle.place_model.proofs.cut_is_left_of_the_device.Goals as goal

pub returns-clause-journal : goal.returns-clause-journal
returns-clause-journal c = journal_kind_law

pub returns-clause-bitmap : goal.returns-clause-bitmap
returns-clause-bitmap c = bitmap_kind_law

pub returns-clause-direct : goal.returns-clause-direct
returns-clause-direct c = direct_kind_law

pub returns-clause-placed : goal.returns-clause-placed
returns-clause-placed c = placed_kind_law
