use Rattle.place_model.proofs.LeftLemmas.{direct_pending_law, placed_pending_law, journal_pending_law, bitmap_pending_law}
use Rattle.place_model.proofs.pending_write_leaves_all.Goals as goal

pub returns-clause-direct : goal.returns-clause-direct
returns-clause-direct c = direct_pending_law

pub returns-clause-journal : goal.returns-clause-journal
returns-clause-journal c = journal_pending_law

pub returns-clause-bitmap : goal.returns-clause-bitmap
returns-clause-bitmap c = bitmap_pending_law

pub returns-clause-placed : goal.returns-clause-placed
returns-clause-placed c = placed_pending_law
