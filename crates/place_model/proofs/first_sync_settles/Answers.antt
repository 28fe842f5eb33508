use Rattle.place_model.proofs.FirstSyncLemmas.{first_sync_law, opening_left_law, placed_sync_law, placed_opening_left_law}
use Rattle.place_model.proofs.first_sync_settles.Goals as goal

pub returns-clause-sync : goal.returns-clause-sync
returns-clause-sync c = first_sync_law

pub returns-clause-left : goal.returns-clause-left
returns-clause-left c = opening_left_law

pub returns-clause-placed : goal.returns-clause-placed
returns-clause-placed c = placed_sync_law

pub returns-clause-placed_left : goal.returns-clause-placed_left
returns-clause-placed_left c = placed_opening_left_law
