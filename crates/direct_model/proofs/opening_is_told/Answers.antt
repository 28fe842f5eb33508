use Rattle.direct_model.proofs.OpeningLemmas.{placed_opened_law, placed_sync_law, same_disk_law, opened_law, first_sync_law}
use Rattle.direct_model.proofs.opening_is_told.Goals as goal

pub returns-clause-placed : goal.returns-clause-placed
returns-clause-placed c = placed_opened_law

pub returns-clause-placed_sync : goal.returns-clause-placed_sync
returns-clause-placed_sync c = placed_sync_law

pub returns-clause-same : goal.returns-clause-same
returns-clause-same c = same_disk_law

pub returns-clause-opened : goal.returns-clause-opened
returns-clause-opened c = opened_law

pub returns-clause-first_sync : goal.returns-clause-first_sync
returns-clause-first_sync c = first_sync_law
