use Rattle.direct_laws.proofs.ReadLemmas.{keeps_begun, keeps_placed, keeps_opened, keeps_write, keeps_synced, keeps_back, keeps_flushed, keeps_same, keeps_recalculated, keeps_moved}
use Rattle.direct_laws.proofs.cells_are_kept.Goals as goal

pub returns-clause-begins : goal.returns-clause-begins
returns-clause-begins c = keeps_begun

pub returns-clause-placed : goal.returns-clause-placed
returns-clause-placed c = keeps_placed

pub returns-clause-opened : goal.returns-clause-opened
returns-clause-opened c = keeps_opened

pub returns-clause-write : goal.returns-clause-write
returns-clause-write c = keeps_write

pub returns-clause-synced : goal.returns-clause-synced
returns-clause-synced c = keeps_synced

pub returns-clause-back : goal.returns-clause-back
returns-clause-back c = keeps_back

pub returns-clause-flushed : goal.returns-clause-flushed
returns-clause-flushed c = keeps_flushed

pub returns-clause-same : goal.returns-clause-same
returns-clause-same c = keeps_same

pub returns-clause-recalculated : goal.returns-clause-recalculated
returns-clause-recalculated c = keeps_recalculated

pub returns-clause-moved : goal.returns-clause-moved
returns-clause-moved c = keeps_moved
