use Rattle.journal_model.proofs.KeepsLemmas.{keeps_committed, keeps_tag_sectors, keeps_placed, keeps_back, keeps_settled, placed_read_law}
use Rattle.journal_model.proofs.steps_read_right.Goals as goal

pub returns-clause-committed : goal.returns-clause-committed
returns-clause-committed c = keeps_committed

pub returns-clause-tag_sectors : goal.returns-clause-tag_sectors
returns-clause-tag_sectors c = keeps_tag_sectors

pub returns-clause-placed : goal.returns-clause-placed
returns-clause-placed c = keeps_placed

pub returns-clause-back : goal.returns-clause-back
returns-clause-back c = keeps_back

pub returns-clause-settled : goal.returns-clause-settled
returns-clause-settled c = keeps_settled

pub returns-clause-read : goal.returns-clause-read
returns-clause-read c = placed_read_law
