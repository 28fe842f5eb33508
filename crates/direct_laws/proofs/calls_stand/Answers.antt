use Rattle.direct_laws.proofs.CallLemmas.{still_law, through_law, data_law, data_done_law, put_law, put_done_law, back_law, back_done_law, sync_law, sync_done_law}
use Rattle.direct_laws.proofs.calls_stand.Goals as goal

pub returns-clause-still : goal.returns-clause-still
returns-clause-still c = still_law

pub returns-clause-through : goal.returns-clause-through
returns-clause-through c = through_law

pub returns-clause-data_ : goal.returns-clause-data_
returns-clause-data_ c = data_law

pub returns-clause-data_done : goal.returns-clause-data_done
returns-clause-data_done c = data_done_law

pub returns-clause-put : goal.returns-clause-put
returns-clause-put c = put_law

pub returns-clause-put_done : goal.returns-clause-put_done
returns-clause-put_done c = put_done_law

pub returns-clause-back : goal.returns-clause-back
returns-clause-back c = back_law

pub returns-clause-back_done : goal.returns-clause-back_done
returns-clause-back_done c = back_done_law

pub returns-clause-sync : goal.returns-clause-sync
returns-clause-sync c = sync_law

pub returns-clause-sync_done : goal.returns-clause-sync_done
returns-clause-sync_done c = sync_done_law
