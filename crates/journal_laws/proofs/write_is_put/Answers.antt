use Rattle.journal_laws.proofs.PutLemmas.{has_room_law, put_law}
use Rattle.journal_laws.proofs.write_is_put.Goals as goal

pub returns-clause-room : goal.returns-clause-room
returns-clause-room c = has_room_law

pub returns-clause-put : goal.returns-clause-put
returns-clause-put c = put_law
