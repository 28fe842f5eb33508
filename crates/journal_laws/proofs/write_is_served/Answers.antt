use Rattle.journal_laws.proofs.EventLemmas.{no_room_law, serve_write_law, serve_flushed_law}
use Rattle.journal_laws.proofs.write_is_served.Goals as goal

pub returns-clause-no_room : goal.returns-clause-no_room
returns-clause-no_room c = no_room_law

pub returns-clause-put : goal.returns-clause-put
returns-clause-put c = serve_write_law

pub returns-clause-flushed : goal.returns-clause-flushed
returns-clause-flushed c = serve_flushed_law
