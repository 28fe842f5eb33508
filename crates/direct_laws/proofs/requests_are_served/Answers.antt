use Rattle.direct_laws.proofs.EventLemmas.{served_law, unserved_law, held_law, serve_read_law, serve_write_law, serve_flush_law, close_law}
use Rattle.direct_laws.proofs.requests_are_served.Goals as goal

pub returns-clause-unserved : goal.returns-clause-unserved
returns-clause-unserved c = unserved_law

pub returns-clause-held : goal.returns-clause-held
returns-clause-held c = held_law

pub returns-clause-read : goal.returns-clause-read
returns-clause-read c = serve_read_law

pub returns-clause-write : goal.returns-clause-write
returns-clause-write c = serve_write_law

pub returns-clause-flush : goal.returns-clause-flush
returns-clause-flush c = serve_flush_law

pub returns-clause-close : goal.returns-clause-close
returns-clause-close c = close_law

pub returns-clause-served : goal.returns-clause-served
returns-clause-served c = served_law
