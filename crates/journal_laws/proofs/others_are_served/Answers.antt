use Rattle.journal_laws.proofs.EventLemmas.{serve_flush_law, serve_read_law}
use Rattle.journal_laws.proofs.others_are_served.Goals as goal

pub returns-clause-flush : goal.returns-clause-flush
returns-clause-flush c = serve_flush_law

pub returns-clause-read : goal.returns-clause-read
returns-clause-read c = serve_read_law
