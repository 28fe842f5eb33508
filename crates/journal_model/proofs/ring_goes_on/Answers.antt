use Rattle.journal_model.proofs.JournalRingLemmas.{ring_law, free_section_law}
use Rattle.journal_model.proofs.ring_goes_on.Goals as goal

pub returns-clause-committed : goal.returns-clause-committed
returns-clause-committed c = ring_law

pub returns-clause-room : goal.returns-clause-room
returns-clause-room c = free_section_law
