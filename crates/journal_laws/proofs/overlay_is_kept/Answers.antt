use Rattle.journal_laws.proofs.OverlayLemmas.{overlay_begins, overlay_put, overlay_committed, overlay_settled, overlay_read_law, place_number_law}
use Rattle.journal_laws.proofs.overlay_is_kept.Goals as goal

pub returns-clause-begins : goal.returns-clause-begins
returns-clause-begins c = overlay_begins

pub returns-clause-put : goal.returns-clause-put
returns-clause-put c = overlay_put

pub returns-clause-committed : goal.returns-clause-committed
returns-clause-committed c = overlay_committed

pub returns-clause-settled : goal.returns-clause-settled
returns-clause-settled c = overlay_settled

pub returns-clause-read : goal.returns-clause-read
returns-clause-read c = overlay_read_law

pub returns-clause-number : goal.returns-clause-number
returns-clause-number c = place_number_law
