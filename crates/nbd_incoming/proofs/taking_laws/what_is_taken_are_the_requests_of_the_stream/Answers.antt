use Rattle.nbd_incoming.proofs.ReadLemmas.{ending_law, groups_law}
use Rattle.nbd_incoming.proofs.taking_laws.what_is_taken_are_the_requests_of_the_stream.Goals as goal

pub returns-clause-requests : goal.returns-clause-requests
returns-clause-requests c = groups_law

pub returns-clause-ending : goal.returns-clause-ending
returns-clause-ending c = ending_law
