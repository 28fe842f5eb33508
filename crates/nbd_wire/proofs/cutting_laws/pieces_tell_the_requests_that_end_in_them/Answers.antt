use Rattle.nbd_wire.proofs.GroupLemmas.{group_law}
use Rattle.nbd_wire.proofs.cutting_laws.pieces_tell_the_requests_that_end_in_them.Goals as goal

pub returns : goal.returns
returns c = group_law
