use Rattle.journal_ring.proofs.RoomLemmas.{room_again_law}
use Rattle.journal_ring.proofs.laws.room_comes_again.Goals as goal

pub returns : goal.returns
returns c = room_again_law
