use Rattle.journal_ring.proofs.RoomLemmas.{freed_law, kept_law, none_law}
use Rattle.journal_ring.proofs.laws.sections_are_freed_in_order.Goals as goal

pub returns : goal.returns
returns c = record { freed = freed_law; kept = kept_law; none = none_law }
