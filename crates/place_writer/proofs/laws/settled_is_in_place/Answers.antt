use Rattle.place_writer.proofs.PlacingLawsLemmas.{settled_cells_law}
use Rattle.place_writer.proofs.laws.settled_is_in_place.Goals as goal

pub returns : goal.returns
returns c = settled_cells_law
