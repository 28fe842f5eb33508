use Rattle.image_model.proofs.GridLemmas.{grid_law}
use Rattle.image_model.proofs.walk_laws.grid_is_of_the_image.Goals as goal

pub returns : goal.returns
returns c = grid_law
