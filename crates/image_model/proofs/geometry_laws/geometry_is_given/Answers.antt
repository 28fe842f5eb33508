use Rattle.image_model.proofs.GeometryOf.{geometry_given}
use Rattle.image_model.proofs.geometry_laws.geometry_is_given.Goals as goal

pub returns : goal.returns
returns c = geometry_given
