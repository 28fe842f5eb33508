use Rattle.image_model.proofs.GeometryOf.{geometry_apart}
use Rattle.image_model.proofs.geometry_laws.parts_lie_apart.Goals as goal

pub returns : goal.returns
returns c = geometry_apart
