use Rattle.std.proofs.Common.{sym}
use Rattle.image_model.proofs.GeometryOf.{geometry_given}
use Rattle.bitmap_tests.proofs.places.geometry_on.Goals as goal

pub returns-clause-layout : goal.returns-clause-layout
returns-clause-layout g c = ((geometry_given c.args.fields.now c.sectors.result c.in_ok-geometry.geometry).0 (sym c.in_ok-geometry.ensures.told)).0
