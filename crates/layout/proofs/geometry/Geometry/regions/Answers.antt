use Rattle.std.proofs.Common.{◌^◌}
use Rattle.image_model.proofs.Regions.{blocks-low}
use Rattle.layout.specs.Layout.{as_geometry}
use Rattle.layout.proofs.geometry.Geometry.regions.Goals as goal

pub regions_for-requires : goal.regions_for-requires
regions_for-requires c =
    let h = c.self.invariant.geometry in
    record { blocks = (h.blocks, blocks-low (as_geometry c.self.inside.layout) (2 ^ 48) h) }
