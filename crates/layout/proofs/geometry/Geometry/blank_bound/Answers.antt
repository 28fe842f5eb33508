use Rattle.std.proofs.Common.{◌^◌}
use Rattle.image_model.proofs.Regions.{blocks-low}
use Rattle.layout.specs.Layout.{as_geometry}
use Rattle.layout.proofs.geometry.Geometry.blank_bound.Goals as goal

pub bitmap_sectors_for-requires : goal.bitmap_sectors_for-requires
bitmap_sectors_for-requires c =
    let h = c.self.invariant.geometry in
    record { blocks = (h.blocks, blocks-low (as_geometry c.self.inside.layout) (2 ^ 48) h) }
