use Rattle.std.proofs.Common.{◌≡◌, ◌^◌, subst, arith}
use Rattle.image_model.specs.Geometry.{fitting_log2_region}
use Rattle.image_model.proofs.Regions.{blocks-low, journal_sectors-some, IsFitting-same}
use Rattle.layout.specs.Layout.{as_geometry}
use Rattle.layout.proofs.geometry.Geometry.fitting_log2_region.Goals as goal

pub fitting_log2_region-requires-clause-blocks : goal.fitting_log2_region-requires-clause-blocks
fitting_log2_region-requires-clause-blocks c =
    let h = c.self.invariant.geometry in
    (h.blocks, blocks-low (as_geometry c.self.inside.layout) (2 ^ 48) h)

pub fitting_log2_region-requires-clause-sectors : goal.fitting_log2_region-requires-clause-sectors
fitting_log2_region-requires-clause-sectors c =
    let h = c.self.invariant.geometry in
    omega (arith, journal_sectors-some (as_geometry c.self.inside.layout) (2 ^ 48) h)

pub returns-clause-log2_region : goal.returns-clause-log2_region
returns-clause-log2_region c =
    let g = as_geometry c.self.inside.layout in
    let found = c.fitting_log2_region in
    let journal = c.journal_sectors-journal.ensures in
    let fits = found.ensures.fits in
    subst (λ g. found.result ≡ fitting_log2_region g) c.self.view_is
    (IsFitting-same g (2 ^ 48) found.result c.self.invariant.geometry (record {
      not_below = found.ensures.not_below;
      fits = omega arith;
      least = λ k from short. found.ensures.least k from (omega arith);
    }))
