-- How large the places of a block are.
use Rattle.std.proofs.Common.{ℕ, ◌+◌, ◌*◌, ◌/◌, ◌^◌, ◌<◌, ◌≤◌, arith}
use Rattle.std.proofs.lemmas.Nat.{mul-le}
use Rattle.image_model.specs.Geometry.{area_at, data_at, sector_at, tag_at, tag_offset}
use Rattle.image_model.proofs.GeometryLemmas.{data_at-inside, tag_at-inside}
use Rattle.image_model.proofs.Regions.{blocks-low}
use Rattle.layout.specs.declared.layout.Layout.{Layout}
use Rattle.layout.specs.Layout.{as_geometry, FitsADisk}

-- The first sector of a block, the sector of its data and that of its tag can be told in 64 bits.
pub record HasPlace (layout : Layout) (block : ℕ) : Type 0 where
  pub first : block * layout.shape.spb < 2 ^ 52
  pub sector : sector_at (as_geometry layout) (block * layout.shape.spb) < 2 ^ 48
  pub tag : area_at (as_geometry layout) (block * layout.shape.spb / layout.interleave)
      + tag_offset (as_geometry layout) block / 512 < 2 ^ 48

pub has_place : (layout : Layout) (block : ℕ) → FitsADisk layout → block < layout.blocks → HasPlace layout block
unfolding data_at tag_at
has_place layout block fits inside =
    let g = as_geometry layout in
    let h = fits.geometry in
    let spb = h.spb in
    let blocks = blocks-low g (2 ^ 48) h in
    let low : block ≤ 2 ^ 48 = omega arith in
    let first : block * layout.shape.spb ≤ 2 ^ 48 * 8 = mul-le _ _ _ _ low spb.1 in
    let sector = data_at-inside g (2 ^ 48) block h inside in
    let tag = tag_at-inside g (2 ^ 48) block h inside in
    record { first = omega arith; sector = omega arith; tag = omega arith }
