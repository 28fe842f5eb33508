use Rattle.std.proofs.Common.{◌^◌, sym, arith}
use Rattle.image_model.proofs.GeometryLemmas.{IsGeometry-larger}
use Rattle.image_model.proofs.GeometryOf.{geometry_apart}
use Rattle.layout.specs.Layout.{as_geometry}
use Rattle.layout.proofs.geometry.Geometry.new.Goals as goal

pub invariant_of-result : goal.invariant_of-result
invariant_of-result c =
    let g = as_geometry c.in_ok-layout.layout in
    let told = sym c.in_ok-layout.ensures.told in
    let is = (geometry_apart c.args.fields.now c.args.disk_sectors g c.requires.fields told).0 in
    let low = is.device in
    record {
      numbers = c.in_ok-layout.ensures.is_layout;
      geometry = IsGeometry-larger g c.args.disk_sectors (2 ^ 48) is low (omega arith);
    }

pub returns-clause-geometry : goal.returns-clause-geometry
returns-clause-geometry c =
    let told = sym c.in_ok-layout.ensures.told in
    (geometry_apart c.args.fields.now c.args.disk_sectors _ c.requires.fields told).0

pub returns-clause-apart : goal.returns-clause-apart
returns-clause-apart c =
    let told = sym c.in_ok-layout.ensures.told in
    (geometry_apart c.args.fields.now c.args.disk_sectors _ c.requires.fields told).1
