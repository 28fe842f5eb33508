use Rattle.std.proofs.Common.{◌*◌, ◌/◌, ◌%◌, ◌^◌, min, ap, sym, ◌∙◌, ℕ}
use Rattle.image_model.specs.Geometry.{Geometry}
use Rattle.recalculation.proofs.PlacesLemmas.{area_power, region_power}
use Rattle.recalculation.proofs.places.Places.of.Goals as goal

pub returns-clause-places : goal.returns-clause-places
returns-clause-places c =
    let is = c.requires.geometry in
    record {
      on_disk = c.blocks-2.ensures.geometry;
      blocks = c.blocks-2.ensures.blocks;
      of_area = area_power c.args.fields.now c.requires.fields ∙ ap (λ (g : Geometry). g.interleave / g.shape.spb) (sym is);
      of_region = ap (λ (n : ℕ). 1 * 2 ^ n % 2 ^ 64) (c.min.ensures ∙ ap (λ (g : Geometry). min g.log2_region 48) (sym is)) ∙ region_power c.args.geometry.log2_region;
    }
