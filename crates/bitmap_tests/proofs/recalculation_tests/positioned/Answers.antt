use Rattle.std.proofs.Common.{◌^◌, ◌*◌, ◌-◌, ◌/◌, ◌==◌, ap, not, ℕ, if◌then◌else◌}
use Rattle.image_model.specs.Geometry.{Geometry, round_up, tag_run_of}
use Rattle.bitmap_tests.proofs.recalculation_tests.positioned.Goals as goal

-- The sectors of tags follow from one flag.
pub returns-clause-layout : goal.returns-clause-layout
unfolding tag_run_of
returns-clause-layout c =
    let s = c.args.fields.now in
    ap (λ (n : ℕ). let g : Geometry = record {
      shape = record { spb = 2 ^ s.log2_spb; tag_size = s.tag_size };
      sections = s.sections;
      interleave = 2 ^ s.log2_interleave;
      tag_run = round_up (2 ^ (s.log2_interleave - s.log2_spb) * s.tag_size) (if not (n == 0) then 4096 else 131072) / 512;
      blocks = s.provided / 2 ^ s.log2_spb;
      log2_region = s.log2_region;
    } in g) c.if-flags-fields.false
