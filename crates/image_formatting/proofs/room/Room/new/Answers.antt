use Rattle.std.proofs.Common.{ℕ, ◌*◌, ◌/◌, ◌∙◌, ap, arith, length}
use Rattle.std.proofs.lemmas.List.{length-replicate}
use Rattle.commit_id.proofs.ShapeLemmas.{shape_holds}
use Rattle.image_formatting.proofs.room.Room.new.Goals as goal

pub zeros_of-requires : goal.zeros_of-requires
zeros_of-requires c =
    let holds = (shape_holds c.args.shape c.requires.shape).2 in
    let few = holds.sectors_high in
    let sectors = c.requires.shape.sectors in
    record { sectors = omega (arith, few, sectors) }

pub returns : goal.returns
returns c = record {
  section = ap length c.in_ok-section.ensures ∙ length-replicate {A = ℕ} (512 * c.args.shape.sectors) 0 ∙ ap (λ (n : ℕ). 512 * n) c.requires.shape.sectors;
  runs = record { zeros = c.in_ok-zeros.ensures; tags = ap length c.in_ok-tags.ensures ∙ length-replicate {A = ℕ} (512 * (c.args.shape.tag * (512 / c.args.shape.tag))) 0 };
}
