use Rattle.std.proofs.Common.{ℕ, ◌*◌, ◌∙◌, ap, length}
use Rattle.std.proofs.lemmas.List.{length-replicate}
use Rattle.image_resizing.proofs.room.GrowthRoom.new.Goals as goal

pub returns : goal.returns
returns c = record { zeros = c.in_ok-zeros.ensures; tags = ap length c.in_ok-tags.ensures ∙ length-replicate {A = ℕ} (512 * 512) 0 }
