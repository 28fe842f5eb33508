use Rattle.std.proofs.Common.{ap, ◌∙◌, ℕ, List}
use Rattle.image_model.specs.Bitmap.{is_bit_set}
use Rattle.dirty_bitmap.proofs.WordLemmas.{is_bit_set-zeros}
use Rattle.dirty_bitmap.proofs.region_set.zero_bitmap.Goals as goal

pub returns-clause-clear : goal.returns-clause-clear
returns-clause-clear c region = ap (λ (xs : List ℕ). is_bit_set xs region) (c.in_ok-bytes.ensures.items_if_clones_equal (λ y e. e)) ∙ is_bit_set-zeros _ region
