use Rattle.std.proofs.Common.{refl}
use Rattle.commit_id.proofs.ShapeLemmas.{is_shape}
use Rattle.commit_id.proofs.shape.Shape.of.Goals as goal

pub returns-clause-is_shape : goal.returns-clause-is_shape
returns-clause-is_shape c =
    let size = c.next_multiple_of-entry.ensures in
    is_shape c.args.log2_spb c.args.tag_size _ c.next_multiple_of-entry.result c.requires.log2_spb c.requires.tag_size refl
    size.lower_bound size.upper_bound size.multiple
