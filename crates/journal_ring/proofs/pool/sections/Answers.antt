use Rattle.std.proofs.Common.{arith}
use Rattle.journal_section.proofs.ShapeLemmas.{sectors_few}
use Rattle.journal_ring.proofs.pool.sections.Goals as goal

pub overflow_mul-size : goal.overflow_mul-size
overflow_mul-size c =
    let few = sectors_few c.args.shape c.requires.shape in
    omega arith
