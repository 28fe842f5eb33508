use Rattle.std.proofs.Common.{arith}
use Rattle.journal_section.proofs.ShapeLemmas.{sectors_few}
use Rattle.format_tests.proofs.journal_section_tests.section.Goals as goal

pub overflow_mul-shape : goal.overflow_mul-shape
overflow_mul-shape c =
    let few = sectors_few c.args.shape c.requires in omega arith
