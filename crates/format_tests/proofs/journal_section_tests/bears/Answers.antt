use Rattle.std.proofs.Common.{arith}
use Rattle.journal_section.proofs.ShapeLemmas.{sectors_few}
use Rattle.format_tests.proofs.journal_section_tests.bears.Goals as goal

pub number-requires-clause-sector : goal.number-requires-clause-sector
number-requires-clause-sector c =
    let few = sectors_few c.args.shape c.requires.shape in omega arith

pub id-requires-clause-sector : goal.id-requires-clause-sector
id-requires-clause-sector c =
    let few = sectors_few c.args.shape c.requires.shape in omega arith
