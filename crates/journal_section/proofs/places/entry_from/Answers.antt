use Rattle.std.proofs.Common.{arith}
use Rattle.commit_id.proofs.ShapeLemmas.{shape_holds}
use Rattle.journal_section.proofs.ShapeLemmas.{entry_in_sector}
use Rattle.journal_section.proofs.places.entry_from.Goals as goal

pub overflow_mul-result-2 : goal.overflow_mul-result-2
overflow_mul-result-2 c =
    let fits = entry_in_sector c.args.shape c.args.n c.requires.shape c.requires.n in omega arith

pub overflow_add-result : goal.overflow_add-result
overflow_add-result c =
    let fits = entry_in_sector c.args.shape c.args.n c.requires.shape c.requires.n in omega arith

pub returns-clause-fits : goal.returns-clause-fits
returns-clause-fits c =
    let fits = entry_in_sector c.args.shape c.args.n c.requires.shape c.requires.n in omega arith

pub returns-clause-fields : goal.returns-clause-fields
returns-clause-fields c =
    let holds = shape_holds c.args.shape c.requires.shape in
    let least = holds.2.entry_low in
    let size = c.requires.shape.entry in
    omega arith

pub returns-clause-spb : goal.returns-clause-spb
returns-clause-spb c = (shape_holds c.args.shape c.requires.shape).1
