use Rattle.std.proofs.Common.{arith}
use Rattle.journal_section.proofs.ShapeLemmas.{parts_end, sectors_few}
use Rattle.journal_reading.proofs.entries.parts_of.Goals as goal

pub overflow_mul-from-2 : goal.overflow_mul-from-2
overflow_mul-from-2 c = omega (arith, parts_end c.args.shape c.args.n c.requires.shape c.requires.n, sectors_few c.args.shape c.requires.shape)

pub overflow_add-from : goal.overflow_add-from
overflow_add-from c = omega (arith, parts_end c.args.shape c.args.n c.requires.shape c.requires.n, sectors_few c.args.shape c.requires.shape)

pub overflow_add-result : goal.overflow_add-result
overflow_add-result c = omega (arith, parts_end c.args.shape c.args.n c.requires.shape c.requires.n, sectors_few c.args.shape c.requires.shape)

pub slice_bounds-result-end : goal.slice_bounds-result-end
slice_bounds-result-end c = omega (arith, parts_end c.args.shape c.args.n c.requires.shape c.requires.n, c.requires.section)
