use Rattle.std.proofs.Common.{arith}
use Rattle.journal_section.proofs.ShapeLemmas.{parts_end, sectors_few}
use Rattle.journal_ring.proofs.pieces.data_in.Goals as goal

pub overflow_mul-from-2 : goal.overflow_mul-from-2
overflow_mul-from-2 c =
    let few = sectors_few c.args.shape c.requires.shape in
    let end = parts_end c.args.shape c.args.n c.requires.shape c.requires.n in
    omega arith

pub overflow_add-from : goal.overflow_add-from
overflow_add-from c =
    let few = sectors_few c.args.shape c.requires.shape in
    let end = parts_end c.args.shape c.args.n c.requires.shape c.requires.n in
    omega arith

pub overflow_add-result : goal.overflow_add-result
overflow_add-result c =
    let few = sectors_few c.args.shape c.requires.shape in
    let end = parts_end c.args.shape c.args.n c.requires.shape c.requires.n in
    omega arith

pub slice_bounds-result-end : goal.slice_bounds-result-end
slice_bounds-result-end c =
    let end = parts_end c.args.shape c.args.n c.requires.shape c.requires.n in
    let size = c.requires.section in
    omega arith
