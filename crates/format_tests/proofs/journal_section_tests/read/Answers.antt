use Rattle.std.proofs.Common.{arith}
use Rattle.journal_section.proofs.ShapeLemmas.{parts_end, sectors_few}
use Rattle.format_tests.proofs.journal_section_tests.read.Goals as goal

pub overflow_mul-from : goal.overflow_mul-from
overflow_mul-from c =
    let few = sectors_few c.args.shape c.requires.shape in
    let end = parts_end c.args.shape c.args.n c.requires.shape c.if-n-shape.false in
    omega arith

pub split_at-requires : goal.split_at-requires
split_at-requires c =
    let end = parts_end c.args.shape c.args.n c.requires.shape c.if-n-shape.false in
    let bytes = c.requires.bytes in
    omega arith

pub overflow_add-from : goal.overflow_add-from
overflow_add-from c =
    let few = sectors_few c.args.shape c.requires.shape in
    let end = parts_end c.args.shape c.args.n c.requires.shape c.if-n-shape.false in
    omega arith

pub slice_bounds-block_bytes-end : goal.slice_bounds-block_bytes-end
slice_bounds-block_bytes-end c =
    let end = parts_end c.args.shape c.args.n c.requires.shape c.if-n-shape.false in
    let bytes = c.requires.bytes in
    omega arith
