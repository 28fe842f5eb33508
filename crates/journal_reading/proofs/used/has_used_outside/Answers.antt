use Rattle.std.proofs.Common.{arith}
use Rattle.commit_id.proofs.ShapeLemmas.{shape_holds}
use Rattle.journal_reading.proofs.used.has_used_outside.Goals as goal

pub nonzero_rem-has_entries : goal.nonzero_rem-has_entries
nonzero_rem-has_entries c =
    let has = (shape_holds c.args.shape c.requires.shape).2 in
    let some = has.sectors_low in
    let sectors = c.requires.shape.sectors in
    omega arith
