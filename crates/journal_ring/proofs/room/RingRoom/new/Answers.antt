use Rattle.std.proofs.Common.{arith}
use Rattle.commit_id.proofs.ShapeLemmas.{shape_holds}
use Rattle.journal_ring.proofs.room.RingRoom.new.Goals as goal

pub overflow_add-runs : goal.overflow_add-runs
overflow_add-runs c =
    let holds = (shape_holds c.shape-shape.result c.shape-shape.ensures.is_shape).2 in
    let few = holds.per_sector_high in
    let all = holds.entries_is in
    let count = c.shape-shape.ensures.is_shape.entries in
    omega arith
