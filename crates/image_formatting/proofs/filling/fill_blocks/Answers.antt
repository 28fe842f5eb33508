use Rattle.formatting_model.proofs.StaysLemmas.{keep_none}
use Rattle.image_formatting.proofs.filling.fill_blocks.Goals as goal

pub returns-in-Wiped-clause-moments : goal.returns-in-Wiped-clause-moments
returns-in-Wiped-clause-moments g c = rw c.in-Wiped.is c.wipe_blocks.ensures.moments

pub returns-in-Kept-clause-filled : goal.returns-in-Kept-clause-filled
returns-in-Kept-clause-filled g c content told = rw c.in-Kept.is tt

pub returns-in-Kept-clause-stays : goal.returns-in-Kept-clause-stays
returns-in-Kept-clause-stays g c = keep_none _ _

pub returns-in-Recalculated-clause-filled : goal.returns-in-Recalculated-clause-filled
returns-in-Recalculated-clause-filled g c content told = rw c.in-Recalculated.is tt

pub returns-in-Recalculated-clause-stays : goal.returns-in-Recalculated-clause-stays
returns-in-Recalculated-clause-stays g c = keep_none _ _

pub returns-in-Wiped-clause-stays : goal.returns-in-Wiped-clause-stays
returns-in-Wiped-clause-stays g c = rw c.in-Wiped.is c.wipe_blocks.ensures.stays

pub returns-in-Wiped-clause-writes : goal.returns-in-Wiped-clause-writes
returns-in-Wiped-clause-writes g c = rw c.in-Wiped.is c.wipe_blocks.ensures.writes
