use Rattle.resize_model.proofs.WrittenLemmas.{beside_old_law, ungrown_writes_law, ungrown_bitmap_law, head_bytes_law, growing_left_law, telling_left_law}
use Rattle.resize_model.proofs.writes_are_told.Goals as goal

pub returns-clause-beside : goal.returns-clause-beside
returns-clause-beside c = beside_old_law

pub returns-clause-ungrown : goal.returns-clause-ungrown
returns-clause-ungrown c = ungrown_writes_law

pub returns-clause-bitmap : goal.returns-clause-bitmap
returns-clause-bitmap c = ungrown_bitmap_law

pub returns-clause-head : goal.returns-clause-head
returns-clause-head c = head_bytes_law

pub returns-clause-growing : goal.returns-clause-growing
returns-clause-growing c = growing_left_law

pub returns-clause-telling : goal.returns-clause-telling
returns-clause-telling c = telling_left_law
