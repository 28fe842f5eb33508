use Rattle.std.proofs.Common.{◌+◌, arith, sym, subst}
use Rattle.journal_model.specs.Ring.{HasFreeSection}
use Rattle.journal_ring.proofs.RingLemmas.{free_more, free_tells}
use Rattle.std.proofs.lemmas.Bool.{ltb-true, lt-ltb}
use Rattle.journal_ring.proofs.ring.Ring.has_free_section.Goals as goal

pub returns : goal.returns
returns c =
    let g = c.self.inside.pool.geometry in
    let bytes = c.self.inside.pool.bytes in
    let m = c.self.inside.marks in
    let sections = c.sections.ensures in (
      λ yes. subst HasFreeSection c.self.view_is (free_tells g bytes m (let low = ltb-true (m.committed + m.opened) c.sections.result yes in omega arith)),
      λ has. lt-ltb (m.committed + m.opened) c.sections.result (let low = free_more g bytes m (subst HasFreeSection (sym c.self.view_is) has) in omega arith),
    )
