use Rattle.std.proofs.Common.{◌∙◌, sym}
use Rattle.dirty_bitmap.proofs.SetLemmas.{next_shown}
use Rattle.dirty_bitmap.proofs.region_set.RegionSet.next.Goals as goal

pub returns-in-Some : goal.returns-in-Some
returns-in-Some c =
    let s = c.self.inside in
    sym c.in-Some.is ∙ c.next_bit.ensures ∙ next_shown c.args.self.now s.size s.bytes.items c.as_slice.result.now c.args.from c.self.invariant c.self.view_is c.as_slice.ensures.value

pub returns-in-None : goal.returns-in-None
returns-in-None c =
    let s = c.self.inside in
    sym c.in-None.is ∙ c.next_bit.ensures ∙ next_shown c.args.self.now s.size s.bytes.items c.as_slice.result.now c.args.from c.self.invariant c.self.view_is c.as_slice.ensures.value
