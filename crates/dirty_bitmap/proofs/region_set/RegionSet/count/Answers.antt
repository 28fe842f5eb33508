use Rattle.std.proofs.Common.{◌∙◌}
use Rattle.dirty_bitmap.proofs.SetLemmas.{count_shown}
use Rattle.dirty_bitmap.proofs.region_set.RegionSet.count.Goals as goal

pub returns : goal.returns
returns c =
    let s = c.self.inside in
    c.count_bits.ensures ∙ count_shown c.args.self.now s.size s.bytes.items c.as_slice.result.now c.self.invariant c.self.view_is c.as_slice.ensures.value
