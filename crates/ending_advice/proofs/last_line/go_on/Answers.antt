use Rattle.ending_advice.proofs.LineLemmas.{goes_on}
use Rattle.ending_advice.proofs.last_line.go_on.Goals as goal

pub returns : goal.returns
returns c =
    goes_on c.args.line.now.items c.args.bytes.now c.try_extend_from_slice.new.self.items _ c.remaining_capacity.result c.min-count.result c.remaining_capacity.ensures c.min-count.ensures
    c.try_extend_from_slice.result
    c.try_extend_from_slice.ensures.variant c.try_extend_from_slice.ensures.ok
