use Rattle.std.proofs.Common.{bit_xor, slice_index, arith}
use Rattle.std.proofs.lemmas.List.Edits.{map_over_more}
use Rattle.std.proofs.lemmas.List.{get_or_default}
use Rattle.hmac_tag.proofs.tag_maker.masked.Goals as goal

pub loop-byte-preserved : goal.loop-byte-preserved
loop-byte-preserved c =
    map_over_more (λ byte. bit_xor byte c.args.mask) c.args.key c.loop-byte.byte-items c.loop-byte.byte-index
    (slice_index c.loop-byte.byte-items c.loop-byte.byte-index) (omega arith) c.loop-byte.invariant
    (get_or_default c.loop-byte.byte-items c.loop-byte.byte-index 0 _ (omega arith))
