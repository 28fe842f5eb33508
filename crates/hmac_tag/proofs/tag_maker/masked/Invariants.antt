use Rattle.std.proofs.Common.{◌≡◌, ◌++◌, map, take, drop, bit_xor}
use Rattle.hmac_tag.proofs.tag_maker.masked.Given as goal

abbrev pub invariant-loop-byte : goal.invariant-loop-byte
invariant-loop-byte l =
    l.byte-items ≡
    map (λ byte. bit_xor byte l.mask) (take l.byte-index l.fn.key) ++ drop l.byte-index l.fn.key
