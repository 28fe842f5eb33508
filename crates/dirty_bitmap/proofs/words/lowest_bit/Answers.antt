use Rattle.std.proofs.Common.{w64, arith}
use Rattle.std.proofs.lemmas.Nat.Bits.{bit_at-trailing_zeros}
use Rattle.dirty_bitmap.proofs.words.lowest_bit.Goals as goal

pub returns : goal.returns
returns c = bit_at-trailing_zeros w64 c.args.word (let differs = c.if-word-eq0.false in omega (arith, differs)) c.ranges.word.fits
