use Rattle.std.proofs.Common.{◌∙◌, arith}
use Rattle.std.proofs.lemmas.List.{length-set}
use Rattle.formatting_model.proofs.BitsLemmas.{byte_put}
use Rattle.image_formatting.proofs.marking.put_bits.Goals as goal

pub loop-i-preserved : goal.loop-i-preserved
loop-i-preserved c = record {
  bits = byte_put c.args.set c.args.from c.loop-i.i c.bits_byte.result c.loop-i.bytes (omega (arith, c.loop-i-test.true, c.loop-i.invariant.len)) c.bits_byte.ensures c.loop-i.invariant.bits;
  len = length-set c.loop-i.bytes c.loop-i.i c.bits_byte.result ∙ c.loop-i.invariant.len;
}
