use Rattle.hmac_tag.proofs.TagLemmas.{IsPadded-zeros}
use Rattle.hmac_tag.proofs.tag.Tag.from_bytes.Goals as goal

pub invariant_of-result : goal.invariant_of-result
invariant_of-result c = rw c.padded.ensures (IsPadded-zeros c.args.bytes.now c.requires.bytes.0 c.requires.bytes.1)
