use Rattle.image_model.specs.Tag.{tag_of}
use Rattle.hmac_tag.proofs.tag_maker.TagMaker.tag.Goals as goal

pub returns : goal.returns
unfolding tag_of
returns c = rw (c.from_bytes.ensures, c.digest-digest.ensures, ← c.self.view_is)
