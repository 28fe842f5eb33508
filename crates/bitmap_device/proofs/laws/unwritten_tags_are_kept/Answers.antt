use Rattle.bitmap_device.proofs.TagLemmas.{kept_tags_law}
use Rattle.bitmap_device.proofs.laws.unwritten_tags_are_kept.Goals as goal

pub returns : goal.returns
returns c = kept_tags_law
