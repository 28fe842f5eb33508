use Rattle.image_model.proofs.SuperblockLemmas.{superblock_told}
use Rattle.image_model.proofs.superblock_laws.superblock_is_told.Goals as goal

pub returns : goal.returns
returns c = superblock_told
