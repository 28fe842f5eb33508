use Rattle.mirror_core.proofs.ImageLemmas.{flush_image_law, level_image_law}
use Rattle.mirror_core.proofs.image_laws.images_are_twins.Goals as goal

pub returns-clause-flush : goal.returns-clause-flush
returns-clause-flush c = flush_image_law

pub returns-clause-level : goal.returns-clause-level
returns-clause-level c = level_image_law
