use Rattle.mirror_core.proofs.ImageLemmas.{moments_image_law, pair_image_law, some_image_law}
use Rattle.mirror_core.proofs.image_laws.pairs_of_images_are_kept.Goals as goal

pub returns-clause-kept : goal.returns-clause-kept
returns-clause-kept c = pair_image_law

pub returns-clause-something : goal.returns-clause-something
returns-clause-something c = some_image_law

pub returns-clause-moments : goal.returns-clause-moments
returns-clause-moments c = moments_image_law
