use Rattle.mirror_core.proofs.ImageLemmas.{first_image_law, second_image_law}
use Rattle.mirror_core.proofs.image_laws.images_keep_what_is_flushed.Goals as goal

pub returns-clause-first : goal.returns-clause-first
returns-clause-first c = first_image_law

pub returns-clause-second : goal.returns-clause-second
returns-clause-second c = second_image_law
