use Rattle.image_format.proofs.FormatLawsLemmas.{read_law}
use Rattle.image_format.proofs.laws.images_that_can_be_read_are_told.Goals as goal

pub returns : goal.returns
returns c = read_law
