use Rattle.dump_model.proofs.DumpLawsLemmas.{shown_law}
use Rattle.dump_model.proofs.laws.images_that_are_shown_are_told.Goals as goal

pub returns : goal.returns
returns c = shown_law c.images_that_can_be_read_are_told.ensures
