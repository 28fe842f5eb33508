use Rattle.judging_model.proofs.FaultLawsLemmas.{opens_law}
use Rattle.judging_model.proofs.laws.images_that_open_have_no_fault.Goals as goal

pub returns : goal.returns
returns c = opens_law c.images_that_can_be_read_are_told.ensures
