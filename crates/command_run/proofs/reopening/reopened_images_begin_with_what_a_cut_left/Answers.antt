use Rattle.command_run.proofs.ReopeningLemmas.{reopening_law}
use Rattle.command_run.proofs.reopening.reopened_images_begin_with_what_a_cut_left.Goals as goal

pub returns : goal.returns
returns c = reopening_law c.images_that_open_have_no_fault.ensures
