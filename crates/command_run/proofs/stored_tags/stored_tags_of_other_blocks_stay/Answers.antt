use Rattle.command_run.proofs.StoredTagsLemmas.{stored_tags_law}
use Rattle.command_run.proofs.stored_tags.stored_tags_of_other_blocks_stay.Goals as goal

pub returns : goal.returns
returns c = stored_tags_law
