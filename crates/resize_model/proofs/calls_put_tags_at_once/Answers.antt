use Rattle.resize_model.proofs.CallLemmas.{tags_law, tags_done_law}
use Rattle.resize_model.proofs.calls_put_tags_at_once.Goals as goal

pub returns-clause-tags : goal.returns-clause-tags
returns-clause-tags c = tags_law

pub returns-clause-tags_done : goal.returns-clause-tags_done
returns-clause-tags_done c = tags_done_law
