use Rattle.tag_store.proofs.StoreLawsLemmas.{direct_law, keeps_others_law, reads_tags_law}
use Rattle.tag_store.proofs.laws.reads_give_what_is_given.Goals as goal

pub returns-clause-tags : goal.returns-clause-tags
returns-clause-tags c = reads_tags_law

pub returns-clause-direct : goal.returns-clause-direct
returns-clause-direct c = direct_law

pub returns-clause-others : goal.returns-clause-others
returns-clause-others c = keeps_others_law
