use Rattle.tag_store.proofs.StoreLawsLemmas.{marked_law, put_law, rest_law}
use Rattle.tag_store.proofs.laws.tags_are_written.Goals as goal

pub returns-clause-marked : goal.returns-clause-marked
returns-clause-marked c = marked_law

pub returns-clause-put : goal.returns-clause-put
returns-clause-put c = put_law

pub returns-clause-rest : goal.returns-clause-rest
returns-clause-rest c = rest_law
