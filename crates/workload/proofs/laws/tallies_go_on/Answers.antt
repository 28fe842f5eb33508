use Rattle.std.proofs.Common.{refl}
use Rattle.workload.proofs.TallyLemmas.{bounds, more_asks, more_replies, other_answers}
use Rattle.workload.proofs.laws.tallies_go_on.Goals as goal

pub returns-clause-none : goal.returns-clause-none
returns-clause-none c = refl

pub returns-clause-asks : goal.returns-clause-asks
returns-clause-asks c = more_asks

pub returns-clause-replies : goal.returns-clause-replies
returns-clause-replies c = more_replies

pub returns-clause-others : goal.returns-clause-others
returns-clause-others c = other_answers

pub returns-clause-bounds : goal.returns-clause-bounds
returns-clause-bounds c = bounds
