use Rattle.recalculate_laws.proofs.OpenedLemmas.{some_await_law, from_start_law}
use Rattle.recalculate_laws.proofs.fields_tell_what_awaits.Goals as goal

pub returns-clause-some : goal.returns-clause-some
returns-clause-some c = some_await_law

pub returns-clause-start : goal.returns-clause-start
returns-clause-start c = from_start_law
