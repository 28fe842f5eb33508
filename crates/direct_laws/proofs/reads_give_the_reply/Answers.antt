use Rattle.direct_laws.proofs.ReadLemmas.{read_law}
use Rattle.direct_laws.proofs.CallLemmas.{block_read_law}
use Rattle.direct_laws.proofs.reads_give_the_reply.Goals as goal

pub returns-clause-reply : goal.returns-clause-reply
returns-clause-reply c = read_law

pub returns-clause-block : goal.returns-clause-block
returns-clause-block c = block_read_law
