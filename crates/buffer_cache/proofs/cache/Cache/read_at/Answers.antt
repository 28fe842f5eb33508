use Rattle.buffer_cache.proofs.CachedLemmas.{read_is_given}
use Rattle.buffer_cache.proofs.cache.Cache.read_at.Goals as goal

pub invariant_of-self : goal.invariant_of-self
invariant_of-self g c = record { room = rw c.bring.ensures.same.keeps.slots c.args.self.now.room }

pub returns-clause-read : goal.returns-clause-read
returns-clause-read g c =
    read_is_given c.args.at c.args.from _ c.copy_piece.new.out c.args.self.now.sectors c.bring.new.held c.bring.ensures.moments c.bring.ensures.same.keeps c.in_ok-bring.ensures.found c.copy_piece.ensures
