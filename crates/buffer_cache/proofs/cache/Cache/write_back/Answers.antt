use Rattle.std.proofs.lemmas.Result.{on_ok_weaker}
use Rattle.buffer_cache.proofs.CachedLemmas.{IsWrittenBack-none}
use Rattle.buffer_cache.proofs.cache.Cache.write_back.Goals as goal

pub invariant_of-self : goal.invariant_of-self
invariant_of-self g c = record { room = rw (c.write_each.ensures.same.keeps.slots, c.list_marked.ensures.capacity) c.args.self.now.room }

pub returns-clause-unmarked : goal.returns-clause-unmarked
returns-clause-unmarked g c =
    on_ok_weaker c.write_each.result
    (λ unmarked. IsWrittenBack-none _ c.args.self.now.sectors c.write_each.new.held c.write_each.ensures.same.cache c.write_each.ensures.same.keeps unmarked.none) c.write_each.ensures.unmarked
