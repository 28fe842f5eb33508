use Rattle.std.proofs.lemmas.Result.{IfOk-weaker}
use Rattle.buffer_cache.proofs.CachedLemmas.{IsOfDisk-none}
use Rattle.tag_tests.proofs.buffer_cache_tests.cache_over.Goals as goal

pub returns : goal.returns
returns g c = IfOk-weaker c.new.result _ _ (λ cache is. rw is (IsOfDisk-none _ _ c.args.slots)) c.new.ensures
