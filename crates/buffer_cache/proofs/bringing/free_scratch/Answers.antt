use Rattle.std.proofs.lemmas.Result.{on_ok_weaker}
use Rattle.buffer_cache.proofs.CachedLemmas.{scratch_told, no_scratch, scratch_is_held, IsFree-unmarked, adds_scratch}
use Rattle.buffer_cache.proofs.bringing.free_scratch.Goals as goal

pub write_held-requires-clause-at : goal.write_held-requires-clause-at
write_held-requires-clause-at g c =
    let told = scratch_told c.in-Some.at c.args.held.now.scratch c.in-Some.ensures in
    rw (← told.2) (c.requires.over.cache.within told.0.at told.0.held (scratch_is_held c.args.held.now told.0 told.1 (c.requires.over.cache.apart told.0 told.1)))

pub returns-in-Some-clause-free : goal.returns-in-Some-clause-free
returns-in-Some-clause-free g c =
    let told = scratch_told c.in-Some.at c.args.held.now.scratch c.in-Some.ensures in
    on_ok_weaker c.write_held.result (λ written. rw written (IsFree-unmarked c.args.held.now c.in-Some.at told.0 told.1 told.2)) c.write_held.ensures.written

pub returns-in-Some-clause-moments : goal.returns-in-Some-clause-moments
returns-in-Some-clause-moments g c =
    let told = scratch_told c.in-Some.at c.args.held.now.scratch c.in-Some.ensures in
    adds_scratch c.args.held.now c.in-Some.at told.0 told.1 told.2 c.write_held.ensures.moments

pub returns-in-None-clause-free : goal.returns-in-None-clause-free
returns-in-None-clause-free g c = no_scratch c.args.held.now c.in-None.ensures

pub returns-in-Some-clause-unwritten : goal.returns-in-Some-clause-unwritten
returns-in-Some-clause-unwritten g c none = c.write_held.ensures.unwritten (none.none c.in-Some.at)
