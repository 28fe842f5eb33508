use Rattle.std.proofs.Common.{ap, ◌∙◌}
use Rattle.std.proofs.lemmas.Result.{on_ok_weaker}
use Rattle.buffer_cache.specs.declared.held.HeldSectors.{HeldSectors}
use Rattle.buffer_cache.proofs.HeldLemmas.{CanPutOut-unmarked}
use Rattle.buffer_cache.proofs.CachedLemmas.{last_is_held, scratch_stays, adds_least_recent}
use Rattle.buffer_cache.proofs.write_out.make_room.Goals as goal

pub write_held-requires-clause-at : goal.write_held-requires-clause-at
write_held-requires-clause-at g c =
    c.requires.over.cache.within c.in-Some.at c.in-Some.ensures.last.held (last_is_held c.args.held.now c.in-Some.at c.next_out.ensures.valid c.in-Some.ensures.last)

pub returns-in-Some-clause-room : goal.returns-in-Some-clause-room
returns-in-Some-clause-room g c =
    on_ok_weaker c.write_held.result (λ written. rw written (CanPutOut-unmarked c.args.held.now c.in-Some.at c.next_out.ensures.valid c.in-Some.ensures.last)) c.write_held.ensures.written

pub returns-in-Some-clause-scratch : goal.returns-in-Some-clause-scratch
returns-in-Some-clause-scratch g c =
    on_ok_weaker c.write_held.result (λ written. ap (λ (s : HeldSectors). s.scratch) written ∙ scratch_stays c.args.held.now c.in-Some.at c.requires.over.cache.apart c.next_out.ensures.valid c.in-Some.ensures.last) c.write_held.ensures.written

pub returns-in-Some-clause-moments : goal.returns-in-Some-clause-moments
returns-in-Some-clause-moments g c =
    adds_least_recent c.args.held.now c.in-Some.at c.in-Some.ensures.last c.write_held.ensures.moments

pub returns-in-Some-clause-unwritten : goal.returns-in-Some-clause-unwritten
returns-in-Some-clause-unwritten g c none = c.write_held.ensures.unwritten (none.none c.in-Some.at)
