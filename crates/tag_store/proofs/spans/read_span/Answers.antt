use Rattle.std.proofs.Common.{arith, ◌+◌, length}
use Rattle.std.proofs.lemmas.Result.{on_ok_weaker}
use Rattle.disk_model.specs.Disk.{OnlyAdds}
use Rattle.disk_model.proofs.DiskLemmas.{OnlyAdds-none}
use Rattle.buffer_cache.specs.Cache.{sectors_of}
use Rattle.buffer_cache.specs.Cached.{IsPutOut}
use Rattle.buffer_cache.proofs.CachedLemmas.{Keeps-then}
use Rattle.tag_store.proofs.SpansLemmas.{HoldsSpan-one, HoldsSpan-two, cached-whole, out_by_one, out_by_two, reads_two}
use Rattle.buffer_cache.proofs.CachedLemmas.{HasNoMark-kept}
use Rattle.std.proofs.Common.{◌∙◌}
use Rattle.tag_store.proofs.spans.read_span.Goals as goal

pub returns-in_err-read_at-clause-moments : goal.returns-in_err-read_at-clause-moments
returns-in_err-read_at-clause-moments g c = out_by_one c.args.at c.args.from (length c.args.out.now) (sectors_of c.args.cache.now) c.read_at.ensures.moments

pub returns-then-size-len-clause-moments : goal.returns-then-size-len-clause-moments
returns-then-size-len-clause-moments g c = out_by_one c.args.at c.args.from (length c.args.out.now) (sectors_of c.args.cache.now) c.read_at.ensures.moments

pub overflow_add-at : goal.overflow_add-at
overflow_add-at g c = omega arith

pub returns-clause-read : goal.returns-clause-read
returns-clause-read g c =
    let whole = cached-whole _ _ (sectors_of c.args.cache.now) c.requires.cache (g.met.D.Disk.reads_an_image c.args.disk.now) (g.met.D.Disk.whole_sectors c.args.disk.now) in
    on_ok_weaker c.read_at-2.result (λ read.
    reads_two c.args.at c.args.from _ _ _ c.read_at.new.out c.read_at-2.new.out (sectors_of c.args.cache.now) (sectors_of c.read_at.new.self)
    (λ content told. whole content told c.args.at (omega arith)) (omega arith) (omega (arith, c.split_at_mut-first.ensures.front_len)) (omega (arith, c.split_at_mut-first.ensures.front_len, c.split_at_mut-first.ensures.back_len)) (c.in_ok-read_at.ensures.read) c.read_at.ensures.moments c.read_at.ensures.keeps read) c.read_at-2.ensures.read

pub returns-clause-keeps : goal.returns-clause-keeps
returns-clause-keeps g c =
    let W = IsPutOut (c.args.at + 1) (sectors_of c.read_at.new.self) in
    Keeps-then (OnlyAdds W) (sectors_of c.args.cache.now) (sectors_of c.read_at.new.self) (sectors_of c.read_at-2.new.self) (OnlyAdds-none W)
    c.read_at-2.ensures.moments c.read_at.ensures.keeps c.read_at-2.ensures.keeps

pub returns-clause-held : goal.returns-clause-held
returns-clause-held g c =
    HoldsSpan-two c.args.at c.args.from (length c.args.out.now) (sectors_of c.args.cache.now) (sectors_of c.read_at.new.self) (sectors_of c.read_at-2.new.self)
    c.requires.span.begins c.requires.span.some c.requires.span.short (omega arith) c.read_at.ensures.held c.read_at-2.ensures.held

pub returns-clause-moments : goal.returns-clause-moments
returns-clause-moments g c =
    out_by_two c.args.at c.args.from (length c.args.out.now) (sectors_of c.args.cache.now) (sectors_of c.read_at.new.self) (omega arith)
    c.read_at.ensures.moments c.read_at.ensures.keeps c.read_at-2.ensures.moments

pub returns-clause-unwritten : goal.returns-clause-unwritten
returns-clause-unwritten g c none =
    c.read_at-2.ensures.unwritten (HasNoMark-kept (sectors_of c.args.cache.now) (sectors_of c.read_at.new.self) c.read_at.ensures.keeps none) ∙ c.read_at.ensures.unwritten none

pub returns-in_err-read_at-clause-held : goal.returns-in_err-read_at-clause-held
returns-in_err-read_at-clause-held g c =
    HoldsSpan-one c.args.at c.args.from (length c.args.out.now) (sectors_of c.args.cache.now) (sectors_of c.read_at.new.self) c.requires.span.begins c.requires.span.some c.read_at.ensures.held

pub returns-then-size-len-clause-held : goal.returns-then-size-len-clause-held
returns-then-size-len-clause-held g c =
    HoldsSpan-one c.args.at c.args.from (length c.args.out.now) (sectors_of c.args.cache.now) (sectors_of c.read_at.new.self) c.requires.span.begins c.requires.span.some c.read_at.ensures.held
