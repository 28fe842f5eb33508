use Rattle.std.proofs.Common.{arith, ◌+◌, ◌<◌, length, Result, Ok, Err, OnOk, OnErr}
use Rattle.std.proofs.lemmas.Result.{on_ok_weaker, on_err_weaker}
use Rattle.buffer_cache.specs.Cached.{IsPutOut}
use Rattle.buffer_cache.specs.Cache.{sectors_of}
use Rattle.tag_store.proofs.SpansLemmas.{HoldsSpan-two, MarksSpan-half, MarksSpan-two, StoresPart-half, StoresSpan-two, first_part, rest_part, span_by_one, span_by_two}
use Rattle.tag_store.proofs.spans.write_span.Goals as goal

-- What holds after a success, and after a failure, holds.
by_result : {T E P Q R : Type 0} (r : Result T E) → OnOk r P → OnErr r Q → (P → R) → (Q → R) → R
by_result (Ok x) p q f g = f p
by_result (Err e) p q f g = g q

pub returns-in_err-write_at-clause-moments : goal.returns-in_err-write_at-clause-moments
returns-in_err-write_at-clause-moments g c = span_by_one c.args.at c.args.from c.args.bytes.now (sectors_of c.args.cache.now) c.write_at.ensures.moments

pub returns-then-size-bytes-clause-moments : goal.returns-then-size-bytes-clause-moments
returns-then-size-bytes-clause-moments g c = span_by_one c.args.at c.args.from c.args.bytes.now (sectors_of c.args.cache.now) c.write_at.ensures.moments

pub overflow_add-at : goal.overflow_add-at
overflow_add-at g c = omega arith

pub returns-clause-stored : goal.returns-clause-stored
returns-clause-stored g c =
    on_ok_weaker c.write_at-2.result (λ written.
    StoresSpan-two (IsPutOut (c.args.at + 1) (sectors_of c.write_at.new.self)) c.args.at c.args.from c.args.bytes.now _ _
    (sectors_of c.args.cache.now) (sectors_of c.write_at.new.self) (sectors_of c.write_at-2.new.self)
    (first_part c.args.bytes.now c.args.from c.min-size.result (omega arith)) (rest_part c.args.bytes.now c.args.from c.min-size.result (omega arith) c.if-size-bytes.false)
    c.in_ok-write_at.ensures.written written c.write_at-2.ensures.moments) c.write_at-2.ensures.written

pub returns-clause-err : goal.returns-clause-err
returns-clause-err g c =
    let past : 512 < c.args.from + length c.args.bytes.now = omega arith in
    on_err_weaker c.write_at-2.result (λ keeps.
    StoresPart-half (IsPutOut (c.args.at + 1) (sectors_of c.write_at.new.self)) c.args.at c.args.from c.args.bytes.now _
    (sectors_of c.args.cache.now) (sectors_of c.write_at.new.self) (sectors_of c.write_at-2.new.self)
    (first_part c.args.bytes.now c.args.from c.min-size.result (omega arith)) past
    c.in_ok-write_at.ensures.written keeps c.write_at-2.ensures.moments) c.write_at-2.ensures.err

pub returns-clause-sectors : goal.returns-clause-sectors
returns-clause-sectors g c =
    let past : 512 < c.args.from + length c.args.bytes.now = omega arith in (
      HoldsSpan-two c.args.at c.args.from (length c.args.bytes.now) (sectors_of c.args.cache.now) (sectors_of c.write_at.new.self) (sectors_of c.write_at-2.new.self)
          c.requires.span.begins c.requires.span.some c.requires.span.short (omega arith) c.write_at.ensures.held c.write_at-2.ensures.held,
      by_result c.write_at-2.result (c.write_at-2.ensures.written) (c.write_at-2.ensures.err)
          (λ written. MarksSpan-two c.args.at c.args.from (length c.args.bytes.now) _ _ (sectors_of c.args.cache.now) (sectors_of c.write_at.new.self) (sectors_of c.write_at-2.new.self)
          c.requires.span.begins c.requires.span.some c.requires.span.short past c.in_ok-write_at.ensures.written written)
          (λ keeps. MarksSpan-half c.args.at c.args.from (length c.args.bytes.now) _ (sectors_of c.args.cache.now) (sectors_of c.write_at.new.self) (sectors_of c.write_at-2.new.self)
          c.requires.span.begins c.requires.span.some c.in_ok-write_at.ensures.written keeps),
    )

pub returns-clause-moments : goal.returns-clause-moments
returns-clause-moments g c =
    span_by_two c.args.at c.args.from c.args.bytes.now _ (sectors_of c.args.cache.now) (sectors_of c.write_at.new.self)
    (first_part c.args.bytes.now c.args.from c.min-size.result (omega arith)) (omega arith)
    c.write_at.ensures.moments c.in_ok-write_at.ensures.written c.write_at-2.ensures.moments
