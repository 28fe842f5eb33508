-- What the trait ensures follows from the exact clauses.
use Rattle.std.proofs.Common.{◌≡◌, ◌≤◌, ℕ, arith, ap, subst, length, drop, min, Some}
use Rattle.std.specs.Option.{ForSome}
use Rattle.std.proofs.lemmas.Option.{same_Some}
use Rattle.std.proofs.lemmas.Result.{IfOk-weaker, on_err_weaker}
use Rattle.sector_disk.specs.Faults.{with_call}
use Rattle.stream_io.specs.InMemory.{SourceState}
use Rattle.stream_io.specs.Stream.{Gives}
use Rattle.stream_io.proofs.mem_source.MemSourceSource.TheImpl.Goals as goal

pub read-tells : goal.read-tells
read-tells g c =
    let buffer = c.new.buffer.now in
    let old = c.args.self.now in
    let new = c.new.self.now in
    record {
      count = IfOk-weaker c.result (λ n. n ≡ min (length buffer) (length old.left)) (λ n. n ≤ length buffer) (λ n is. omega arith) c.ensures.count;
      read = IfOk-weaker c.result (λ n. Gives n buffer old.left) (λ n. ForSome (Some old.left) (Gives n buffer)) (λ n gives told is. subst (Gives n buffer) (same_Some _ _ is) gives) c.ensures.read;
      left =
          let as_left : ℕ → SourceState = λ n. record { left = drop n old.left; plan = with_call old.plan } in
          IfOk-weaker c.result (λ n. new ≡ as_left n) (λ n. Some new.left ≡ Some (drop n old.left)) (λ n is. ap (λ (s : SourceState). Some s.left) is) c.ensures.left;
      cause = c.ensures.cause;
      err = on_err_weaker c.result (λ is. ap (λ (s : SourceState). Some s.left) is) c.ensures.err;
    }
