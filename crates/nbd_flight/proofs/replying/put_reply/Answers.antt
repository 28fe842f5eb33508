use Rattle.std.proofs.Common.{◌++◌, List, ℕ, Result, Ok, Err, OnErr, ◌≡◌, ap, ◌∙◌, subst, Option}
use Rattle.stream_io.specs.Stream.{AddsPrefix}
use Rattle.stream_io.proofs.StreamLemmas.{AddsPrefix-then}
use Rattle.nbd_model.specs.Message.{reply_head}
use Rattle.nbd_flight.specs.Deeds.{held_with}
use Rattle.nbd_flight.specs.Replying.{error_told, read_told}
use Rattle.nbd_flight.proofs.replying.put_reply.Goals as goal

then_err : {T E : Type 0} (r : Result T E) (a b c : List ℕ) (old mid new : Option (List ℕ)) → mid ≡ held_with a old → c ≡ b
    → OnErr r (AddsPrefix c mid new) → OnErr r (AddsPrefix (a ++ b) old new)
then_err (Ok x) a b c old mid new first same part = tt
then_err (Err e) a b c old mid new first same part = AddsPrefix-then a b old mid new first (subst (λ (l : List ℕ). AddsPrefix l mid new) same part)

pub returns-clause-err : goal.returns-clause-err
returns-clause-err g c =
    let reply = c.args.reply.now in
    then_err c.put_all-2.result (reply_head (error_told reply) c.args.cookie) (read_told reply) c.read_in.result.now _ _ _
    (c.in_ok-put_all.ensures.written
    ∙ ap (λ (l : List ℕ). held_with l (g.O.Sink.held c.args.sink.now)) (c.write_reply.ensures ∙ ap (λ (n : ℕ). reply_head n c.args.cookie) c.error_of.ensures))
    c.read_in.ensures c.put_all-2.ensures.err
