use Rattle.std.proofs.Common.{◌≡◌, ℕ, ◌+◌, List, [], None, sym, ap, subst, refl, ◌∙◌, arith}
use Rattle.device_model.specs.Transcript.{BlockFormat}
use Rattle.nbd_flight.specs.declared.whole.Whole.{Whole}
use Rattle.nbd_flight.specs.Asking.{IsWhole}
use Rattle.nbd_model.specs.Stream.{Message}
use Rattle.nbd_model.specs.Message.{bytes_behind}
use Rattle.nbd_incoming.specs.Taking.{Outcome}
use Rattle.nbd_incoming.specs.Incoming.{IsOutcome}
use Rattle.nbd_incoming.specs.declared.taken.Taken.TheVariants as takens
use Rattle.nbd_incoming.proofs.BeginLemmas.{asked_ends, asked_goes, disconnects, goes_on, keeps_none, none_kept, waits}
use Rattle.nbd_incoming.proofs.incoming.begin.Goals as goal

more_none : (left k : ℕ) → left ≡ k → left + 0 ≡ k
more_none left k same = omega (arith, same)

pub returns-in-Disconnect : goal.returns-in-Disconnect
returns-in-Disconnect c none =
    let b : BlockFormat = record { blocks = c.args.blocks; block_size = c.args.block_size; tag = λ block bytes. [] } in
    subst (λ (o : Outcome). IsOutcome c.args.blocks c.args.block_size c.args.coming.now takens.Disconnected o)
    (sym (asked_ends c.args.request (disconnects b c.args.request (sym (c.judge-asked.ensures b refl refl) ∙ c.in-Disconnect.is)))) tt

pub returns : goal.returns
returns c none =
    let b : BlockFormat = record { blocks = c.args.blocks; block_size = c.args.block_size; tag = λ block bytes. [] } in
    let goes = goes_on b c.args.request (λ same. c.in_default.not-Disconnect (c.judge-asked.ensures b refl refl ∙ same)) in
    let m : Message = record { request = c.args.request; bytes = [] } in
    let whole : Whole = record { request = c.args.request; asked = c.judge-asked.result; bytes = c.in_ok-bytes.bytes } in
    let is : IsWhole c.args.blocks c.args.block_size whole m = record {
      request = refl;
      asked = λ f same_blocks same_size. c.judge-asked.ensures f same_blocks same_size;
      bytes = keeps_none c.judge-asked.result c.in_ok-bytes.bytes.items c.in_ok-bytes.ensures;
    } in
    subst (λ (o : Outcome). IsOutcome c.args.blocks c.args.block_size c.wait_for.new.coming c.wait_for.result o)
    (sym (asked_goes c.args.request goes))
    (waits c.args.blocks c.args.block_size whole m is (none_kept c.judge-asked.result c.in_ok-bytes.bytes.items c.in_ok-bytes.ensures) c.behind.result (more_none c.behind.result (bytes_behind c.args.request) c.behind.ensures) c.args.coming.now c.wait_for.new.coming c.wait_for.result none c.wait_for.ensures)
