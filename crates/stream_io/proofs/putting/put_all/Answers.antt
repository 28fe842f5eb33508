use Rattle.std.proofs.Common.{rules, List, ℕ, ◌∙◌, ap, take, drop}
use Rattle.std.specs.Option.{option_map}
use Rattle.std.proofs.lemmas.List.{take_rest}
use Rattle.stream_io.specs.Stream.{with_bytes}
use Rattle.stream_io.proofs.StreamLemmas.{with_bytes-take}
use Rattle.stream_io.proofs.putting.put_all.Goals as goal

pub loop-done-preserved : goal.loop-done-preserved
loop-done-preserved g c =
    let done = c.loop-done.done in
    let n = c.in_ok-done.field-0 in
    record {
      within = search rules;
      held =
          c.in_ok-done.ensures.written
          ∙ ap (λ (bytes : List ℕ). option_map (with_bytes (take n bytes)) (g.S.Sink.held c.loop-done.sink)) (take_rest c.args.bytes.now done)
          ∙ ap (option_map (with_bytes (take n (drop done c.args.bytes.now)))) c.loop-done.invariant.held
          ∙ with_bytes-take c.args.bytes.now done n (g.S.Sink.held c.args.sink.now);
      faults = search rules;
    }
