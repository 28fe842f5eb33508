use Rattle.std.proofs.Common.{rules, List, ℕ, ◌∙◌, ap, take, drop}
use Rattle.std.specs.Option.{option_map}
use Rattle.std.proofs.lemmas.List.{take_rest}
use Rattle.stream_io.specs.Stream.{with_bytes}
use Rattle.stream_io.proofs.StreamLemmas.{with_bytes-take}
use Rattle.file_stream.proofs.transfer.write_most.Goals as goal

pub loop-done-preserved : goal.loop-done-preserved
loop-done-preserved g c =
    let done = c.loop-done.done in
    let n = c.in-Ok.count in
    record {
      within = search rules;
      written =
          c.in-Ok.ensures.written
          ∙ ap (λ (bytes : List ℕ). option_map (with_bytes (take n bytes)) (g.F.OutputFile.held c.loop-done.file)) (take_rest c.args.bytes.now done)
          ∙ ap (option_map (with_bytes (take n (drop done c.args.bytes.now)))) c.loop-done.invariant.written
          ∙ with_bytes-take c.args.bytes.now done n (g.F.OutputFile.held c.args.file.now);
      no_fault = search rules;
    }
