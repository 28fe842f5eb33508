use Rattle.std.proofs.Common.{rules}
use Rattle.stream_io.proofs.StreamLemmas.{AddsPrefix-first}
use Rattle.command_ending.proofs.PiecesLemmas.{on_err_always}
use Rattle.command_ending.proofs.TextLemmas.{put_behind}
use Rattle.command_ending.proofs.image_texts.put_image_fault.Goals as goal

pub returns-in_err-put_all-clause-line : goal.returns-in_err-put_all-clause-line
returns-in_err-put_all-clause-line g c = record {
  written = search rules;
  err = on_err_always c.from_residual.result (AddsPrefix-first _ _ _ _ c.in_err-put_all.ensures.err);
}

pub returns-clause-line : goal.returns-clause-line
returns-clause-line g c =
    put_behind _ _ _ _ _ _ c.in_ok-put_all.ensures.written c.put_fault.ensures.line
