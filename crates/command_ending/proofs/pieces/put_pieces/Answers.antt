use Rattle.std.proofs.Common.{rules}
use Rattle.command_ending.proofs.PiecesLemmas.{on_err_always, failed_at}
use Rattle.command_ending.proofs.pieces.put_pieces.Goals as goal

pub returns-in_err-put_all-clause-line : goal.returns-in_err-put_all-clause-line
returns-in_err-put_all-clause-line g c = record {
  written = search rules;
  err = on_err_always c.from_residual.result
      (failed_at c.args.pieces.now c.loop-piece.piece-index _ _ _ _ (search rules)
      c.loop-piece.invariant.held c.in_err-put_all.ensures.err);
}
