use Rattle.std.proofs.Common.{rules}
use Rattle.file_stream.proofs.SinkLemmas.{all_out}
use Rattle.file_stream.proofs.line_sink.write_out.Goals as goal

pub returns-clause-written : goal.returns-clause-written
returns-clause-written g c =
    all_out c.args.held_back.now.items c.args.piece.now c.as_slice.result.now c.clear.new.self.items c.len-before.result c.write_most-done.result (g.F.OutputFile.held c.args.file.now) (g.F.OutputFile.held c.write_most-done.new.file)
    (search rules) (search rules) (search rules) (search rules) c.write_most-done.ensures.written
