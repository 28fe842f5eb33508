use Rattle.std.proofs.Common.{◌≡◌, take}
use Rattle.std.specs.Option.{option_map}
use Rattle.stream_io.specs.Stream.{with_bytes}
use Rattle.command_ending.specs.Ended.{bytes_of}
use Rattle.command_ending.proofs.pieces.put_pieces.Given as goal

abbrev pub invariant-loop-piece : goal.invariant-loop-piece
invariant-loop-piece g l = record {
  held : g.O.Sink.held l.out
      ≡ option_map (with_bytes (bytes_of (take l.piece-index l.pieces))) (g.O.Sink.held l.fn.out);
  faults : g.O.Counted.faults l.out ≡ g.O.Counted.faults l.fn.out;
}
