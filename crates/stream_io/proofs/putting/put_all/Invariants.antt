use Rattle.std.proofs.Common.{◌≡◌, ◌≤◌, ◌-◌, length, take}
use Rattle.std.specs.Option.{option_map}
use Rattle.stream_io.specs.Stream.{with_bytes}
use Rattle.stream_io.proofs.putting.put_all.Given as goal

abbrev pub invariant-loop-done : goal.invariant-loop-done
invariant-loop-done g l = record {
  within : l.done ≤ length l.bytes;
  held : g.S.Sink.held l.sink ≡ option_map (with_bytes (take l.done l.bytes)) (g.S.Sink.held l.fn.sink);
  faults : g.S.Counted.faults l.sink ≡ g.S.Counted.faults l.fn.sink;
}

abbrev pub decreases-loop-done : goal.decreases-loop-done
decreases-loop-done g l = length l.bytes - l.done
