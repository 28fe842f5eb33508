use Rattle.std.proofs.Common.{◌≡◌, ◌≤◌, ◌+◌, ◌-◌, length, take}
use Rattle.std.specs.Option.{option_map}
use Rattle.stream_io.specs.Stream.{with_bytes}
use Rattle.file_stream.proofs.transfer.write_most.Given as goal

abbrev pub invariant-loop-done : goal.invariant-loop-done
invariant-loop-done g l = record {
  within : l.done ≤ length l.bytes;
  written : g.F.OutputFile.held l.file ≡ option_map (with_bytes (take l.done l.bytes)) (g.F.OutputFile.held l.fn.file);
  no_fault : g.F.OutputFile.faults l.file ≡ g.F.OutputFile.faults l.fn.file;
}

abbrev pub decreases-loop-done : goal.decreases-loop-done
decreases-loop-done g l = length l.bytes - l.done + g.F.OutputFile.interruptions l.file
