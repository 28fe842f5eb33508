use Rattle.std.proofs.Common.{◌≡◌, ◌≤◌, ◌-◌, length, take, drop}
use Rattle.std.specs.Option.{ForSome, option_map}
use Rattle.stream_io.proofs.reading.fill.Given as goal

abbrev pub invariant-loop-done : goal.invariant-loop-done
invariant-loop-done g l = record {
  within : l.done ≤ length l.buffer;
  read : ForSome (g.S.NamedSource.left l.fn.source) (λ left. take l.done l.buffer ≡ take l.done left);
  rest : g.S.NamedSource.left l.source ≡ option_map (drop l.done) (g.S.NamedSource.left l.fn.source);
  binding : g.S.Named.binding l.source ≡ g.S.Named.binding l.fn.source;
  faults : g.S.Counted.faults l.source ≡ g.S.Counted.faults l.fn.source;
}

abbrev pub decreases-loop-done : goal.decreases-loop-done
decreases-loop-done g l = length l.buffer - l.done
