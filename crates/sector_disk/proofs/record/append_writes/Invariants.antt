use Rattle.std.proofs.Common.{◌≡◌, ◌++◌, vec_capacity}
use Rattle.sector_disk.specs.Record.{sector_writes}
use Rattle.sector_disk.proofs.record.append_writes.Given as goal

abbrev pub invariant-loop-k : goal.invariant-loop-k
invariant-loop-k l = record {
  events : l.events.items ≡ l.fn.events.items ++ sector_writes l.at l.bytes l.k;
  capacity : vec_capacity l.events ≡ vec_capacity l.fn.events;
}
