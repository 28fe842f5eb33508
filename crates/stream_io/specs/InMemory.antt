-- What a contract sees of a `MemSource` and of a `MemSink`.
-- Own: their calls fail where a test has chosen it, and a sink's at the end of its room.
use Rattle.std.specs.Prelude.{ℕ, ◌-◌, List, length}
use Rattle.sector_disk.specs.declared.fault_plan.FaultPlan.{FaultPlan}

-- A source in memory: the bytes that it has left, and which of its calls fail.
pub record SourceState : Type 0 where
  pub left : List ℕ
  pub plan : FaultPlan

-- A sink in memory: the bytes that it holds, how many it has room for, and which of its calls fail.
pub record SinkState : Type 0 where
  pub held : List ℕ
  pub room : ℕ
  pub plan : FaultPlan

-- How many bytes more there is room for.
abbrev pub room_left : SinkState → ℕ
room_left sink = sink.room - length sink.held
