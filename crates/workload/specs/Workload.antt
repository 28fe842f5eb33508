-- What a contract sees of a workload.
use Rattle.std.specs.Prelude.{ℕ, List}
use Rattle.device_model.specs.Script.{Ask}
use Rattle.workload_model.specs.Workload.{workload_asks}

-- The number that told its last request, or its seed where none is told; and how many blocks the device has.
pub record WorkloadState : Type 0 where
  pub number : ℕ
  pub blocks : ℕ

-- Its next requests, so many.
abbrev pub asks_ahead : ℕ → WorkloadState → List Ask
asks_ahead n w = workload_asks n w.number w.blocks
