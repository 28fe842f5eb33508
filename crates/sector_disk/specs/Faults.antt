-- What a contract sees of a `FaultPlan`: which call fails next, and what a call leaves.
use Rattle.std.specs.Prelude.{ℕ, ◌+◌, ◌-◌, ◌^◌, [], min}
use Rattle.std.specs.List.{Contains}
use Rattle.sector_disk.specs.declared.fault_plan.FaultPlan.{FaultPlan}

-- One more, up to the end of a u64.
abbrev pub one_more : ℕ → ℕ
one_more n = min (n + 1) (2 ^ 64 - 1)

-- The next call is one of those that are to fail.
abbrev pub FailsNext : FaultPlan → Type 0
FailsNext plan = Contains plan.failing.items (one_more plan.calls)

-- No call was made, and none is to fail.
abbrev pub unused_plan : FaultPlan
unused_plan = record { calls = 0; failing = record { items = [] }; faults = 0 }

-- A call was made, and it did not fail.
abbrev pub with_call : FaultPlan → FaultPlan
with_call plan = record plan { calls = one_more plan.calls }

-- A fault was counted.
abbrev pub with_fault : FaultPlan → FaultPlan
with_fault plan = record plan { faults = one_more plan.faults }
