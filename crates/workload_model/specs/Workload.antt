-- The requests of a workload, told by numbers that follow a seed.
-- Source: the constants of Knuth's MMIX generator (The Art of Computer Programming, volume 2, 3.3.4). Own: what a number tells.
use Rattle.std.specs.Prelude.{ℕ, zero, suc, ◌+◌, ◌-◌, ◌*◌, ◌/◌, ◌%◌, ◌^◌, false, if◌then◌else◌, ltb, min, List, [], ◌∷◌}
use Rattle.device_model.specs.Script.{Ask, Fill, Read, Flush}

-- The number behind this one.
abbrev pub next_number : ℕ → ℕ
next_number x = (x * 6364136223846793005 + 1442695040888963407) % 2 ^ 64

-- The first block that a number tells, on a device of so many, and how many from there on.
abbrev pub workload_first : ℕ → ℕ → ℕ
workload_first x blocks = x / 2 ^ 32 % 2 ^ 28 % blocks

abbrev pub workload_count : ℕ → ℕ → ℕ
workload_count x blocks = min (1 + x % 4) (blocks - workload_first x blocks)

-- The request that it tells: of 16 numbers nine fill, five read and two flush.
abbrev pub workload_ask : ℕ → ℕ → Ask
workload_ask x blocks =
    if ltb (x / 2 ^ 60) 9 then Fill (workload_first x blocks) (workload_count x blocks) (x / 2 ^ 8 % 256) false
    else if ltb (x / 2 ^ 60) 14 then Read (workload_first x blocks) (workload_count x blocks)
    else Flush

-- The first n requests behind a number. Each is told by the next number.
abbrev pub workload_asks : ℕ → ℕ → ℕ → List Ask
workload_asks zero x blocks = []
workload_asks (suc n) x blocks = workload_ask (next_number x) blocks ∷ workload_asks n (next_number x) blocks
