-- The requests of a workload, and the reads of all blocks, one after the other.
use Rattle.std.proofs.Common.{◌≡◌, ℕ, suc, ◌+◌, ◌-◌, ◌<◌, ◌≤◌, [], ◌∷◌, map, ap, arith}
use Rattle.std.specs.List.{range_with_len}
use Rattle.device_model.specs.Script.{Read}
use Rattle.workload_model.specs.Workload.{next_number, workload_ask}
use Rattle.workload.specs.Workload.{WorkloadState, asks_ahead}

-- ---- for callers

-- While there are requests to make, the next number tells one.
pub asks_ahead-next : (n made : ℕ) (w : WorkloadState) → made < n
    → asks_ahead (n - made) w ≡ workload_ask (next_number w.number) w.blocks ∷ asks_ahead (n - (made + 1)) (record w { number = next_number w.number })
asks_ahead-next n made w within =
    let left : n - made ≡ suc (n - (made + 1)) = omega arith in
    ap (λ (k : ℕ). asks_ahead k w) left

-- Then there is none.
pub asks_ahead-none : (n made : ℕ) (w : WorkloadState) → n ≤ made → asks_ahead (n - made) w ≡ []
asks_ahead-none n made w past =
    let none : n - made ≡ 0 = omega arith in
    ap (λ (k : ℕ). asks_ahead k w) none

-- While there are blocks to read, the next one is.
pub reads-next : (blocks block : ℕ) → block < blocks
    → map (λ b. Read b 1) (range_with_len block (blocks - block)) ≡ Read block 1 ∷ map (λ b. Read b 1) (range_with_len (block + 1) (blocks - (block + 1)))
reads-next blocks block within =
    let left : blocks - block ≡ suc (blocks - (block + 1)) = omega arith in
    ap (λ (n : ℕ). map (λ b. Read b 1) (range_with_len block n)) left
