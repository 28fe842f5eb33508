-- Each request of an exercise can be run on its device.
use Rattle.std.proofs.Common.{◌≡◌, ℕ, ◌+◌, ◌/◌, ◌%◌, ◌^◌, ◌<◌, ◌≤◌, ◌==◌, Bool, true, false, ltb, if◌then◌else◌, None, arith, refl}
use Rattle.std.proofs.lemmas.Bool.{le-ltb, ne_eqb}
use Rattle.device_model.specs.Mode.{DeviceFormat}
use Rattle.device_model.specs.Script.{Fill, Flush, Read, ask_fault, range_fault}
use Rattle.workload_model.specs.Workload.{workload_ask, workload_count, workload_first}

-- A few blocks, at least one, that are all there.
range_fits : (blocks first count : ℕ) → 1 ≤ count → count ≤ 1024 → first + count ≤ blocks → range_fault blocks first count ≡ None
range_fits blocks first count some few inside =
    let most : ltb 1024 count ≡ false = le-ltb 1024 count few in
    let none : (count == 0) ≡ false = ne_eqb count 0 (λ is. omega (arith, is, some)) in
    let past : ltb blocks (first + count) ≡ false = le-ltb blocks (first + count) inside in
    rw (most, none, past) refl

workload_fits : (x blocks : ℕ) → 1 ≤ blocks → range_fault blocks (workload_first x blocks) (workload_count x blocks) ≡ None
workload_fits x blocks some =
    let low : workload_first x blocks < blocks = omega (arith, some) in
    range_fits blocks (workload_first x blocks) (workload_count x blocks) (omega (arith, low)) (omega arith) (omega (arith, low))

module _ (f : DeviceFormat) where
  by_case : (x : ℕ) (fills reads : Bool) → 1 ≤ f.blocks.blocks
      → ask_fault f (if fills then Fill (workload_first x f.blocks.blocks) (workload_count x f.blocks.blocks) (x / 2 ^ 8 % 256) false
      else if reads then Read (workload_first x f.blocks.blocks) (workload_count x f.blocks.blocks) else Flush) ≡ None
  by_case x true reads some = workload_fits x f.blocks.blocks some
  by_case x false true some = workload_fits x f.blocks.blocks some
  by_case x false false some = refl

  -- ---- for callers

  pub workload_runs : (x : ℕ) → 1 ≤ f.blocks.blocks → ask_fault f (workload_ask x f.blocks.blocks) ≡ None
  workload_runs x some = by_case x (ltb (x / 2 ^ 60) 9) (ltb (x / 2 ^ 60) 14) some

  pub read_runs : (block : ℕ) → block < f.blocks.blocks → ask_fault f (Read block 1) ≡ None
  read_runs block low = range_fits f.blocks.blocks block 1 (omega arith) (omega arith) (omega (arith, low))
