use Rattle.std.proofs.Common.{◌≡◌, ℕ, ◌*◌, ◌%◌, ◌<◌, ◌≤◌, slice_index}
use Rattle.journal_section.proofs.blocks.put_fronts.Given as goal

-- The sectors so far have the block's bytes, and all else is as it was.
abbrev pub invariant-loop-k : goal.invariant-loop-k
invariant-loop-k l = record {
  fronts : (at : ℕ) → at < 512 * l.k → at % 512 < 504 → slice_index l.parts at ≡ slice_index l.block at;
  ids : (at : ℕ) → 504 ≤ at % 512 → slice_index l.parts at ≡ slice_index l.initial.parts at;
}
