use Rattle.std.proofs.Common.{◌<◌, ℕ, length, slice_index}
use Rattle.sector_disk.specs.Record.{content_after, content_of_bytes}
use Rattle.sector_disk.proofs.candidates.has_each.Given as goal

abbrev pub invariant-loop-s : goal.invariant-loop-s
invariant-loop-s l = (j : ℕ) → j < l.s → slice_index l.choice j < length (content_after (content_of_bytes l.base) l.events j)
