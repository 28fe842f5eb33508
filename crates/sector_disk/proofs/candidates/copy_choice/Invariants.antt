use Rattle.std.proofs.Common.{◌≡◌, ◌<◌, ℕ, [], slice_index, slice_index_or}
use Rattle.disk_model.specs.Disk.{sector_in}
use Rattle.sector_disk.specs.Record.{content_after, content_of_bytes}
use Rattle.sector_disk.proofs.candidates.copy_choice.Given as goal

abbrev pub invariant-loop-s : goal.invariant-loop-s
invariant-loop-s l = (j : ℕ) → j < l.s → sector_in l.out j ≡ slice_index_or (content_after (content_of_bytes l.base) l.events j) (slice_index l.choice j) []
