use Rattle.std.proofs.Common.{ℕ, [], slice_index, slice_index_or, arith}
use Rattle.sector_disk.specs.Record.{content_after, content_of_bytes}
use Rattle.sector_disk.proofs.LatestLemmas.{one_sector_more}
use Rattle.sector_disk.proofs.candidates.copy_choice.Goals as goal

pub loop-s-preserved : goal.loop-s-preserved
loop-s-preserved c =
    one_sector_more c.loop-s.out c.copy_candidate.new.out c.loop-s.s _ (λ (j : ℕ). slice_index_or (content_after (content_of_bytes c.args.base.now) c.args.events.now j) (slice_index c.args.choice.now j) []) (omega arith) (omega arith) c.copy_candidate.ensures c.loop-s.invariant
