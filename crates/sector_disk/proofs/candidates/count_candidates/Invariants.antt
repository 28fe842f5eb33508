use Rattle.std.proofs.Common.{◌≡◌, ◌≤◌, ◌+◌, ℕ, List, length, take}
use Rattle.sector_disk.specs.Record.{content_after, content_of_bytes}
use Rattle.sector_disk.proofs.candidates.count_candidates.Given as goal

abbrev pub invariant-loop-event : goal.invariant-loop-event
invariant-loop-event l = record {
  number : (base : List ℕ) → l.count ≡ length (content_after (content_of_bytes base) (take l.event-index l.events) l.at);
  bound : l.count ≤ l.event-index + 1;
}
