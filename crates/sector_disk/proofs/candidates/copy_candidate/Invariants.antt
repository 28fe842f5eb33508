use Rattle.std.proofs.Common.{◌≤◌, ◌+◌, take}
use Rattle.sector_disk.specs.Record.{content_after, content_of_bytes, IsNoted}
use Rattle.sector_disk.proofs.candidates.copy_candidate.Given as goal

abbrev pub invariant-loop-event : goal.invariant-loop-event
invariant-loop-event l = record {
  noted : IsNoted (content_after (content_of_bytes l.base) (take l.event-index l.events)) l.at l.index l.found.last l.found.count l.found.chosen;
  count : l.found.count ≤ l.event-index + 1;
}
