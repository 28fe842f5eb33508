use Rattle.std.proofs.Common.{rules, take}
use Rattle.sector_disk.specs.Record.{content_after, content_of_bytes}
use Rattle.sector_disk.proofs.CandidateLemmas.{noted_next}
use Rattle.sector_disk.proofs.candidates.copy_candidate.Goals as goal

pub loop-event-preserved : goal.loop-event-preserved
loop-event-preserved c = record {
  noted = noted_next (content_of_bytes c.args.base.now) c.args.events.now c.loop-event.event-index c.loop-event-test.true _ c.args.at c.args.index c.note.new.found.last c.note.new.found.count c.note.new.found.chosen
      (c.note.ensures.noted (content_after (content_of_bytes c.args.base.now) (take c.loop-event.event-index c.args.events.now)) c.loop-event.invariant.noted);
  count = search rules;
}
