use Rattle.std.proofs.Common.{rules, take, length, sym, ◌∙◌, ap}
use Rattle.disk_model.specs.Disk.{Content}
use Rattle.sector_disk.specs.Record.{content_after, content_of_bytes}
use Rattle.sector_disk.proofs.CandidateLemmas.{content_after-next}
use Rattle.sector_disk.proofs.candidates.count_candidates.Goals as goal

pub loop-event-preserved : goal.loop-event-preserved
loop-event-preserved c = record {
  number = λ base. c.count_after-count.ensures.count (content_after (content_of_bytes base) (take c.loop-event.event-index c.args.events.now)) (c.loop-event.invariant.number base)
      ∙ sym (ap (λ (x : Content). length (x c.args.at)) (content_after-next (content_of_bytes base) c.args.events.now c.loop-event.event-index _ c.loop-event-test.true));
  bound = search rules;
}
