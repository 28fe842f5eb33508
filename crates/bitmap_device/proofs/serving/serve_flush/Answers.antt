use Rattle.std.proofs.Common.{rules, refl}
use Rattle.direct_mode.proofs.ServingLemmas.{on_err_always}
use Rattle.request_slots.specs.Serving.{with_finish}
use Rattle.device_model.specs.Progress.{FailedServe, Serve}
use Rattle.device_parts.specs.declared.answers.Served.TheVariants as Serves
use Rattle.device_parts.specs.declared.condition.Condition.TheVariants.{Broken, Working}
use Rattle.device_parts.specs.declared.parts.Parts.{Parts}
use Rattle.device_parts.specs.Answers.{served_answer}
use Rattle.device_parts.proofs.ReadyLemmas.{keeps_flight, same_flight}
use Rattle.bitmap_device.specs.Device.{standing_on}
use Rattle.bitmap_device.proofs.OverDisk.{done_on, is_done_on}
use Rattle.bitmap_device.proofs.ServeLemmas.{flush_tags, serve_flush_done, serve_flush_failed}
use Rattle.bitmap_device.proofs.serving.serve_flush.Goals as goal

pub returns-in_err-flush-clause-next : goal.returns-in_err-flush-clause-next
returns-in_err-flush-clause-next g c =
    let parts = c.args.parts.now in
    let regions = c.args.regions.now in
    let ticket = c.args.ticket.now in
    let a = g.D.Disk.moments c.args.disk.now in
    let b = g.D.Disk.moments c.flush.new.disk in
    let new : Parts = record parts { tags = c.flush.new.tags } in
    record {
      does = record {
        done = search rules;
        err = on_err_always c.from_residual.result (λ w is.
            done_on w is.disk is.format (FailedServe ticket) a b Broken new c.flush.new.self
            (serve_flush_failed (standing_on w is.disk) parts regions a is.over ticket c.requires.there c.requires.turn b c.flush.ensures.through new c.flush.new.self refl refl));
      };
      goes_on = search rules;
      waiting = search rules;
      flight = same_flight parts.slots;
    }

pub returns-clause-next : goal.returns-clause-next
returns-clause-next g c =
    let parts = c.args.parts.now in
    let regions = c.args.regions.now in
    let ticket = c.args.ticket.now in
    let a = g.D.Disk.moments c.args.disk.now in
    let b = g.D.Disk.moments c.flush.new.disk in
    let new : Parts = record parts { tags = c.flush.new.tags; slots = c.finish.new.self } in
    record {
      does = record {
        done = λ w is.
            is_done_on w is.disk is.format (Serve ticket) a b (served_answer Serves.Done) Working new c.flush.new.self
            (serve_flush_done (standing_on w is.disk) parts regions a is.over ticket c.requires.there c.requires.turn b c.flush.ensures.through new c.flush.new.self
            c.finish.ensures refl c.in_ok-flush.ensures.flushed);
        err = tt;
      };
      goes_on = λ did. absurd cc;
      waiting = λ waits. absurd cc;
      flight = rw c.finish.ensures (keeps_flight ticket with_finish (λ x. refl) parts.slots);
    }

pub returns-in_err-flush-clause-tags : goal.returns-in_err-flush-clause-tags
returns-in_err-flush-clause-tags g c = λ w is.
    flush_tags w c.args.parts.now c.args.regions.now (g.D.Disk.moments c.args.disk.now) is c.args.ticket.now c.requires.there (g.D.Disk.moments c.flush.new.disk)
    c.requires.turn c.flush.ensures.through

pub returns-clause-tags : goal.returns-clause-tags
returns-clause-tags g c = λ w is.
    flush_tags w c.args.parts.now c.args.regions.now (g.D.Disk.moments c.args.disk.now) is c.args.ticket.now c.requires.there (g.D.Disk.moments c.flush.new.disk)
    c.requires.turn c.flush.ensures.through
