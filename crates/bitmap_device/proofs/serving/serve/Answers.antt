use Rattle.std.proofs.Common.{refl, sym, ◌∙◌}
use Rattle.device_model.specs.Progress.{Serve}
use Rattle.device_parts.specs.declared.answers.Served.TheVariants as Serves
use Rattle.device_parts.specs.declared.condition.Condition.TheVariants.{Working}
use Rattle.device_parts.specs.Answers.{served_answer}
use Rattle.device_parts.proofs.ReadyLemmas.{same_flight}
use Rattle.bitmap_device.specs.Device.{standing_on}
use Rattle.bitmap_device.proofs.OverDisk.{is_done_on}
use Rattle.bitmap_device.proofs.ServeLemmas.{serve_finished, serve_held}
use Rattle.bitmap_device.proofs.serving.serve.Goals as goal

pub returns-in-Finished-clause-next : goal.returns-in-Finished-clause-next
returns-in-Finished-clause-next g c =
    let parts = c.args.parts.now in
    let regions = c.args.regions.now in
    let ticket = c.args.ticket.now in
    let a = g.D.Disk.moments c.args.disk.now in
    record {
      does = record {
        done = λ w is.
            is_done_on w is.disk is.format (Serve ticket) a a (served_answer Serves.Done) Working parts regions
            (serve_finished (standing_on w is.disk) parts regions a is.over ticket c.requires.there
            (sym c.turn.ensures.turn ∙ c.in-Finished.is));
        err = tt;
      };
      goes_on = λ did. absurd cc;
      waiting = λ waits. absurd cc;
      flight = same_flight parts.slots;
    }

pub returns-in-Held-clause-next : goal.returns-in-Held-clause-next
returns-in-Held-clause-next g c =
    let parts = c.args.parts.now in
    let regions = c.args.regions.now in
    let ticket = c.args.ticket.now in
    let a = g.D.Disk.moments c.args.disk.now in
    record {
      does = record {
        done = λ w is.
            is_done_on w is.disk is.format (Serve ticket) a a (served_answer (Serves.Held c.in-Held.by)) Working parts regions
            (serve_held (standing_on w is.disk) parts regions a is.over ticket c.requires.there c.in-Held.by
            (sym c.turn.ensures.turn ∙ c.in-Held.is));
        err = tt;
      };
      goes_on = λ did. absurd cc;
      waiting = λ waits. (refl, refl);
      flight = same_flight parts.slots;
    }
