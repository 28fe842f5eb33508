use Rattle.std.proofs.Common.{rules, refl}
use Rattle.direct_mode.proofs.PlacesLemmas.{flush_places}
use Rattle.direct_mode.proofs.ServingLemmas.{on_err_always}
use Rattle.request_slots.specs.Serving.{with_finish}
use Rattle.device_parts.specs.declared.answers.Served.TheVariants as Serves
use Rattle.device_parts.specs.declared.parts.Parts.{Parts}
use Rattle.device_parts.proofs.ReadyLemmas.{keeps_flight, same_flight}
use Rattle.direct_device.specs.Answers.{IsWrittenNext}
use Rattle.direct_device.specs.Device.{standing_on}
use Rattle.direct_device.proofs.OverDisk.{done_on, served_on}
use Rattle.direct_device.proofs.ServeLemmas.{serve_flush_done, serve_flush_failed}
use Rattle.device_model.specs.Progress.{FailedServe}
use Rattle.device_parts.specs.declared.condition.Condition.TheVariants.{Broken}
use Rattle.direct_device.proofs.serving.serve_flush.Goals as goal

pub returns-in_err-flush-clause-next : goal.returns-in_err-flush-clause-next
returns-in_err-flush-clause-next g c =
    let parts = c.args.parts.now in
    let ticket = c.args.ticket.now in
    let a = g.D.Disk.moments c.args.disk.now in
    let b = g.D.Disk.moments c.flush.new.disk in
    let new : Parts = record parts { tags = c.flush.new.tags } in
    record {
      does = record {
        done = search rules;
        err = on_err_always c.from_residual.result (λ w is.
            done_on w is.disk is.format (FailedServe ticket) a b Broken new c.args.recalculation.now
            (serve_flush_failed (standing_on w is.disk) parts c.args.recalculation.now a is.over ticket c.requires.there c.requires.turn new b refl refl
            (c.flush.ensures.through is.disk w.state.progress.regions.awaiting (is.over.works refl).cells)));
      };
      goes_on = search rules;
      waiting = search rules;
      flight = same_flight parts.slots;
    }

pub returns-clause-next : goal.returns-clause-next
returns-clause-next g c =
    let parts = c.args.parts.now in
    let ticket = c.args.ticket.now in
    let a = g.D.Disk.moments c.args.disk.now in
    let b = g.D.Disk.moments c.flush.new.disk in
    let new : Parts = record parts { tags = c.flush.new.tags; slots = c.finish.new.self } in
    record {
      does = record {
        done = λ w is.
            let cells = (is.over.works refl).cells in
            served_on w is.disk is.format ticket Serves.Done new c.args.recalculation.now a b
            (serve_flush_done (standing_on w is.disk) parts c.args.recalculation.now a is.over ticket c.requires.there c.requires.turn new b c.finish.ensures refl
            (c.flush.ensures.through is.disk w.state.progress.regions.awaiting cells)
            (c.in_ok-flush.ensures.flushed is.disk w.state.progress.regions.awaiting cells));
        err = tt;
      };
      goes_on = λ did. absurd cc;
      waiting = λ waits. absurd cc;
      flight = rw c.finish.ensures (keeps_flight ticket with_finish (λ x. refl) parts.slots);
    }

pub returns-in_err-flush-clause-writes : goal.returns-in_err-flush-clause-writes
returns-in_err-flush-clause-writes g c =
    flush_places (IsWrittenNext c.args.parts.now.slots c.args.ticket.now) c.args.parts.now.tags c.flush.new.tags
    c.flush.ensures.geometry c.flush.ensures.moments

pub returns-clause-writes : goal.returns-clause-writes
returns-clause-writes g c =
    flush_places (IsWrittenNext c.args.parts.now.slots c.args.ticket.now) c.args.parts.now.tags c.flush.new.tags
    c.flush.ensures.geometry c.flush.ensures.moments
