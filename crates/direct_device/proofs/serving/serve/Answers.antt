use Rattle.std.proofs.Common.{refl, sym, ◌∙◌}
use Rattle.direct_mode.proofs.PlacesLemmas.{WritesPlaces-kept}
use Rattle.device_parts.specs.declared.answers.Served.TheVariants as Serves
use Rattle.device_parts.proofs.ReadyLemmas.{same_flight}
use Rattle.direct_device.specs.Answers.{IsWrittenNext}
use Rattle.direct_device.specs.Device.{standing_on}
use Rattle.direct_device.proofs.OverDisk.{served_on}
use Rattle.direct_device.proofs.ServeLemmas.{serve_finished, serve_held}
use Rattle.direct_device.proofs.serving.serve.Goals as goal

pub returns-in-Finished-clause-next : goal.returns-in-Finished-clause-next
returns-in-Finished-clause-next g c =
    let parts = c.args.parts.now in
    let ticket = c.args.ticket.now in
    let a = g.D.Disk.moments c.args.disk.now in
    record {
      does = record {
        done = λ w is.
            served_on w is.disk is.format ticket Serves.Done parts c.args.recalculation.now a a
            (serve_finished (standing_on w is.disk) parts c.args.recalculation.now a is.over ticket c.requires.there
            (sym c.turn.ensures.turn ∙ c.in-Finished.is));
        err = tt;
      };
      goes_on = λ did. absurd cc;
      waiting = λ waits. absurd cc;
      flight = same_flight parts.slots;
    }

pub returns-in-Held-clause-next : goal.returns-in-Held-clause-next
returns-in-Held-clause-next g c =
    let parts = c.args.parts.now in
    let ticket = c.args.ticket.now in
    let a = g.D.Disk.moments c.args.disk.now in
    record {
      does = record {
        done = λ w is.
            served_on w is.disk is.format ticket (Serves.Held c.in-Held.by) parts c.args.recalculation.now a a
            (serve_held (standing_on w is.disk) parts c.args.recalculation.now a is.over ticket c.requires.there c.in-Held.by
            (sym c.turn.ensures.turn ∙ c.in-Held.is));
        err = tt;
      };
      goes_on = λ did. absurd cc;
      waiting = λ waits. (refl, refl);
      flight = same_flight parts.slots;
    }

pub returns-in-Finished-clause-writes : goal.returns-in-Finished-clause-writes
returns-in-Finished-clause-writes g c =
    let parts = c.args.parts.now in
    WritesPlaces-kept (IsWrittenNext parts.slots c.args.ticket.now) parts.tags.geometry refl

pub returns-in-Held-clause-writes : goal.returns-in-Held-clause-writes
returns-in-Held-clause-writes g c =
    let parts = c.args.parts.now in
    WritesPlaces-kept (IsWrittenNext parts.slots c.args.ticket.now) parts.tags.geometry refl
