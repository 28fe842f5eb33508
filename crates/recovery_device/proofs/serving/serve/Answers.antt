use Rattle.std.proofs.Common.{refl, sym, ◌∙◌, subst}
use Rattle.request_slots.specs.Flight.{IsRead, IsWrite}
use Rattle.request_slots.specs.Serving.{with_finish}
use Rattle.device_parts.specs.Device.{KeepsFlight}
use Rattle.device_parts.proofs.ReadyLemmas.{keeps_flight, same_flight}
use Rattle.recovery_device.specs.Device.{HasNoWrite}
use Rattle.recovery_device.proofs.NoWriteLemmas.{no_write_next, no_write_same, others_kept, others_same}
use Rattle.recovery_device.proofs.ReadyLemmas.{ready_then}
use Rattle.recovery_device.proofs.ServeLemmas.{serve_finished, serve_flush, serve_held}
use Rattle.recovery_device.proofs.serving.serve.Goals as goal

pub returns-in-Finished-clause-next : goal.returns-in-Finished-clause-next
returns-in-Finished-clause-next g c =
    let parts = c.args.parts.now in
    record {
      does = record {
        done = λ w is.
            serve_finished w parts (g.D.Disk.moments c.args.disk.now) is c.args.ticket.now c.requires.there
            (sym c.turn.ensures.turn ∙ c.in-Finished.is);
        err = tt;
      };
      goes_on = λ did. absurd cc;
      waiting = λ waits. absurd cc;
      flight = same_flight parts.slots;
    }

pub returns-in-Held-clause-next : goal.returns-in-Held-clause-next
returns-in-Held-clause-next g c =
    let parts = c.args.parts.now in
    record {
      does = record {
        done = λ w is.
            serve_held w parts (g.D.Disk.moments c.args.disk.now) is c.args.ticket.now c.requires.there c.in-Held.by
            (sym c.turn.ensures.turn ∙ c.in-Held.is);
        err = tt;
      };
      goes_on = λ did. absurd cc;
      waiting = λ waits. (refl, refl);
      flight = same_flight parts.slots;
    }

pub returns-in-Finished-clause-others : goal.returns-in-Finished-clause-others
returns-in-Finished-clause-others g c = others_same c.args.ticket.now c.args.parts.now.slots

pub returns-in-Held-clause-others : goal.returns-in-Held-clause-others
returns-in-Held-clause-others g c = others_same c.args.ticket.now c.args.parts.now.slots

pub unreachable-requires : goal.unreachable-requires
unreachable-requires g c =
    no_write_next c.args.parts.now.slots c.args.ticket.now c.requires.ready.no_write
    (subst IsWrite (sym (sym c.turn.ensures.turn ∙ c.in-Write.is)) tt)

pub returns-in-Flush-clause-next : goal.returns-in-Flush-clause-next
returns-in-Flush-clause-next g c =
    let parts = c.args.parts.now in
    let ticket = c.args.ticket.now in
    record {
      does = record {
        done = λ w is.
            serve_flush w parts (g.D.Disk.moments c.args.disk.now) is ticket c.requires.there
            (record parts { slots = c.finish.new.self }) (sym c.turn.ensures.turn ∙ c.in-Flush.is) refl c.finish.ensures;
        err = tt;
      };
      goes_on = λ did. absurd cc;
      waiting = λ waits. absurd cc;
      flight = rw c.finish.ensures (keeps_flight ticket with_finish (λ x. refl) parts.slots);
    }

pub returns-in-Flush-clause-ready : goal.returns-in-Flush-clause-ready
returns-in-Flush-clause-ready g c =
    let parts = c.args.parts.now in
    let ticket = c.args.ticket.now in
    let flight : KeepsFlight parts.slots c.finish.new.self = rw c.finish.ensures (keeps_flight ticket with_finish (λ x. refl) parts.slots) in
    ready_then parts (record parts { slots = c.finish.new.self }) _ _ _ _ c.requires.ready c.requires.ready.kept.store refl flight refl refl
    c.requires.ready.kept.buffer
    (subst HasNoWrite (sym c.finish.ensures) (no_write_same ticket with_finish (λ x. refl) parts.slots c.requires.ready.no_write))

pub returns-in-Flush-clause-others : goal.returns-in-Flush-clause-others
returns-in-Flush-clause-others g c =
    rw c.finish.ensures (others_kept c.args.ticket.now with_finish (λ x. refl) c.args.parts.now.slots)

pub returns-in-Read-clause-uncalled : goal.returns-in-Read-clause-uncalled
returns-in-Read-clause-uncalled g c not_read =
    absurd (not_read (subst IsRead (sym (sym c.turn.ensures.turn ∙ c.in-Read.is)) tt))
