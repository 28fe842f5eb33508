use Rattle.std.proofs.Common.{◌<◌, ◌||◌, Bool, length, refl, ap, subst, arith}
use Rattle.device.proofs.CallLemmas.{device_works}
use Rattle.nbd_model.specs.Session.{taken_of}
use Rattle.nbd_flight.specs.declared.stop.Stop.TheVariants.{Sink}
use Rattle.nbd_flight.specs.declared.flight.Flight.{Flight}
use Rattle.nbd_flight.specs.declared.flight.Waiting.{Waiting}
use Rattle.nbd_flight.specs.Deeds.{HasStopped, scene_of}
use Rattle.nbd_flight.specs.Flight.{flying_of}
use Rattle.nbd_flight.specs.Rounds.{HasReplied}
use Rattle.nbd_flight.proofs.FlightLemmas.{own-is}
use Rattle.nbd_flight.proofs.ReplyLemmas.{reply_done, reply_none, reply_torn}
use Rattle.nbd_flight.proofs.StaysLemmas.{own_there, stays_taken}
use Rattle.nbd_flight.proofs.rounds.reply.Goals as goal

pub take-requires : goal.take-requires
take-requires g c =
    let counted = c.args.flight.now.waiting.ok.0 in
    let at = c.requires.at in
    let low : c.args.at < length c.args.flight.now.waiting.items = omega (arith, counted, at) in
    record {
      there = own_there g.D.Disk.identity g.D.Disk.moments c.args.device.now.condition c.args.device.now.condition c.args.device.now.parts c.args.device.now.parts c.args.device.now.disk.now c.args.device.now.disk.now
          c.args.at c.remove-ticket.result c.args.flight.now c.requires.works c.requires.held low c.remove-ticket.ensures.value;
    }

pub returns-in-Ok-put_reply-clause-replied : goal.returns-in-Ok-put_reply-clause-replied
returns-in-Ok-put_reply-clause-replied g c w is before own rest split place number =
    let counted = c.args.flight.now.waiting.ok.0 in
    let at = c.requires.at in
    let low : c.args.at < length c.args.flight.now.waiting.items = omega (arith, counted, at) in
    let old = scene_of g.D.Disk.moments g.O.Sink.held c.args.device.now.parts c.args.device.now.disk.now c.args.sink.now in
    let new = scene_of g.D.Disk.moments g.O.Sink.held c.take.new.self.parts c.take.new.self.disk.now c.put_reply.new.sink in
    let x : Flight = c.args.flight.now in
    let y : Flight = record { waiting = c.remove-ticket.new.self; eio = c.args.flight.now.eio || c.is_damage.result } in
    let taken = c.in-Ok.ensures.done w (device_works w _ _ _ c.requires.works.is is) in
    subst (λ (q : Waiting). HasReplied w (flying_of number q) x y old new)
    (own-is c.args.flight.now.waiting.items c.args.at c.remove-ticket.result before own rest c.remove-ticket.ensures.value split place)
    (reply_done w c.remove-ticket.result number c.args.device.now.condition x y old new is (own_there g.D.Disk.identity g.D.Disk.moments c.args.device.now.condition c.args.device.now.condition c.args.device.now.parts c.args.device.now.parts c.args.device.now.disk.now c.args.device.now.disk.now
    c.args.at c.remove-ticket.result c.args.flight.now c.requires.works c.requires.held low c.remove-ticket.ensures.value) c.requires.works.is
    (ap g.D.Disk.moments c.take.ensures.disk) c.in-Ok.reply taken c.in-Ok.ensures.reply c.in-Ok-put_reply.ensures.written
    (ap (λ (b : Bool). c.args.flight.now.eio || b) c.is_damage.ensures))

pub returns-in-Err-put_reply-clause-stopped : goal.returns-in-Err-put_reply-clause-stopped
returns-in-Err-put_reply-clause-stopped g c w is before own rest split place number =
    let counted = c.args.flight.now.waiting.ok.0 in
    let at = c.requires.at in
    let low : c.args.at < length c.args.flight.now.waiting.items = omega (arith, counted, at) in
    let old = scene_of g.D.Disk.moments g.O.Sink.held c.args.device.now.parts c.args.device.now.disk.now c.args.sink.now in
    let new = scene_of g.D.Disk.moments g.O.Sink.held c.take.new.self.parts c.take.new.self.disk.now c.put_reply.new.sink in
    let x : Flight = c.args.flight.now in
    let taken = c.in-Ok.ensures.done w (device_works w _ _ _ c.requires.works.is is) in
    subst (λ (q : Waiting). HasStopped w (taken_of w.format (flying_of number q) w.state) Sink old new)
    (own-is c.args.flight.now.waiting.items c.args.at c.remove-ticket.result before own rest c.remove-ticket.ensures.value split place)
    (reply_torn w c.remove-ticket.result number c.args.device.now.condition x x old new is (own_there g.D.Disk.identity g.D.Disk.moments c.args.device.now.condition c.args.device.now.condition c.args.device.now.parts c.args.device.now.parts c.args.device.now.disk.now c.args.device.now.disk.now
    c.args.at c.remove-ticket.result c.args.flight.now c.requires.works c.requires.held low c.remove-ticket.ensures.value) c.requires.works.is
    (ap g.D.Disk.moments c.take.ensures.disk) c.in-Ok.reply taken c.in-Ok.ensures.reply c.in-Err-put_reply.ensures.err)

pub returns-in-Err-clause-replied : goal.returns-in-Err-clause-replied
returns-in-Err-clause-replied g c w is before own rest split place number =
    let counted = c.args.flight.now.waiting.ok.0 in
    let at = c.requires.at in
    let low : c.args.at < length c.args.flight.now.waiting.items = omega (arith, counted, at) in
    let old = scene_of g.D.Disk.moments g.O.Sink.held c.args.device.now.parts c.args.device.now.disk.now c.args.sink.now in
    let new = scene_of g.D.Disk.moments g.O.Sink.held c.take.new.self.parts c.take.new.self.disk.now c.args.sink.now in
    let x : Flight = c.args.flight.now in
    let y : Flight = record { waiting = c.remove-ticket.new.self; eio = c.args.flight.now.eio } in
    let taken = c.in-Err.ensures.done w (device_works w _ _ _ c.requires.works.is is) in
    subst (λ (q : Waiting). HasReplied w (flying_of number q) x y old new)
    (own-is c.args.flight.now.waiting.items c.args.at c.remove-ticket.result before own rest c.remove-ticket.ensures.value split place)
    (reply_none w c.remove-ticket.result number c.args.device.now.condition x y old new is (own_there g.D.Disk.identity g.D.Disk.moments c.args.device.now.condition c.args.device.now.condition c.args.device.now.parts c.args.device.now.parts c.args.device.now.disk.now c.args.device.now.disk.now
    c.args.at c.remove-ticket.result c.args.flight.now c.requires.works c.requires.held low c.remove-ticket.ensures.value) c.requires.works.is
    (ap g.D.Disk.moments c.take.ensures.disk) c.in-Err.field-0 taken refl refl)

pub returns-in-Ok-put_reply-clause-stays : goal.returns-in-Ok-put_reply-clause-stays
returns-in-Ok-put_reply-clause-stays g c =
    let counted = c.args.flight.now.waiting.ok.0 in
    let at = c.requires.at in
    let low : c.args.at < length c.args.flight.now.waiting.items = omega (arith, counted, at) in
    stays_taken g.D.Disk.identity g.D.Disk.moments c.args.device.now.condition c.take.new.self.condition c.args.device.now.parts c.take.new.self.parts c.args.device.now.disk.now c.take.new.self.disk.now
    c.args.at c.remove-ticket.result c.args.flight.now c.requires.works c.requires.held low c.remove-ticket.ensures.value
    (record { waiting = c.remove-ticket.new.self; eio = c.args.flight.now.eio || c.is_damage.result })
    c.take.ensures.condition c.take.ensures.taken c.take.ensures.ready c.remove-ticket.ensures.items

pub returns-in-Err-clause-stays : goal.returns-in-Err-clause-stays
returns-in-Err-clause-stays g c =
    let counted = c.args.flight.now.waiting.ok.0 in
    let at = c.requires.at in
    let low : c.args.at < length c.args.flight.now.waiting.items = omega (arith, counted, at) in
    stays_taken g.D.Disk.identity g.D.Disk.moments c.args.device.now.condition c.take.new.self.condition c.args.device.now.parts c.take.new.self.parts c.args.device.now.disk.now c.take.new.self.disk.now
    c.args.at c.remove-ticket.result c.args.flight.now c.requires.works c.requires.held low c.remove-ticket.ensures.value
    (record { waiting = c.remove-ticket.new.self; eio = c.args.flight.now.eio })
    c.take.ensures.condition c.take.ensures.taken c.take.ensures.ready c.remove-ticket.ensures.items
