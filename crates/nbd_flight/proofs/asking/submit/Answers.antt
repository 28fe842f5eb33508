use Rattle.std.proofs.Common.{suc, Option, refl, ap, subst}
use Rattle.device_model.specs.Progress.{Submit}
use Rattle.request_slots.specs.InFlight.{as_submission, submit_answer}
use Rattle.request_slots.specs.declared.submit_fault.SubmitFault.{SubmitFault}
use Rattle.device_parts.specs.Device.{IsDone}
use Rattle.device.specs.Calls.{refusal_to}
use Rattle.device.specs.Device.{any_mode}
use Rattle.device.proofs.CallLemmas.{device_works}
use Rattle.nbd_flight.specs.declared.flight.Flight.{Flight}
use Rattle.nbd_flight.specs.declared.flight.Waiting.{Waiting}
use Rattle.nbd_flight.specs.Deeds.{Scene, scene_with}
use Rattle.nbd_flight.proofs.AskLemmas.{given_ticket, refused_back, stays_refused, stays_submitted, submit_made, submit_refused}
use Rattle.nbd_flight.proofs.asking.submit.Goals as goal

pub returns-in-Ok-clause-submitted : goal.returns-in-Ok-clause-submitted
returns-in-Ok-clause-submitted g c held w is flying are taken =
    let old : Scene = scene_with held g.D.Disk.moments c.args.device.now.parts c.args.device.now.disk.now in
    let new : Scene = scene_with held g.D.Disk.moments c.submit.new.self.parts c.submit.new.self.disk.now in
    let x : Flight = c.args.flight.now in
    let y : Flight = record { waiting = c.push_reserved.new.self; eio = c.args.flight.now.eio } in
    let own : Waiting = record { ticket = c.in-Ok.ticket; cookie = c.args.cookie } in
    let n = suc c.args.device.now.parts.common.slots.submitted in
    let given = given_ticket (refusal_to c.args.device.now.parts c.args.device.now.condition c.args.request) n c.in-Ok.ticket c.args.request c.in-Ok.ensures.answer in
    let done = c.submit.ensures.done w (device_works w _ _ _ c.requires.works.is is) in
    let ticketed = subst (λ (o : Option SubmitFault). IsDone any_mode w (Submit (as_submission c.args.request)) (submit_answer o n) c.args.device.now.condition c.submit.new.self.parts new.moments new.moments) given.1 done in
    submit_made w (as_submission c.args.request) c.args.cookie flying taken x y old new c.args.device.now.condition c.requires.works.is (ap g.D.Disk.moments c.submit.ensures.disk) refl
    n own ticketed given.0 refl c.push_reserved.ensures.items refl are

pub returns-in-Ok-clause-stays : goal.returns-in-Ok-clause-stays
returns-in-Ok-clause-stays g c =
    let x : Flight = c.args.flight.now in
    let y : Flight = record { waiting = c.push_reserved.new.self; eio = c.args.flight.now.eio } in
    let own : Waiting = record { ticket = c.in-Ok.ticket; cookie = c.args.cookie } in
    let n = suc c.args.device.now.parts.common.slots.submitted in
    let fault = refusal_to c.args.device.now.parts c.args.device.now.condition c.args.request in
    let given = given_ticket fault n c.in-Ok.ticket c.args.request c.in-Ok.ensures.answer in
    stays_submitted g.D.Disk.identity g.D.Disk.moments c.args.device.now.condition c.submit.new.self.condition c.args.device.now.parts c.submit.new.self.parts c.args.device.now.disk.now c.submit.new.self.disk.now
    c.args.request x y c.requires.works c.submit.ensures.condition c.submit.ensures.ready c.requires.held fault own given.1 c.submit.ensures.submitted given.0 c.push_reserved.ensures.items

pub returns-in-Err-clause-submitted : goal.returns-in-Err-clause-submitted
returns-in-Err-clause-submitted g c held w is flying are taken =
    let old : Scene = scene_with held g.D.Disk.moments c.args.device.now.parts c.args.device.now.disk.now in
    let new : Scene = scene_with held g.D.Disk.moments c.submit.new.self.parts c.submit.new.self.disk.now in
    let x : Flight = c.args.flight.now in
    let n = suc c.args.device.now.parts.common.slots.submitted in
    let refused = refused_back (refusal_to c.args.device.now.parts c.args.device.now.condition c.args.request) n c.args.request c.in-Err.refusal c.in-Err.ensures.answer in
    let done = c.submit.ensures.done w (device_works w _ _ _ c.requires.works.is is) in
    let told = subst (λ (o : Option SubmitFault). IsDone any_mode w (Submit (as_submission c.args.request)) (submit_answer o n) c.args.device.now.condition c.submit.new.self.parts new.moments new.moments) refused.is done in
    submit_refused w (as_submission c.args.request) c.args.cookie flying taken x x old new c.args.device.now.condition c.requires.works.is (ap g.D.Disk.moments c.submit.ensures.disk) refl
    refused.why told refl refl are

pub returns-in-Err-clause-stays : goal.returns-in-Err-clause-stays
returns-in-Err-clause-stays g c =
    let x : Flight = c.args.flight.now in
    let n = suc c.args.device.now.parts.common.slots.submitted in
    let fault = refusal_to c.args.device.now.parts c.args.device.now.condition c.args.request in
    let refused = refused_back fault n c.args.request c.in-Err.refusal c.in-Err.ensures.answer in
    stays_refused g.D.Disk.identity g.D.Disk.moments c.args.device.now.condition c.submit.new.self.condition c.args.device.now.parts c.submit.new.self.parts c.args.device.now.disk.now c.submit.new.self.disk.now
    c.args.request x x c.requires.works c.submit.ensures.condition c.submit.ensures.ready c.requires.held fault refused c.submit.ensures.submitted refl
