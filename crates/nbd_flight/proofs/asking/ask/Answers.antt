use Rattle.std.proofs.Common.{◌≡◌, List, Option, Some, None, option_map, refl, sym, ◌∙◌, ap, subst, arith}
use Rattle.request_slots.specs.InFlight.{as_submission}
use Rattle.device_parts.specs.declared.condition.Condition.TheVariants.{Working}
use Rattle.device.proofs.ModeLemmas.{flight_now}
use Rattle.device_model.specs.Submission.{Submission}
use Rattle.stream_io.specs.Stream.{AddsPrefix}
use Rattle.nbd_model.specs.Judged.{refusal_bytes}
use Rattle.nbd_model.specs.declared.nbd_request.NbdRequest.{NbdRequest}
use Rattle.nbd_flight.specs.declared.flight.Flight.{Flight}
use Rattle.nbd_flight.specs.declared.flight.Waiting.{Waiting}
use Rattle.nbd_flight.specs.Asking.{handed_for, handing, submitting}
use Rattle.nbd_flight.specs.Deeds.{Scene, held_with, scene_of}
use Rattle.nbd_flight.specs.Flight.{AreHeld, AreThose}
use Rattle.nbd_flight.specs.Rounds.{HasMade, moment_of}
use Rattle.nbd_flight.proofs.AskLemmas.{ask_made, ask_refused, ask_torn, made_from, whole_handed}
use Rattle.nbd_flight.proofs.CauseLemmas.{causes_none}
use Rattle.nbd_flight.proofs.DeedLemmas.{stopped_before}
use Rattle.nbd_flight.proofs.asking.ask.Goals as goal

pub returns-in_default-clause-stopped : goal.returns-in_default-clause-stopped
returns-in_default-clause-stopped g c message whole w is flying are taken =
    stopped_before w (handing message w (moment_of w flying taken)).deeds
    (scene_of g.D.Disk.moments g.O.Sink.held c.args.device.now.parts c.args.device.now.disk.now c.args.sink.now) is

pub returns-in-Err-clause-stopped : goal.returns-in-Err-clause-stopped
returns-in-Err-clause-stopped g c message whole w is flying are taken =
    stopped_before w (handing message w (moment_of w flying taken)).deeds
    (scene_of g.D.Disk.moments g.O.Sink.held c.args.device.now.parts c.args.device.now.disk.now c.args.sink.now) is

pub submit-requires-clause-held : goal.submit-requires-clause-held
submit-requires-clause-held g c =
    subst (λ (l : List Waiting). AreHeld 0 l c.args.device.now.parts.common.slots) (sym c.make_room.ensures.same) c.requires.held

pub returns-in-Ok-Some-clause-asked : goal.returns-in-Ok-Some-clause-asked
returns-in-Ok-Some-clause-asked g c message whole w is flying are taken =
    let old : Scene = scene_of g.D.Disk.moments g.O.Sink.held c.args.device.now.parts c.args.device.now.disk.now c.args.sink.now in
    let x : Flight = c.args.flight.now in
    let between : Flight = c.make_room.new.self in
    let parts = c.args.device.now.parts in
    let o : Option Submission = handed_for c.args.whole.asked c.args.whole.request.length c.args.whole.bytes.items in
    let flight = flight_now w Working parts.mode parts.common old.moments is in
    let told = whole_handed w.format.blocks parts.common.slots.blocks parts.common.slots.block_size c.args.whole message whole (sym flight.blocks) (sym flight.block_size) in
    let new : Scene = scene_of g.D.Disk.moments g.O.Sink.held c.submit.new.device.parts c.submit.new.device.disk.now c.args.sink.now in
    let submission = as_submission c.in-Ok-Some.request in
    let some : o ≡ Some submission = sym c.in-Ok-Some.ensures ∙ ap (option_map as_submission) c.in-Ok-Some.field-0-is in
    let those = subst (λ (l : List Waiting). AreThose l flying) (sym c.make_room.ensures.same) are in
    let made = c.submit.ensures.submitted (g.O.Sink.held c.args.sink.now) w is flying those taken in
    made_from w (handing message w (moment_of w flying taken)) x between c.submit.new.flight old new c.make_room.ensures.eio
    (ask_made w message flying taken between c.submit.new.flight old new o told submission some
    (subst (λ (r : NbdRequest). HasMade w (submitting submission r.cookie w (moment_of w flying taken)) between c.submit.new.flight old new) whole.request made))

pub returns-in-Ok-Some-clause-cause : goal.returns-in-Ok-Some-clause-cause
returns-in-Ok-Some-clause-cause g c = causes_none _ _ _ _ _ (ap g.D.Counted.faults c.submit.ensures.disk) refl

pub returns-in-Ok-refuse-clause-asked : goal.returns-in-Ok-refuse-clause-asked
returns-in-Ok-refuse-clause-asked g c message whole w is flying are taken =
    let old : Scene = scene_of g.D.Disk.moments g.O.Sink.held c.args.device.now.parts c.args.device.now.disk.now c.args.sink.now in
    let x : Flight = c.args.flight.now in
    let between : Flight = c.make_room.new.self in
    let parts = c.args.device.now.parts in
    let o : Option Submission = handed_for c.args.whole.asked c.args.whole.request.length c.args.whole.bytes.items in
    let flight = flight_now w Working parts.mode parts.common old.moments is in
    let told = whole_handed w.format.blocks parts.common.slots.blocks parts.common.slots.block_size c.args.whole message whole (sym flight.blocks) (sym flight.block_size) in
    let new : Scene = scene_of g.D.Disk.moments g.O.Sink.held c.args.device.now.parts c.args.device.now.disk.now c.refuse.new.sink in
    let none : o ≡ None = sym c.in-Ok-None.ensures ∙ ap (option_map as_submission) c.in-Ok-None.field-0-is in
    ask_refused w message flying taken x between old new o told none refl refl is
    (c.in-Ok-refuse.ensures.written ∙ ap (λ (r : NbdRequest). held_with (refusal_bytes r.cookie) old.held) whole.request)
    c.make_room.ensures.same c.make_room.ensures.eio are

pub returns-in-Ok-refuse-clause-cause : goal.returns-in-Ok-refuse-clause-cause
returns-in-Ok-refuse-clause-cause g c = causes_none _ _ _ _ _ refl c.in-Ok-refuse.ensures.cause.passed

pub returns-in-Ok-refuse-clause-stays : goal.returns-in-Ok-refuse-clause-stays
returns-in-Ok-refuse-clause-stays g c = record {
  works = c.requires.works;
  held = subst (λ (l : List Waiting). AreHeld 0 l c.args.device.now.parts.common.slots) (sym c.make_room.ensures.same) c.requires.held;
  same_mode = refl;
  blocks = refl;
  block_size = refl;
  submitted = omega arith;
}

pub returns-in-Err-refuse-clause-stopped : goal.returns-in-Err-refuse-clause-stopped
returns-in-Err-refuse-clause-stopped g c message whole w is flying are taken =
    let old : Scene = scene_of g.D.Disk.moments g.O.Sink.held c.args.device.now.parts c.args.device.now.disk.now c.args.sink.now in
    let x : Flight = c.args.flight.now in
    let between : Flight = c.make_room.new.self in
    let parts = c.args.device.now.parts in
    let o : Option Submission = handed_for c.args.whole.asked c.args.whole.request.length c.args.whole.bytes.items in
    let flight = flight_now w Working parts.mode parts.common old.moments is in
    let told = whole_handed w.format.blocks parts.common.slots.blocks parts.common.slots.block_size c.args.whole message whole (sym flight.blocks) (sym flight.block_size) in
    let new : Scene = scene_of g.D.Disk.moments g.O.Sink.held c.args.device.now.parts c.args.device.now.disk.now c.refuse.new.sink in
    let none : o ≡ None = sym c.in-Ok-None.ensures ∙ ap (option_map as_submission) c.in-Ok-None.field-0-is in
    ask_torn w message flying taken x between old new o told none refl refl is
    (subst (λ (r : NbdRequest). AddsPrefix (refusal_bytes r.cookie) old.held new.held) whole.request c.in-Err-refuse.ensures.err)
