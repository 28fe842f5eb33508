use Rattle.std.proofs.Common.{◌≡◌, ℕ, ◌<◌, length, Some, Err, refl, sym, ◌∙◌, ap, subst, arith}
use Rattle.std.proofs.lemmas.Result.{err_from_is_err_and}
use Rattle.device_model.specs.Progress.{answers}
use Rattle.device_model.specs.Script.{last_answer, turn_events}
use Rattle.device_parts.specs.declared.answers.Served.{Served}
use Rattle.device_parts.specs.declared.answers.Served.TheVariants as Serves
use Rattle.device_parts.specs.Answers.{served_answer}
use Rattle.device.specs.Run.{HasFailed, HasRun, standing_behind}
use Rattle.nbd_flight.specs.declared.stop.Stop.{Stop}
use Rattle.nbd_flight.specs.declared.stop.Stop.TheVariants as Faults
use Rattle.nbd_flight.specs.declared.flight.Waiting.{Waiting}
use Rattle.nbd_flight.specs.declared.rounds.Turn.TheVariants.{Waits}
use Rattle.nbd_flight.specs.Deeds.{HasStopped, Scene, scene_of}
use Rattle.nbd_flight.specs.Flight.{flying_of}
use Rattle.nbd_flight.specs.Rounds.{ForOwn, one_service}
use Rattle.nbd_flight.proofs.CauseLemmas.{causes_none, if_err_of, passed_behind}
use Rattle.nbd_flight.proofs.DeedLemmas.{done_none}
use Rattle.nbd_flight.proofs.FlightLemmas.{held_kept, own-is}
use Rattle.nbd_flight.proofs.ServiceLemmas.{service_failed, service_over, service_torn, service_waits}
use Rattle.nbd_flight.proofs.StaysLemmas.{own_there, stays_kept}
use Rattle.nbd_flight.proofs.rounds.serve.Goals as goal

pub serve_with_room-requires-clause-there : goal.serve_with_room-requires-clause-there
serve_with_room-requires-clause-there g c =
    let counted = c.args.flight.now.waiting.ok.0 in
    let at = c.requires.at in
    let low : c.args.at < length c.args.flight.now.waiting.items = omega (arith, counted, at) in
    own_there g.D.Disk.identity g.D.Disk.moments c.args.device.now.condition c.args.device.now.condition c.args.device.now.parts c.args.device.now.parts c.args.device.now.disk.now c.args.device.now.disk.now
    c.args.at c.index.result.now c.args.flight.now c.requires.works c.requires.held low c.index.ensures

pub reply-requires-clause-held : goal.reply-requires-clause-held
reply-requires-clause-held g c =
    held_kept 0 c.args.flight.now.waiting.items c.args.device.now.parts.common.slots c.serve_with_room.new.device.parts.common.slots c.in-Ok.ensures.runs.keeps.flight c.requires.held

pub returns-in_err-reply-in-Done-clause-stopped : goal.returns-in_err-reply-in-Done-clause-stopped
returns-in_err-reply-in-Done-clause-stopped g c =
    let old : Scene = scene_of g.D.Disk.moments g.O.Sink.held c.args.device.now.parts c.args.device.now.disk.now c.args.sink.now in
    let mid : Scene = scene_of g.D.Disk.moments g.O.Sink.held c.serve_with_room.new.device.parts c.serve_with_room.new.device.disk.now c.args.sink.now in
    let new : Scene = scene_of g.D.Disk.moments g.O.Sink.held c.reply.new.device.parts c.reply.new.device.disk.now c.reply.new.sink in
    let waiting = c.args.flight.now.waiting.items in
    let P : Stop → Type 0 = λ fault. ForOwn waiting c.args.at old (λ w r. (taken : ℕ) → HasStopped w (one_service w taken r).deeds fault old new) in
    let p = err_from_is_err_and c.from_residual.result c.from_residual.ensures.1 in
    if_err_of P c.from_residual.result p.0 p.1 (subst P (sym p.2) (λ w is before own rest split place number taken.
    let own_is = own-is waiting c.args.at c.index.result.now before own rest c.index.ensures split place in
    let run = subst (λ (q : Waiting). HasRun w (turn_events w.format q.ticket w.state) mid.parts old.moments mid.moments) own_is (c.in-Ok.ensures.runs.done w is) in
    let done = subst (λ (s : Served). last_answer (answers w.format w.state (turn_events w.format c.index.result.now.ticket w.state)) ≡ Some (served_answer s)) c.in-Done.is (c.in-Ok.ensures.answers w is) in
    let answer = subst (λ (q : Waiting). last_answer (answers w.format w.state (turn_events w.format q.ticket w.state)) ≡ Some (served_answer Serves.Done)) own_is done in
    let there = standing_behind w (turn_events w.format own.ticket w.state) in
    service_torn w taken (flying_of number own) answer _ old mid new run refl
    (c.in_err-reply-in-Done.ensures.stopped there run.device before own rest split place number)))

pub returns-in_err-reply-in-Done-clause-memory : goal.returns-in_err-reply-in-Done-clause-memory
returns-in_err-reply-in-Done-clause-memory g c =
    let p = err_from_is_err_and c.from_residual.result c.from_residual.ensures.1 in
    passed_behind c.reply.result c.from_residual.result p.0 (c.in_err-reply-in-Done.was ∙ ap Err (sym p.2)) p.1 Faults.Memory c.reply.ensures.memory

pub returns-in_ok-reply-in-Done-clause-served : goal.returns-in_ok-reply-in-Done-clause-served
returns-in_ok-reply-in-Done-clause-served g c w is before own rest split place number taken =
    let old : Scene = scene_of g.D.Disk.moments g.O.Sink.held c.args.device.now.parts c.args.device.now.disk.now c.args.sink.now in
    let mid : Scene = scene_of g.D.Disk.moments g.O.Sink.held c.serve_with_room.new.device.parts c.serve_with_room.new.device.disk.now c.args.sink.now in
    let new : Scene = scene_of g.D.Disk.moments g.O.Sink.held c.reply.new.device.parts c.reply.new.device.disk.now c.reply.new.sink in
    let waiting = c.args.flight.now.waiting.items in
    let own_is = own-is waiting c.args.at c.index.result.now before own rest c.index.ensures split place in
    let run = subst (λ (q : Waiting). HasRun w (turn_events w.format q.ticket w.state) mid.parts old.moments mid.moments) own_is (c.in-Ok.ensures.runs.done w is) in
    let done = subst (λ (s : Served). last_answer (answers w.format w.state (turn_events w.format c.index.result.now.ticket w.state)) ≡ Some (served_answer s)) c.in-Done.is (c.in-Ok.ensures.answers w is) in
    let answer = subst (λ (q : Waiting). last_answer (answers w.format w.state (turn_events w.format q.ticket w.state)) ≡ Some (served_answer Serves.Done)) own_is done in
    let there = standing_behind w (turn_events w.format own.ticket w.state) in
    service_over w taken (flying_of number own) answer c.args.flight.now c.reply.new.flight old mid new run refl
    (c.in_ok-reply-in-Done.ensures.replied there run.device before own rest split place number)

pub returns-in_default : goal.returns-in_default
returns-in_default g c =
    let old : Scene = scene_of g.D.Disk.moments g.O.Sink.held c.args.device.now.parts c.args.device.now.disk.now c.args.sink.now in
    let new : Scene = scene_of g.D.Disk.moments g.O.Sink.held c.serve_with_room.new.device.parts c.serve_with_room.new.device.disk.now c.args.sink.now in
    let waiting = c.args.flight.now.waiting.items in
    record {
      served = λ w is before own rest split place number taken.
          let own_is = own-is waiting c.args.at c.index.result.now before own rest c.index.ensures split place in
          let run = subst (λ (q : Waiting). HasRun w (turn_events w.format q.ticket w.state) new.parts old.moments new.moments) own_is (c.in-Ok.ensures.runs.done w is) in
          let answer = subst (λ (q : Waiting). last_answer (answers w.format w.state (turn_events w.format q.ticket w.state)) ≡ Some (served_answer c.in-Ok.served)) own_is (c.in-Ok.ensures.answers w is) in
          service_waits w taken (flying_of number own) c.in-Ok.served c.in_default.not-Done answer c.args.flight.now c.args.flight.now old new run refl refl;
      stopped = tt;
      cause = causes_none Waits _ _ _ _ c.in-Ok.ensures.cause.passed refl;
      memory = λ e. cc;
      left = refl;
      stays = stays_kept g.D.Disk.identity g.D.Disk.moments c.serve_with_room.new.device.condition c.args.device.now.parts c.serve_with_room.new.device.parts _ c.serve_with_room.new.device.disk.now c.args.flight.now
          c.in-Ok.ensures.turn c.in-Ok.ensures.runs.keeps c.requires.held;
      identity = c.in-Ok.ensures.runs.keeps.identity;
      same_disk = c.serve_with_room.ensures.same_disk;
    }

pub returns-in-Err-clause-stopped : goal.returns-in-Err-clause-stopped
returns-in-Err-clause-stopped g c w is before own rest split place number taken =
    let old : Scene = scene_of g.D.Disk.moments g.O.Sink.held c.args.device.now.parts c.args.device.now.disk.now c.args.sink.now in
    let new : Scene = scene_of g.D.Disk.moments g.O.Sink.held c.serve_with_room.new.device.parts c.serve_with_room.new.device.disk.now c.args.sink.now in
    let own_is = own-is c.args.flight.now.waiting.items c.args.at c.index.result.now before own rest c.index.ensures split place in
    service_failed w taken (flying_of number own) old new
    (subst (λ (q : Waiting). HasFailed w (turn_events w.format q.ticket w.state) new.parts old.moments new.moments) own_is (c.in-Err.ensures.runs.err w is)) refl (done_none w old is)
