use Rattle.std.proofs.Common.{rules, ap, sym, subst, ◌∙◌}
use Rattle.std.proofs.lemmas.Result.{err_from_is_err_and}
use Rattle.device_model.specs.Progress.{Serve}
use Rattle.device_parts.specs.declared.answers.Served.{Served}
use Rattle.device_parts.specs.Answers.{served_answer}
use Rattle.device_parts.specs.Device.{Answers}
use Rattle.request_slots.specs.Flight.{Flight}
use Rattle.journal_device.specs.Telling.{IsTicketOf}
use Rattle.device.specs.declared.mode.DeviceParts.{DeviceParts}
use Rattle.device.specs.Run.{one_serve, one_turn}
use Rattle.device.specs.Telling.{has_room_in}
use Rattle.device.proofs.CallLemmas.{kept_then, runs_behind, runs_failed, turn_broken}
use Rattle.device.proofs.ModeLemmas.{if_ok_each}
use Rattle.device.proofs.FinishLemmas.{answer-alone, answer-with_room}
use Rattle.device.proofs.TellingLemmas.{tells_with_room, told_alone}
use Rattle.device.proofs.TurnRunLemmas.{roomy, turn_alone, turn_failed, turn_failed_again, turn_failed_in_room, turn_with_room}
use Rattle.device.proofs.finishing.serve_with_room.Goals as goal

pub returns-in_err-served-clause-runs : goal.returns-in_err-served-clause-runs
returns-in_err-served-clause-runs g c =
    let p = err_from_is_err_and c.from_residual.result c.from_residual.ensures.1 in
    let runs = c.in_err-served.ensures.runs in
    runs_failed g.D.Disk.identity g.D.Disk.moments _ _ _ _ _ c.from_residual.result p.0 p.1
    (λ w is. turn_failed w c.args.ticket.now _ _ _ (runs.err w is)) runs.keeps

pub returns-in_err-make_room-in-NoRoom-clause-runs : goal.returns-in_err-make_room-in-NoRoom-clause-runs
returns-in_err-make_room-in-NoRoom-clause-runs g c =
    let p = err_from_is_err_and c.from_residual-in_err-make_room-in-NoRoom.result c.from_residual-in_err-make_room-in-NoRoom.ensures.1 in
    let first = c.in_ok-served.ensures.runs in
    let runs = c.in_err-make_room-in-NoRoom.ensures.runs in
    runs_failed g.D.Disk.identity g.D.Disk.moments _ _ _ _ _ c.from_residual-in_err-make_room-in-NoRoom.result p.0 p.1
    (λ w is.
    let full = subst (λ (x : Served). Answers w (Serve c.args.ticket.now) (served_answer x)) c.in-NoRoom.is (c.in_ok-served.ensures.answers w is) in
    turn_failed_in_room w c.args.ticket.now full _ _ _ _ _ (first.done w is) (runs.err _ (first.done w is).device))
    (kept_then _ _ _ _ _ _ _ _ _ _ first.keeps runs.keeps)

pub returns-in_ok-make_room-in-NoRoom-clause-runs : goal.returns-in_ok-make_room-in-NoRoom-clause-runs
returns-in_ok-make_room-in-NoRoom-clause-runs g c =
    let t = c.args.ticket.now in
    let first = c.in_ok-served.ensures.runs in
    let second = c.in_ok-make_room-in-NoRoom.ensures.runs in
    runs_behind g.D.Disk.identity g.D.Disk.moments (one_serve t) (one_turn t) (λ w. roomy w t) _ _ _ _ _ _ c.serve-in-NoRoom.result
    (λ w is. (second.done _ (first.done w is).device).device)
    (λ w is last.
    let full = subst (λ (x : Served). Answers w (Serve t) (served_answer x)) c.in-NoRoom.is (c.in_ok-served.ensures.answers w is) in
    let one = first.done w is in
    turn_with_room w t full _ _ _ _ _ _ _ one (second.done _ one.device) last)
    (λ w is last.
    let full = subst (λ (x : Served). Answers w (Serve t) (served_answer x)) c.in-NoRoom.is (c.in_ok-served.ensures.answers w is) in
    let one = first.done w is in
    turn_failed_again w t full _ _ _ _ _ _ _ one (second.done _ one.device) last)
    (kept_then _ _ _ _ _ _ _ _ _ _ first.keeps second.keeps) c.serve-in-NoRoom.ensures.runs

pub returns-in_ok-make_room-in-NoRoom-clause-answers : goal.returns-in_ok-make_room-in-NoRoom-clause-answers
returns-in_ok-make_room-in-NoRoom-clause-answers g c =
    let t = c.args.ticket.now in
    let first = c.in_ok-served.ensures.runs in
    let second = c.in_ok-make_room-in-NoRoom.ensures.runs in
    if_ok_each c.serve-in-NoRoom.result (λ served told w is.
    let full = subst (λ (x : Served). Answers w (Serve t) (served_answer x)) c.in-NoRoom.is (c.in_ok-served.ensures.answers w is) in
    answer-with_room w.format w.state t full served (told _ (second.done _ (first.done w is).device).device))
    c.serve-in-NoRoom.ensures.answers

pub returns-in_err-served-clause-turn : goal.returns-in_err-served-clause-turn
returns-in_err-served-clause-turn g c =
    let p = err_from_is_err_and c.from_residual.result c.from_residual.ensures.1 in
    turn_broken _ c.from_residual.result p.0 p.1 c.in_err-served.ensures.turn

pub returns-in_err-make_room-in-NoRoom-clause-turn : goal.returns-in_err-make_room-in-NoRoom-clause-turn
returns-in_err-make_room-in-NoRoom-clause-turn g c =
    let p = err_from_is_err_and c.from_residual-in_err-make_room-in-NoRoom.result c.from_residual-in_err-make_room-in-NoRoom.ensures.1 in
    turn_broken _ c.from_residual-in_err-make_room-in-NoRoom.result p.0 p.1 c.in_err-make_room-in-NoRoom.ensures.turn

pub returns-in_default : goal.returns-in_default
returns-in_default g c =
    let t = c.args.ticket.now in
    let served = c.in_ok-served.served in
    let first = c.in_ok-served.ensures in
    record {
      runs = record {
        done = λ w is. turn_alone w t served c.in_default.not-NoRoom (first.answers w is) _ _ _ (first.runs.done w is);
        err = tt;
        keeps = first.runs.keeps;
      };
      turn = first.turn;
      answers = λ w is. answer-alone w.format w.state t served c.in_default.not-NoRoom (first.answers w is);
      goes_on = first.goes_on;
      tells = λ mode.
          let tells = first.tells mode in
          record { keeps = tells.keeps; told = told_alone t c.args.device.now.parts.common.slots c.serve.new.device.parts.common.slots _ served c.in_default.not-NoRoom tells.told };
      cause = first.cause;
      same_disk = c.serve.ensures.same_disk;
    }

-- ---- what it tells

pub returns-in_err-served-clause-tells : goal.returns-in_err-served-clause-tells
returns-in_err-served-clause-tells g c mode = record { keeps = (c.in_err-served.ensures.tells mode).keeps; told = search rules }

pub returns-in_err-make_room-in-NoRoom-clause-tells : goal.returns-in_err-make_room-in-NoRoom-clause-tells
returns-in_err-make_room-in-NoRoom-clause-tells g c mode = record {
  keeps = λ request is.
      subst (λ (x : Flight). IsTicketOf request c.args.ticket.now x) (sym c.make_room.ensures.slots)
      ((c.in_ok-served.ensures.tells mode).keeps request is);
  told = search rules;
}

pub returns-in_ok-make_room-in-NoRoom-clause-tells : goal.returns-in_ok-make_room-in-NoRoom-clause-tells
returns-in_ok-make_room-in-NoRoom-clause-tells g c mode =
    let parts = c.args.device.now.parts in
    let mid = c.make_room.new.device.parts in
    let new = c.serve-in-NoRoom.new.device.parts in
    let none = ap (λ (p : DeviceParts). p.common.slots) (c.in_ok-served.ensures.no_room c.in-NoRoom.is) in
    let later = c.in_ok-make_room-in-NoRoom.ensures.runs.keeps.same_mode ∙ c.in_ok-served.ensures.runs.keeps.same_mode ∙ mode in
    tells_with_room c.args.ticket.now parts.common.slots mid.common.slots new.common.slots (has_room_in mid.mode)
    c.in_ok-make_room-in-NoRoom.ensures.room (c.make_room.ensures.slots ∙ none) c.serve-in-NoRoom.result
    (c.serve-in-NoRoom.ensures.tells later)
