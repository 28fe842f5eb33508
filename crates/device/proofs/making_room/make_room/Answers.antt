use Rattle.std.proofs.lemmas.Result.{err_from_is_err_and}
use Rattle.device.proofs.CallLemmas.{kept_then, room_failed_at_commit, room_failed_at_place, room_failed_at_settle, room_made, runs_failed, turn_broken}
use Rattle.device.proofs.TellingLemmas.{due_commit, due_place, due_settle, room_settled}
use Rattle.device.proofs.making_room.make_room.Goals as goal

pub returns-in_err-step_until_idle-clause-runs : goal.returns-in_err-step_until_idle-clause-runs
returns-in_err-step_until_idle-clause-runs g c =
    let p = err_from_is_err_and c.from_residual.result c.from_residual.ensures.1 in
    let runs = c.in_err-step_until_idle.ensures.runs in
    runs_failed g.D.Disk.identity g.D.Disk.moments _ _ _ _ _ c.from_residual.result p.0 p.1
    (λ w is. room_failed_at_commit w _ _ _ (runs.err w is)) runs.keeps

pub returns-in_err-step_until_idle-2-clause-runs : goal.returns-in_err-step_until_idle-2-clause-runs
returns-in_err-step_until_idle-2-clause-runs g c =
    let p = err_from_is_err_and c.from_residual-in_err-step_until_idle-2.result c.from_residual-in_err-step_until_idle-2.ensures.1 in
    let first = c.in_ok-step_until_idle.ensures.runs in
    let runs = c.in_err-step_until_idle-2.ensures.runs in
    runs_failed g.D.Disk.identity g.D.Disk.moments _ _ _ _ _ c.from_residual-in_err-step_until_idle-2.result p.0 p.1
    (λ w is. room_failed_at_place w _ _ _ _ _ (first.done w is) (runs.err _ (first.done w is).device))
    (kept_then _ _ _ _ _ _ _ _ _ _ first.keeps runs.keeps)

pub returns-in_err-step_until_idle-3-clause-runs : goal.returns-in_err-step_until_idle-3-clause-runs
returns-in_err-step_until_idle-3-clause-runs g c =
    let p = err_from_is_err_and c.from_residual-in_err-step_until_idle-3.result c.from_residual-in_err-step_until_idle-3.ensures.1 in
    let first = c.in_ok-step_until_idle.ensures.runs in
    let second = c.in_ok-step_until_idle-2.ensures.runs in
    let runs = c.in_err-step_until_idle-3.ensures.runs in
    runs_failed g.D.Disk.identity g.D.Disk.moments _ _ _ _ _ c.from_residual-in_err-step_until_idle-3.result p.0 p.1
    (λ w is.
    let one = first.done w is in
    let two = second.done _ one.device in
    room_failed_at_settle w _ _ _ _ _ _ _ one two (runs.err _ two.device))
    (kept_then _ _ _ _ _ _ _ _ _ _ (kept_then _ _ _ _ _ _ _ _ _ _ first.keeps second.keeps) runs.keeps)

pub returns-clause-runs : goal.returns-clause-runs
returns-clause-runs g c =
    let first = c.in_ok-step_until_idle.ensures.runs in
    let second = c.in_ok-step_until_idle-2.ensures.runs in
    let third = c.in_ok-step_until_idle-3.ensures.runs in
    record {
      done = λ w is.
          let one = first.done w is in
          let two = second.done _ one.device in
          room_made w _ _ _ _ _ _ _ one two (third.done _ two.device);
      err = tt;
      keeps = kept_then _ _ _ _ _ _ _ _ _ _ (kept_then _ _ _ _ _ _ _ _ _ _ first.keeps second.keeps) third.keeps;
    }

pub returns-in_err-step_until_idle-clause-turn : goal.returns-in_err-step_until_idle-clause-turn
returns-in_err-step_until_idle-clause-turn g c =
    let p = err_from_is_err_and c.from_residual.result c.from_residual.ensures.1 in
    turn_broken _ c.from_residual.result p.0 p.1 c.in_err-step_until_idle.ensures.turn

pub returns-in_err-step_until_idle-2-clause-turn : goal.returns-in_err-step_until_idle-2-clause-turn
returns-in_err-step_until_idle-2-clause-turn g c =
    let p = err_from_is_err_and c.from_residual-in_err-step_until_idle-2.result c.from_residual-in_err-step_until_idle-2.ensures.1 in
    turn_broken _ c.from_residual-in_err-step_until_idle-2.result p.0 p.1 c.in_err-step_until_idle-2.ensures.turn

pub returns-in_err-step_until_idle-3-clause-turn : goal.returns-in_err-step_until_idle-3-clause-turn
returns-in_err-step_until_idle-3-clause-turn g c =
    let p = err_from_is_err_and c.from_residual-in_err-step_until_idle-3.result c.from_residual-in_err-step_until_idle-3.ensures.1 in
    turn_broken _ c.from_residual-in_err-step_until_idle-3.result p.0 p.1 c.in_err-step_until_idle-3.ensures.turn

pub returns-clause-turn : goal.returns-clause-turn
returns-clause-turn g c = c.in_ok-step_until_idle-3.ensures.turn

pub returns-clause-room : goal.returns-clause-room
returns-clause-room g c =
    let one = c.in_ok-step_until_idle.ensures.due (due_commit c.args.device.now.parts.mode) in
    let two = c.in_ok-step_until_idle-2.ensures.due (due_place c.step_until_idle.new.device.parts.mode one) in
    room_settled c.step_until_idle-3.new.device.parts.mode
    (c.in_ok-step_until_idle-3.ensures.due (due_settle c.step_until_idle-2.new.device.parts.mode two))
