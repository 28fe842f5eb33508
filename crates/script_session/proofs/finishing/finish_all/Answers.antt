use Rattle.std.proofs.Common.{◌≡◌, ◌<◌, ◌≤◌, List, length, get_or, refl, ◌∙◌, subst}
use Rattle.std.proofs.lemmas.Result.{err_from_is_err_and}
use Rattle.device.proofs.CallLemmas.{keeps_none, kept_then, runs_failed, turn_broken, works_then}
use Rattle.device.proofs.RunLemmas.{run_none}
use Rattle.script_session.specs.declared.tickets.Waiting.{Waiting}
use Rattle.script_session.proofs.TicketLemmas.{ticket_there}
use Rattle.script_session.proofs.WayLemmas.{all_cut_at, all_run_at, each_more_at, in_flight_kept}
use Rattle.script_session.proofs.finishing.finish_all.Goals as goal

pub loop-waiting-init : goal.loop-waiting-init
loop-waiting-init g c = record {
  works = c.requires.works;
  keeps = keeps_none g.D.Disk.identity g.D.Disk.moments _ _ _ c.requires.works;
  faults = refl;
  same_disk = refl;
  way = λ w is. run_none w _ _ is;
}

pub finish-requires-clause-there : goal.finish-requires-clause-there
finish-requires-clause-there g c =
    ticket_there c.args.tickets.now c.loop-waiting.device.parts.common.slots (in_flight_kept c.args.tickets.now _ _ c.requires.tickets c.loop-waiting.invariant.keeps.flight)
    c.loop-waiting.waiting-index c.waiting-item.result
    (subst (λ (l : List Waiting). c.loop-waiting.waiting-index < length l) c.deref-waiting-items.ensures.value c.loop-waiting-test.true)
    (subst (λ (l : List Waiting). c.waiting-item.result ≡ get_or l c.loop-waiting.waiting-index c.waiting-item.result) c.deref-waiting-items.ensures.value c.waiting-item.is)

pub returns-in_err-finish-clause-runs : goal.returns-in_err-finish-clause-runs
returns-in_err-finish-clause-runs g c =
    let p = err_from_is_err_and c.from_residual.result c.from_residual.ensures.1 in
    let runs = c.in_err-finish.ensures.runs in
    runs_failed g.D.Disk.identity g.D.Disk.moments _ _ _ _ _ c.from_residual.result p.0 p.1
    (λ w is.
    let way = c.loop-waiting.invariant.way w is in
    all_cut_at w c.args.tickets.now c.args.device.now.parts _ is c.requires.tickets c.loop-waiting.waiting-index c.waiting-item.result
    (subst (λ (l : List Waiting). c.loop-waiting.waiting-index < length l) c.deref-waiting-items.ensures.value c.loop-waiting-test.true)
    (subst (λ (l : List Waiting). c.waiting-item.result ≡ get_or l c.loop-waiting.waiting-index c.waiting-item.result) c.deref-waiting-items.ensures.value c.waiting-item.is)
    _ _ _ _ way (runs.err _ way.device))
    (kept_then _ _ _ _ _ _ _ _ _ _ c.loop-waiting.invariant.keeps runs.keeps)

pub loop-waiting-preserved : goal.loop-waiting-preserved
loop-waiting-preserved g c =
    let runs = c.in_ok-finish.ensures.runs in
    record {
      works = works_then g.D.Disk.identity g.D.Disk.moments _ _ _ _ _ c.in_ok-finish.ensures.turn runs.keeps;
      keeps = kept_then _ _ _ _ _ _ _ _ _ _ c.loop-waiting.invariant.keeps runs.keeps;
      faults = c.in_ok-finish.ensures.cause.passed ∙ c.loop-waiting.invariant.faults;
      same_disk = c.finish.ensures.same_disk ∙ c.loop-waiting.invariant.same_disk;
      way = λ w is.
          let way = c.loop-waiting.invariant.way w is in
          each_more_at w c.args.tickets.now c.args.device.now.parts _ is c.requires.tickets c.loop-waiting.waiting-index c.waiting-item.result
          (subst (λ (l : List Waiting). c.loop-waiting.waiting-index < length l) c.deref-waiting-items.ensures.value c.loop-waiting-test.true)
          (subst (λ (l : List Waiting). c.waiting-item.result ≡ get_or l c.loop-waiting.waiting-index c.waiting-item.result) c.deref-waiting-items.ensures.value c.waiting-item.is)
          _ _ _ _ way (runs.done _ way.device);
    }

pub returns-clause-runs : goal.returns-clause-runs
returns-clause-runs g c = record {
  done = λ w is.
      all_run_at w c.args.tickets.now c.args.device.now.parts _ is c.requires.tickets c.loop-waiting.waiting-index
      (subst (λ (l : List Waiting). length l ≤ c.loop-waiting.waiting-index) c.deref-waiting-items.ensures.value c.loop-waiting-test.false) _ _
      (c.loop-waiting.invariant.way w is);
  err = tt;
  keeps = c.loop-waiting.invariant.keeps;
}

pub returns-in_err-finish-clause-turn : goal.returns-in_err-finish-clause-turn
returns-in_err-finish-clause-turn g c =
    let p = err_from_is_err_and c.from_residual.result c.from_residual.ensures.1 in
    turn_broken _ c.from_residual.result p.0 p.1 c.in_err-finish.ensures.turn

pub returns-clause-turn : goal.returns-clause-turn
returns-clause-turn g c = c.loop-waiting.invariant.works.is
