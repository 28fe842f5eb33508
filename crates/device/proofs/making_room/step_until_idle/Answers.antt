use Rattle.std.proofs.Common.{subst, sym, ◌∙◌, refl}
use Rattle.std.proofs.lemmas.Result.{err_from_is_err_and}
use Rattle.device_model.specs.Actors.{actor_of}
use Rattle.device_model.specs.Progress.{Step}
use Rattle.device_parts.specs.declared.answers.Moved.{Moved}
use Rattle.device_parts.specs.Answers.{moved_answer}
use Rattle.device_parts.specs.Device.{Answers}
use Rattle.device.proofs.CallLemmas.{keeps_none, kept_then, runs_failed, turn_broken, way_begins, way_cut, way_ends, way_goes_on, works_then}
use Rattle.device.specs.declared.mode.DeviceParts.{DeviceParts}
use Rattle.device.specs.Run.{standing_behind}
use Rattle.device.specs.Telling.{IsDueIn}
use Rattle.device.proofs.making_room.step_until_idle.Goals as goal

pub returns-in_err-step-clause-runs : goal.returns-in_err-step-clause-runs
returns-in_err-step-clause-runs g c =
    let p = err_from_is_err_and c.from_residual.result c.from_residual.ensures.1 in
    let runs = c.in_err-step.ensures.runs in
    runs_failed g.D.Disk.identity g.D.Disk.moments _ _ _ _ _ c.from_residual.result p.0 p.1
    (λ w is.
    let way = c.steps.invariant.way w is in
    way_cut w (actor_of c.args.actor) c.requires.actor _ _ _ _ _ way (runs.err _ way.run.device))
    (kept_then _ _ _ _ _ _ _ _ _ _ c.steps.invariant.keeps runs.keeps)

pub steps-preserved : goal.steps-preserved
steps-preserved g c =
    let runs = c.in_ok-step.ensures.runs in
    record {
      works = works_then g.D.Disk.identity g.D.Disk.moments _ _ _ _ _ c.in_ok-step.ensures.turn runs.keeps;
      slots = c.step.ensures.slots ∙ c.steps.invariant.slots;
      keeps = kept_then _ _ _ _ _ _ _ _ _ _ c.steps.invariant.keeps runs.keeps;
      faults = c.in_ok-step.ensures.cause.passed ∙ c.steps.invariant.faults;
      same_disk = c.step.ensures.same_disk ∙ c.steps.invariant.same_disk;
      due = λ due. (c.in_ok-step.ensures.goes_on c.in-Did.is).due (c.steps.invariant.due due);
      way = λ w is.
          let way = c.steps.invariant.way w is in
          way_goes_on w (actor_of c.args.actor) c.requires.actor _ _ _ _ _ way
          (subst (λ (m : Moved). Answers (standing_behind w way.made) (Step (actor_of c.args.actor)) (moved_answer m)) c.in-Did.is
          (c.in_ok-step.ensures.answers _ way.run.device)) (runs.done _ way.run.device);
    }

pub returns-in-Idle-clause-runs : goal.returns-in-Idle-clause-runs
returns-in-Idle-clause-runs g c =
    let runs = c.in_ok-step.ensures.runs in
    record {
      done = λ w is.
          let way = c.steps.invariant.way w is in
          way_ends w (actor_of c.args.actor) c.requires.actor _ _ _ _ _ way
          (subst (λ (m : Moved). Answers (standing_behind w way.made) (Step (actor_of c.args.actor)) (moved_answer m)) c.in-Idle.is
          (c.in_ok-step.ensures.answers _ way.run.device)) (runs.done _ way.run.device);
      err = tt;
      keeps = kept_then _ _ _ _ _ _ _ _ _ _ c.steps.invariant.keeps runs.keeps;
    }

pub steps-init : goal.steps-init
steps-init g c = record {
  works = c.requires.works;
  slots = refl;
  keeps = keeps_none g.D.Disk.identity g.D.Disk.moments _ _ _ c.requires.works;
  faults = refl;
  same_disk = refl;
  due = λ due. due;
  way = λ w is. way_begins w (actor_of c.args.actor) _ _ is;
}

pub returns-in_err-step-clause-turn : goal.returns-in_err-step-clause-turn
returns-in_err-step-clause-turn g c =
    let p = err_from_is_err_and c.from_residual.result c.from_residual.ensures.1 in
    turn_broken _ c.from_residual.result p.0 p.1 c.in_err-step.ensures.turn

pub returns-in-Idle-clause-turn : goal.returns-in-Idle-clause-turn
returns-in-Idle-clause-turn g c = c.in_ok-step.ensures.turn

pub returns-in-Idle-clause-due : goal.returns-in-Idle-clause-due
returns-in-Idle-clause-due g c due =
    let idle = c.in_ok-step.ensures.idle c.in-Idle.is in
    idle.done (subst (λ (p : DeviceParts). IsDueIn c.args.actor p.mode) (sym idle.parts) (c.steps.invariant.due due))
