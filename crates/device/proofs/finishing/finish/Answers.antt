use Rattle.std.proofs.Common.{rules, ◌≡◌, Some, inl, inr, ap, subst, ◌∙◌, refl}
use Rattle.std.proofs.lemmas.Result.{err_from_is_err_and}
use Rattle.device_model.specs.Progress.{answers}
use Rattle.device_model.specs.Script.{last_answer, turn_events}
use Rattle.device_parts.specs.declared.answers.Served.{Served}
use Rattle.device_parts.specs.Answers.{served_answer}
use Rattle.journal_device.specs.Telling.{IsToldOf}
use Rattle.device.specs.Run.{standing_behind}
use Rattle.device.proofs.CallLemmas.{keeps_none, kept_then, runs_failed, turn_broken, works_then}
use Rattle.device.proofs.FinishLemmas.{more_by}
use Rattle.device.proofs.TellingLemmas.{held_alone}
use Rattle.device.proofs.TurnRunLemmas.{way_begins, way_cut, way_ends, way_goes_on}
use Rattle.device.proofs.finishing.finish.Goals as goal

pub returns-in_err-serve_with_room-clause-runs : goal.returns-in_err-serve_with_room-clause-runs
returns-in_err-serve_with_room-clause-runs g c =
    let p = err_from_is_err_and c.from_residual.result c.from_residual.ensures.1 in
    let runs = c.in_err-serve_with_room.ensures.runs in
    runs_failed g.D.Disk.identity g.D.Disk.moments _ _ _ _ _ c.from_residual.result p.0 p.1
    (λ w is.
    let way = c.turns.invariant.way w is in
    way_cut w c.args.ticket.now _ _ _ _ _ way c.turns.invariant.there (runs.err _ way.run.device))
    (kept_then _ _ _ _ _ _ _ _ _ _ c.turns.invariant.keeps runs.keeps)

pub turns-preserved : goal.turns-preserved
turns-preserved g c =
    let t = c.args.ticket.now in
    let runs = c.in_ok-serve_with_room.ensures.runs in
    record {
      works = works_then g.D.Disk.identity g.D.Disk.moments _ _ _ _ _ c.in_ok-serve_with_room.ensures.turn runs.keeps;
      there = runs.keeps.flight.same t ∙ c.turns.invariant.there;
      keeps = kept_then _ _ _ _ _ _ _ _ _ _ c.turns.invariant.keeps runs.keeps;
      faults = c.in_ok-serve_with_room.ensures.cause.passed ∙ c.turns.invariant.faults;
      same_disk = c.serve_with_room.ensures.same_disk ∙ c.turns.invariant.same_disk;
      request = λ mode asked is. (c.in_ok-serve_with_room.ensures.tells (c.turns.invariant.keeps.same_mode ∙ mode)).keeps asked (c.turns.invariant.request mode asked is);
      way = λ w is.
          let way = c.turns.invariant.way w is in
          let here = standing_behind w way.made in
          way_goes_on w t _ _ _ _ _ way c.turns.invariant.there
          (subst (λ (x : Served). last_answer (answers here.format here.state (turn_events here.format t here.state)) ≡ Some (served_answer x)) c.in-Did.is
          (c.in_ok-serve_with_room.ensures.answers _ way.run.device)) (runs.done _ way.run.device);
    }

pub returns-in-Held-clause-runs : goal.returns-in-Held-clause-runs
returns-in-Held-clause-runs g c =
    let t = c.args.ticket.now in
    let runs = c.in_ok-serve_with_room.ensures.runs in
    record {
      done = λ w is.
          let way = c.turns.invariant.way w is in
          way_ends w t _ _ _ _ _ way c.turns.invariant.there c.in_ok-serve_with_room.field-0
          (λ more. elim c.in-Held.is [
            | inl held ↦ ap (λ (x : Served). more_by x more) held.1
            | inr other ↦ elim other [
              | inl done ↦ ap (λ (x : Served). more_by x more) done
              | inr full ↦ ap (λ (x : Served). more_by x more) full
            ]
          ]) (c.in_ok-serve_with_room.ensures.answers _ way.run.device) (runs.done _ way.run.device);
      err = tt;
      keeps = kept_then _ _ _ _ _ _ _ _ _ _ c.turns.invariant.keeps runs.keeps;
    }

pub turns-init : goal.turns-init
turns-init g c = record {
  works = c.requires.works;
  there = c.requires.there;
  keeps = keeps_none g.D.Disk.identity g.D.Disk.moments _ _ _ c.requires.works;
  faults = refl;
  same_disk = refl;
  request = λ mode asked is. is;
  way = λ w is. way_begins w c.args.ticket.now _ _ is;
}

pub returns-in_err-serve_with_room-clause-turn : goal.returns-in_err-serve_with_room-clause-turn
returns-in_err-serve_with_room-clause-turn g c =
    let p = err_from_is_err_and c.from_residual.result c.from_residual.ensures.1 in
    turn_broken _ c.from_residual.result p.0 p.1 c.in_err-serve_with_room.ensures.turn

pub returns-in-Held-clause-turn : goal.returns-in-Held-clause-turn
returns-in-Held-clause-turn g c = c.in_ok-serve_with_room.ensures.turn

-- ---- what it tells of the request

pub returns-in_err-serve_with_room-clause-finishes : goal.returns-in_err-serve_with_room-clause-finishes
returns-in_err-serve_with_room-clause-finishes g c mode = record {
  keeps = λ asked is. (c.in_err-serve_with_room.ensures.tells (c.turns.invariant.keeps.same_mode ∙ mode)).keeps asked (c.turns.invariant.request mode asked is);
  done = search rules;
}

pub returns-in-Held-clause-finishes : goal.returns-in-Held-clause-finishes
returns-in-Held-clause-finishes g c mode =
    let t = c.args.ticket.now in
    let first = c.args.device.now.parts.common.slots in
    let old = c.turns.device.parts.common.slots in
    let new = c.serve_with_room.new.device.parts.common.slots in
    let tells = c.in_ok-serve_with_room.ensures.tells (c.turns.invariant.keeps.same_mode ∙ mode) in
    record {
      keeps = λ asked is. tells.keeps asked (c.turns.invariant.request mode asked is);
      done = λ one.
          elim c.in-Held.is [
            | inl held ↦ absurd (held_alone t held.0 first old new c.turns.invariant.keeps.flight one (subst (IsToldOf t old new ⊥) held.1 tells.told))
            | inr other ↦ elim other [
              | inl done ↦ subst (IsToldOf t old new ⊥) done tells.told
              | inr full ↦ absurd (subst (IsToldOf t old new ⊥) full tells.told)
            ]
          ];
    }
