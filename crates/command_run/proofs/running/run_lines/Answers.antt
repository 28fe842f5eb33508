use Rattle.std.proofs.Common.{Ok, ap, refl, ◌∙◌, arith}
use Rattle.std.proofs.lemmas.Result.{err_from_is_err_and}
use Rattle.disk_model.specs.Causes.{Rose}
use Rattle.command_ending.specs.declared.ended.Ended.TheVariants as Endings
use Rattle.command_run.proofs.LoopLemmas.{at_most, at_start, no_memory_for_line, none_in_flight, not_risen, source_cause, holds_same, turn_done, turn_ended, turn_held, turn_read, turn_stopped, turn_stopped_in_line, turn_unread}
use Rattle.command_task.proofs.EndedLemmas.{not_ended, same_ended}
use Rattle.command_run.proofs.TakenLemmas.{taken_some}
use Rattle.script_lines.proofs.TakenLemmas.{read_at_start, read_on, read_within}
use Rattle.command_run.proofs.running.run_lines.Goals as goal

pub loop-tickets-init : goal.loop-tickets-init
loop-tickets-init g c = record {
  ready = c.requires.works.ready;
  works = c.requires.works.is;
  flight = none_in_flight _ _ c.new-tickets.ensures c.requires.begins.0;
  submitted = let none = c.requires.begins.1 in omega (arith, none);
  number = omega arith;
  taken = rw c.requires.begins.2 (omega arith);
  read = λ left told. read_at_start left c.args.reader.now _ told c.requires.begins.2;
  disk_same = refl;
  script_same = refl;
  sink_same = refl;
  identity = refl;
  same_disk = refl;
  way = λ w left run is told is_run.
      at_start w _ _ _ left run c.args.reader.now
      (g.S.Source.left c.args.script.now) is told is_run c.requires.begins.2;
}

pub returns-in_err-advance-clause-stopped : goal.returns-in_err-advance-clause-stopped
returns-in_err-advance-clause-stopped g c =
    let p = err_from_is_err_and c.from_residual.result c.from_residual.ensures.1 in
    rw (p.1, p.2) (λ w left run is told is_run.
    turn_stopped w run left _ _ c.loop-tickets.number c.loop-tickets.found c.loop-tickets.reader c.advance.new.reader
    c.loop-tickets.device.parts _ _ (g.S.Source.left c.loop-tickets.script)
    (g.S.Source.left c.advance.new.script)
    c.in_err-advance.field-0.0
    (c.loop-tickets.invariant.way w left run is told is_run) c.in_err-advance.ensures.advanced)

pub returns-in_err-advance-clause-cause : goal.returns-in_err-advance-clause-cause
returns-in_err-advance-clause-cause g c =
    let p = err_from_is_err_and c.from_residual.result c.from_residual.ensures.1 in
    let disk = Rose (g.D.Counted.faults c.args.device.now.disk.now)
    (g.D.Counted.faults c.loop-tickets.device.disk.now) in
    let sink = Rose (g.O.Counted.faults c.args.out.now) (g.O.Counted.faults c.loop-tickets.out) in
    rw (p.1, p.2) (source_cause (g.S.Counted.faults c.args.script.now)
    (g.S.Counted.faults c.loop-tickets.script) (g.S.Counted.faults c.advance.new.script) disk sink c.in_err-advance.field-0.0
    (at_most c.loop-tickets.invariant.script_same) c.in_err-advance.ensures.cause)

pub returns-in_err-told-clause-stopped : goal.returns-in_err-told-clause-stopped
returns-in_err-told-clause-stopped g c =
    let p = err_from_is_err_and c.from_residual-in_err-told.result c.from_residual-in_err-told.ensures.1 in
    rw (p.1, p.2) (λ w left run is told is_run.
    turn_stopped_in_line w run left _ _ c.loop-tickets.number c.loop-tickets.found c.loop-tickets.reader
    c.advance.new.reader
    c.loop-tickets.device.parts _ _ (g.S.Source.left c.loop-tickets.script)
    (g.S.Source.left c.advance.new.script)
    c.in_ok-advance.field-0 c.line.result.now _ _ c.in_err-told.field-0.0
    (c.loop-tickets.invariant.way w left run is told is_run) c.in_ok-advance.ensures.advanced c.if-branch.true
    c.line.ensures c.in_err-told.ensures.stopped)

pub loop-tickets-preserved : goal.loop-tickets-preserved
loop-tickets-preserved g c =
    let kept = c.loop-tickets.invariant in
    let stays = c.in_ok-told.ensures.stays in
    let counted = c.run_bytes.ensures.counted in
    record {
      ready = stays.ready;
      works = c.in_ok-told.ensures.works;
      flight = stays.tickets_;
      submitted = let one = stays.submitted in let two = kept.submitted in omega (arith, one, two);
      number = let more = c.advance.ensures.taken (c.in_ok-advance.was ∙ ap Ok c.if-branch.true) in
          let before = kept.number in omega (arith, more, before);
      taken = c.advance.ensures.within.taken;
      read = λ left told. read_on left c.loop-tickets.reader c.advance.new.reader _ _ (kept.read left told)
          c.advance.ensures.read;
      disk_same = counted.0.passed (not_ended _ _ c.in_ok-told.was) ∙ kept.disk_same;
      script_same = c.advance.ensures.counted.passed (not_ended _ _ c.in_ok-advance.was) ∙ kept.script_same;
      sink_same = counted.1.passed (not_ended _ _ c.in_ok-told.was) ∙ kept.sink_same;
      identity = stays.identity ∙ kept.identity;
      same_disk = c.run_bytes.ensures.same_disk ∙ kept.same_disk;
      way = λ w left run is told is_run.
          turn_done w run left _ _ c.loop-tickets.number c.loop-tickets.found c.loop-tickets.reader
          c.advance.new.reader
          c.loop-tickets.device.parts _ _ (g.S.Source.left c.loop-tickets.script)
          (g.S.Source.left c.advance.new.script)
          c.in_ok-advance.field-0 c.line.result.now _ _ _ c.in_ok-told.told _
          (kept.way w left run is told is_run) c.in_ok-advance.ensures.advanced c.if-branch.true
          c.line.ensures c.in_ok-told.ensures.ran c.either-found.ensures c.advance.ensures.line;
    }

pub returns-clause-lines : goal.returns-clause-lines
returns-clause-lines g c w left run is told is_run =
    turn_ended w run left _ _ c.loop-tickets.number c.loop-tickets.found c.loop-tickets.reader c.advance.new.reader
    c.loop-tickets.device.parts _ _ (g.S.Source.left c.loop-tickets.script)
    (g.S.Source.left c.advance.new.script)
    c.in_ok-advance.field-0
    (c.loop-tickets.invariant.way w left run is told is_run) c.in_ok-advance.ensures.advanced
    c.if-branch.false

pub returns-in_err-advance-clause-taken : goal.returns-in_err-advance-clause-taken
returns-in_err-advance-clause-taken g c = (
  λ left told.
      read_within left c.advance.new.reader _ c.advance.ensures.within.read
      (read_on left c.loop-tickets.reader c.advance.new.reader _ _ (c.loop-tickets.invariant.read left told)
      c.advance.ensures.read),
  λ w left run is told is_run.
      turn_unread w run left _ _ c.loop-tickets.number c.loop-tickets.found c.loop-tickets.reader
      c.advance.new.reader c.loop-tickets.device.parts _ _ (g.S.Source.left c.loop-tickets.script) _ _
      c.in_err-advance.field-0.0
      (c.loop-tickets.invariant.way w left run is told is_run) c.in_err-advance.ensures.advanced c.advance.ensures.line
      c.advance.ensures.within
      (λ other. not_risen (c.in_err-advance.ensures.counted.passed (λ same. other (cc))
      ∙ c.loop-tickets.invariant.script_same)),
  λ memory left told.
      let p = err_from_is_err_and c.from_residual.result c.from_residual.ensures.1 in
      absurd (no_memory_for_line _ c.loop-tickets.number c.loop-tickets.reader c.advance.new.reader _ _ c.in_err-advance.field-0.0
      (c.loop-tickets.invariant.read left told) c.in_err-advance.ensures.advanced
      (same_ended _ Endings.Memory _ refl (rw (p.1, p.2) at memory))),
)

pub returns-in_err-told-clause-taken : goal.returns-in_err-told-clause-taken
returns-in_err-told-clause-taken g c = (
  λ left told.
      read_within left c.advance.new.reader _ c.advance.ensures.within.read
      (read_on left c.loop-tickets.reader c.advance.new.reader _ _ (c.loop-tickets.invariant.read left told)
      c.advance.ensures.read),
  λ w left run is told is_run.
      let at = c.loop-tickets.invariant.way w left run is told is_run in
      turn_read w run left _ _ c.loop-tickets.number c.loop-tickets.found c.loop-tickets.reader
      c.advance.new.reader c.loop-tickets.device.parts _ _ (g.S.Source.left c.loop-tickets.script) _ _ _ at
      c.advance.ensures.line c.advance.ensures.within
      (turn_held w run left _ _ c.loop-tickets.number c.loop-tickets.found c.loop-tickets.reader
      c.advance.new.reader c.loop-tickets.device.parts _ _ (g.S.Source.left c.loop-tickets.script)
      (g.S.Source.left c.advance.new.script) c.in_ok-advance.field-0 c.line.result.now _ _ c.in_err-told.field-0.0
      at c.in_ok-advance.ensures.advanced c.if-branch.true c.line.ensures c.in_err-told.ensures.stopped)
      (not_risen (c.advance.ensures.counted.passed (not_ended _ _ c.in_ok-advance.was)
      ∙ c.loop-tickets.invariant.script_same)),
  λ memory left told.
      taken_some left c.advance.new.reader _
      (let more = c.advance.ensures.taken (c.in_ok-advance.was ∙ ap Ok c.if-branch.true) in omega (arith, more))
      (read_on left c.loop-tickets.reader c.advance.new.reader _ _ (c.loop-tickets.invariant.read left told)
      c.advance.ensures.read),
)

pub returns-clause-taken : goal.returns-clause-taken
returns-clause-taken g c = (
  λ left told.
      read_within left c.advance.new.reader _ c.advance.ensures.within.read
      (read_on left c.loop-tickets.reader c.advance.new.reader _ _ (c.loop-tickets.invariant.read left told)
      c.advance.ensures.read),
  λ w left run is told is_run.
      turn_read w run left _ _ c.loop-tickets.number c.loop-tickets.found c.loop-tickets.reader
      c.advance.new.reader c.loop-tickets.device.parts _ _ (g.S.Source.left c.loop-tickets.script) _ _ _
      (c.loop-tickets.invariant.way w left run is told is_run) c.advance.ensures.line
      c.advance.ensures.within (holds_same refl)
      (not_risen (c.advance.ensures.counted.passed (not_ended _ _ c.in_ok-advance.was)
      ∙ c.loop-tickets.invariant.script_same)),
  λ memory. absurd (cc),
)
