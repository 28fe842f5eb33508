use Rattle.std.proofs.Common.{Ok, ap, refl, ◌∙◌, arith}
use Rattle.std.proofs.lemmas.Result.{err_from_is_err_and}
use Rattle.script_lines.proofs.TakenLemmas.{read_at_start, read_on, read_within}
use Rattle.device_model.specs.ScriptBytes.{most_taken}
use Rattle.mirror_run.specs.Standing.{cuts_by, shown_by}
use Rattle.mirror_run.proofs.LoopLemmas.{holds_same}
use Rattle.mirror_run.proofs.StoppingLemmas.{stands_left}
use Rattle.mirror_run.proofs.TurnLemmas.{begins_lines, level_unread, none_taken, not_ended, not_risen, turn_done, turn_ended}
use Rattle.mirror_run.proofs.TurnLemmas.{turn_held, turn_read, turn_stopped, turn_stopped_in_line, turn_unread}
use Rattle.mirror_run.proofs.running.run_script.Goals as goal

pub returns-in_err-level-clause-read : goal.returns-in_err-level-clause-read
returns-in_err-level-clause-read g c = (
  none_taken most_taken (g.S.Source.left c.args.script.now),
  λ w bytes run is told is_run.
      level_unread (cuts_by g.A.Leg.may_be_left g.B.Leg.may_be_left) w run bytes _ _ _ _ _ c.in_err-level.field-0.0 _ told
      (λ too_long lines. c.in_err-level.ensures.stopped w too_long lines is),
)

pub loop-mirror-init : goal.loop-mirror-init
loop-mirror-init g c =
    let asked = c.in_ok-level.ensures.asked in
    let first = asked.first in
    let second = asked.second in
    let counted = c.level.ensures.counted in
    record {
      stays = c.level.ensures.stays;
      works = c.in_ok-level.ensures.works;
      asked = rw c.requires.begins (omega (arith, first));
      second_asked = rw c.requires.begins (omega (arith, second));
      number = omega arith;
      taken = rw c.requires.begins (omega arith);
      read = λ left told. read_at_start left c.args.reader.now _ told c.requires.begins;
      disk_same = counted.0.passed (not_ended _ _ c.in_ok-level.was);
      second_same = counted.1.passed (not_ended _ _ c.in_ok-level.was);
      script_same = refl;
      sink_same = counted.2.passed (not_ended _ _ c.in_ok-level.was);
      way = λ w left run is told is_run.
          begins_lines (cuts_by g.A.Leg.may_be_left g.B.Leg.may_be_left) w run left _ _
          (shown_by g.A.Leg.stands_for g.B.Leg.stands_for g.A.Leg.moments g.B.Leg.moments c.level.new.mirror.a
          c.level.new.mirror.b) _ c.args.reader.now (g.S.Source.left c.args.script.now) told c.requires.begins is_run
          (c.in_ok-level.ensures.levelled w is);
    }

pub returns-in_err-advance-clause-stopped : goal.returns-in_err-advance-clause-stopped
returns-in_err-advance-clause-stopped g c =
    let p = err_from_is_err_and c.from_residual-in_err-advance.result c.from_residual-in_err-advance.ensures.1 in
    let stand = stands_left g.A.Leg.stands_for g.B.Leg.stands_for g.A.Leg.moments g.B.Leg.moments
    g.A.Leg.may_be_left g.B.Leg.may_be_left c.legs_are_left_as_told.ensures c.legs_are_left_as_told-2.ensures in
    rw (p.1, p.2) (λ w left run is told is_run.
    turn_stopped (cuts_by g.A.Leg.may_be_left g.B.Leg.may_be_left) w run left _ _ c.loop-mirror.number c.loop-mirror.found
    c.loop-mirror.reader c.advance.new.reader
    (shown_by g.A.Leg.stands_for g.B.Leg.stands_for g.A.Leg.moments g.B.Leg.moments c.loop-mirror.mirror.a
    c.loop-mirror.mirror.b) _ (stand c.loop-mirror.mirror.a c.loop-mirror.mirror.b)
    (g.S.Source.left c.loop-mirror.script) (g.S.Source.left c.advance.new.script) c.in_err-advance.field-0.0
    (c.loop-mirror.invariant.way w left run is told is_run) c.in_err-advance.ensures.advanced)

pub returns-in_err-advance-clause-read : goal.returns-in_err-advance-clause-read
returns-in_err-advance-clause-read g c =
    let stand = stands_left g.A.Leg.stands_for g.B.Leg.stands_for g.A.Leg.moments g.B.Leg.moments
    g.A.Leg.may_be_left g.B.Leg.may_be_left c.legs_are_left_as_told.ensures c.legs_are_left_as_told-2.ensures in (
      λ left told.
          read_within left c.advance.new.reader _ c.advance.ensures.within.read
          (read_on left c.loop-mirror.reader c.advance.new.reader _ _ (c.loop-mirror.invariant.read left told)
          c.advance.ensures.read),
      λ w left run is told is_run.
          turn_unread (cuts_by g.A.Leg.may_be_left g.B.Leg.may_be_left) w run left _ _ c.loop-mirror.number
          c.loop-mirror.found c.loop-mirror.reader c.advance.new.reader
          (shown_by g.A.Leg.stands_for g.B.Leg.stands_for g.A.Leg.moments g.B.Leg.moments c.loop-mirror.mirror.a
          c.loop-mirror.mirror.b) _ (stand c.loop-mirror.mirror.a c.loop-mirror.mirror.b)
          (g.S.Source.left c.loop-mirror.script) _ _ c.in_err-advance.field-0.0
          (c.loop-mirror.invariant.way w left run is told is_run) c.in_err-advance.ensures.advanced
          c.advance.ensures.line c.advance.ensures.within
          (λ other. not_risen (c.in_err-advance.ensures.counted.passed (λ same. other (cc))
          ∙ c.loop-mirror.invariant.script_same)),
    )

pub run_bytes-requires-clause-few : goal.run_bytes-requires-clause-few
run_bytes-requires-clause-few g c =
    let kept = c.loop-mirror.invariant in
    let first = kept.asked in
    let second = kept.second_asked in
    let taken = kept.taken in
    let few = c.requires.few.first in
    let second_few = c.requires.few.second in
    let blocks = g.met.A.Leg.few_blocks c.args.mirror.now.a (c.requires.works.ready.first c.requires.works.whole) in
    record {
      first = omega (arith, first, taken, few, blocks);
      second = omega (arith, second, taken, second_few, blocks);
    }

pub returns-in_err-told-clause-stopped : goal.returns-in_err-told-clause-stopped
returns-in_err-told-clause-stopped g c =
    let p = err_from_is_err_and c.from_residual-in_err-told.result c.from_residual-in_err-told.ensures.1 in
    let stand = stands_left g.A.Leg.stands_for g.B.Leg.stands_for g.A.Leg.moments g.B.Leg.moments
    g.A.Leg.may_be_left g.B.Leg.may_be_left c.legs_are_left_as_told.ensures c.legs_are_left_as_told-2.ensures in
    rw (p.1, p.2) (λ w left run is told is_run.
    turn_stopped_in_line (cuts_by g.A.Leg.may_be_left g.B.Leg.may_be_left) w run left _ _ c.loop-mirror.number
    c.loop-mirror.found c.loop-mirror.reader c.advance.new.reader
    (shown_by g.A.Leg.stands_for g.B.Leg.stands_for g.A.Leg.moments g.B.Leg.moments c.loop-mirror.mirror.a
    c.loop-mirror.mirror.b) _ (stand c.loop-mirror.mirror.a c.loop-mirror.mirror.b)
    (g.S.Source.left c.loop-mirror.script) (g.S.Source.left c.advance.new.script)
    c.in_ok-advance.field-0 c.line.result.now _ _ c.in_err-told.field-0.0
    (c.loop-mirror.invariant.way w left run is told is_run) c.in_ok-advance.ensures.advanced c.if-branch.true
    c.line.ensures c.in_err-told.ensures.stopped)

pub returns-in_err-told-clause-read : goal.returns-in_err-told-clause-read
returns-in_err-told-clause-read g c =
    let stand = stands_left g.A.Leg.stands_for g.B.Leg.stands_for g.A.Leg.moments g.B.Leg.moments
    g.A.Leg.may_be_left g.B.Leg.may_be_left c.legs_are_left_as_told.ensures c.legs_are_left_as_told-2.ensures in (
      λ left told.
          read_within left c.advance.new.reader _ c.advance.ensures.within.read
          (read_on left c.loop-mirror.reader c.advance.new.reader _ _ (c.loop-mirror.invariant.read left told)
          c.advance.ensures.read),
      λ w left run is told is_run.
          let at = c.loop-mirror.invariant.way w left run is told is_run in
          turn_read (cuts_by g.A.Leg.may_be_left g.B.Leg.may_be_left) w run left _ _ c.loop-mirror.number
          c.loop-mirror.found c.loop-mirror.reader c.advance.new.reader
          (shown_by g.A.Leg.stands_for g.B.Leg.stands_for g.A.Leg.moments g.B.Leg.moments c.loop-mirror.mirror.a
          c.loop-mirror.mirror.b) _ (stand c.loop-mirror.mirror.a c.loop-mirror.mirror.b)
          (g.S.Source.left c.loop-mirror.script) _ _ _ at c.advance.ensures.line c.advance.ensures.within
          (turn_held (cuts_by g.A.Leg.may_be_left g.B.Leg.may_be_left) w run left _ _ c.loop-mirror.number
          c.loop-mirror.found c.loop-mirror.reader c.advance.new.reader
          (shown_by g.A.Leg.stands_for g.B.Leg.stands_for g.A.Leg.moments g.B.Leg.moments c.loop-mirror.mirror.a
          c.loop-mirror.mirror.b) _ (stand c.loop-mirror.mirror.a c.loop-mirror.mirror.b)
          (g.S.Source.left c.loop-mirror.script) (g.S.Source.left c.advance.new.script) c.in_ok-advance.field-0
          c.line.result.now _ _ c.in_err-told.field-0.0 at c.in_ok-advance.ensures.advanced c.if-branch.true
          c.line.ensures c.in_err-told.ensures.stopped)
          (not_risen (c.advance.ensures.counted.passed (not_ended _ _ c.in_ok-advance.was)
          ∙ c.loop-mirror.invariant.script_same)),
    )

pub loop-mirror-preserved : goal.loop-mirror-preserved
loop-mirror-preserved g c =
    let kept = c.loop-mirror.invariant in
    let stays = c.run_bytes.ensures.stays in
    let counted = c.run_bytes.ensures.counted in
    let more = c.advance.ensures.taken (c.in_ok-advance.was ∙ ap Ok c.if-branch.true) in
    let asked = c.in_ok-told.ensures.asked in
    let first = asked.first in
    let second = asked.second in
    let old = kept.asked in
    let old_second = kept.second_asked in
    let number = kept.number in
    record {
      stays = record {
        ready = stays.ready;
        same = record {
          blocks_ = stays.same.blocks_ ∙ kept.stays.same.blocks_;
          size_ = stays.same.size_ ∙ kept.stays.same.size_;
          name_ = stays.same.name_ ∙ kept.stays.same.name_;
        };
        same_second = record {
          blocks_ = stays.same_second.blocks_ ∙ kept.stays.same_second.blocks_;
          size_ = stays.same_second.size_ ∙ kept.stays.same_second.size_;
          name_ = stays.same_second.name_ ∙ kept.stays.same_second.name_;
        };
      };
      works = c.in_ok-told.ensures.works;
      asked = omega (arith, first, old, more);
      second_asked = omega (arith, second, old_second, more);
      number = omega (arith, more, number);
      taken = c.advance.ensures.within.taken;
      read = λ left told. read_on left c.loop-mirror.reader c.advance.new.reader _ _ (kept.read left told)
          c.advance.ensures.read;
      disk_same = counted.0.passed (not_ended _ _ c.in_ok-told.was) ∙ kept.disk_same;
      second_same = counted.1.passed (not_ended _ _ c.in_ok-told.was) ∙ kept.second_same;
      script_same = c.advance.ensures.counted.passed (not_ended _ _ c.in_ok-advance.was) ∙ kept.script_same;
      sink_same = counted.2.passed (not_ended _ _ c.in_ok-told.was) ∙ kept.sink_same;
      way = λ w left run is told is_run.
          let stand = stands_left g.A.Leg.stands_for g.B.Leg.stands_for g.A.Leg.moments g.B.Leg.moments
          g.A.Leg.may_be_left g.B.Leg.may_be_left c.legs_are_left_as_told.ensures c.legs_are_left_as_told-2.ensures in
          turn_done (cuts_by g.A.Leg.may_be_left g.B.Leg.may_be_left) w run left _ _ c.loop-mirror.number
          c.loop-mirror.found c.loop-mirror.reader c.advance.new.reader
          (shown_by g.A.Leg.stands_for g.B.Leg.stands_for g.A.Leg.moments g.B.Leg.moments c.loop-mirror.mirror.a
          c.loop-mirror.mirror.b) _ (stand c.loop-mirror.mirror.a c.loop-mirror.mirror.b)
          (g.S.Source.left c.loop-mirror.script) (g.S.Source.left c.advance.new.script)
          c.in_ok-advance.field-0 c.line.result.now _ _ c.in_ok-told.told _
          (kept.way w left run is told is_run) c.in_ok-advance.ensures.advanced c.if-branch.true
          c.line.ensures c.in_ok-told.ensures.ran c.either-found.ensures c.advance.ensures.line;
    }

pub returns-clause-ran : goal.returns-clause-ran
returns-clause-ran g c w left run is told is_run =
    let stand = stands_left g.A.Leg.stands_for g.B.Leg.stands_for g.A.Leg.moments g.B.Leg.moments
    g.A.Leg.may_be_left g.B.Leg.may_be_left c.legs_are_left_as_told.ensures c.legs_are_left_as_told-2.ensures in
    turn_ended (cuts_by g.A.Leg.may_be_left g.B.Leg.may_be_left) w run left _ _ c.loop-mirror.number
    c.loop-mirror.found c.loop-mirror.reader c.advance.new.reader
    (shown_by g.A.Leg.stands_for g.B.Leg.stands_for g.A.Leg.moments g.B.Leg.moments c.loop-mirror.mirror.a
    c.loop-mirror.mirror.b) _ (stand c.loop-mirror.mirror.a c.loop-mirror.mirror.b)
    (g.S.Source.left c.loop-mirror.script) (g.S.Source.left c.advance.new.script) c.in_ok-advance.field-0
    (c.loop-mirror.invariant.way w left run is told is_run) c.in_ok-advance.ensures.advanced c.if-branch.false

pub returns-clause-read : goal.returns-clause-read
returns-clause-read g c =
    let stand = stands_left g.A.Leg.stands_for g.B.Leg.stands_for g.A.Leg.moments g.B.Leg.moments
    g.A.Leg.may_be_left g.B.Leg.may_be_left c.legs_are_left_as_told.ensures c.legs_are_left_as_told-2.ensures in (
      λ left told.
          read_within left c.advance.new.reader _ c.advance.ensures.within.read
          (read_on left c.loop-mirror.reader c.advance.new.reader _ _ (c.loop-mirror.invariant.read left told)
          c.advance.ensures.read),
      λ w left run is told is_run.
          turn_read (cuts_by g.A.Leg.may_be_left g.B.Leg.may_be_left) w run left _ _ c.loop-mirror.number
          c.loop-mirror.found c.loop-mirror.reader c.advance.new.reader
          (shown_by g.A.Leg.stands_for g.B.Leg.stands_for g.A.Leg.moments g.B.Leg.moments c.loop-mirror.mirror.a
          c.loop-mirror.mirror.b) _ (stand c.loop-mirror.mirror.a c.loop-mirror.mirror.b)
          (g.S.Source.left c.loop-mirror.script) _ _ _ (c.loop-mirror.invariant.way w left run is told is_run)
          c.advance.ensures.line c.advance.ensures.within (holds_same refl)
          (not_risen (c.advance.ensures.counted.passed (not_ended _ _ c.in_ok-advance.was)
          ∙ c.loop-mirror.invariant.script_same)),
    )
