use Rattle.std.proofs.Common.{◌∷◌, Err, Ok, Some, ◌∙◌, ap, subst, sym}
use Rattle.script_text.specs.Line.{ask_of, fault_of}
use Rattle.mirror_model.specs.Script.{MirrorLine}
use Rattle.mirror_model.specs.ScriptRun.{mirror_run_from}
use Rattle.command_ending.specs.Ended.{ending_of}
use Rattle.script_lines.specs.Ends.{ended_by}
use Rattle.mirror_run.specs.Running.{IsStopped}
use Rattle.mirror_run.specs.Standing.{cuts_by, format_at, shown_by}
use Rattle.mirror_run.proofs.LineLemmas.{ran_ask, ran_skip, stopped_by_end, stopped_by_words}
use Rattle.mirror_run.proofs.ReadingLemmas.{line_is}
use Rattle.mirror_run.proofs.StoppingLemmas.{stands_left}
use Rattle.mirror_run.proofs.lines.run_bytes.Goals as goal

pub returns-in-Ok-clause-ran : goal.returns-in-Ok-clause-ran
returns-in-Ok-clause-ran g c w legs =
    let may = cuts_by g.A.Leg.may_be_left g.B.Leg.may_be_left in
    let show = shown_by g.A.Leg.stands_for g.B.Leg.stands_for g.A.Leg.moments g.B.Leg.moments in
    let stand = stands_left g.A.Leg.stands_for g.B.Leg.stands_for g.A.Leg.moments g.B.Leg.moments
    g.A.Leg.may_be_left g.B.Leg.may_be_left c.legs_are_left_as_told.ensures c.legs_are_left_as_told-2.ensures in
    ran_ask may w (show c.args.mirror.now.a c.args.mirror.now.b) (show c.run_ask.new.mirror.a c.run_ask.new.mirror.b)
    (g.O.Sink.held c.args.out.now) (g.O.Sink.held c.run_ask.new.out) legs
    (stand c.args.mirror.now.a c.args.mirror.now.b) (stand c.run_ask.new.mirror.a c.run_ask.new.mirror.b)
    (ask_of c.in-Ok-Some.ask)
    (c.run_ask.ensures.first_moments w.a w.b w.m legs) (c.run_ask.ensures.second_moments w.a w.b w.m legs)
    c.args.bytes.now c.in-Ok.found (rw c.in-Ok-Some.field-0-is at c.in-Ok-Some.ensures.asks)
    (c.in-Ok.ensures.ran w.a w.b w.m legs)

pub returns-in-Ok-None-clause-ran : goal.returns-in-Ok-None-clause-ran
returns-in-Ok-None-clause-ran g c w legs =
    ran_skip (cuts_by g.A.Leg.may_be_left g.B.Leg.may_be_left) w
    (shown_by g.A.Leg.stands_for g.B.Leg.stands_for g.A.Leg.moments g.B.Leg.moments
    c.args.mirror.now.a c.args.mirror.now.b)
    (g.O.Sink.held c.args.out.now) c.args.bytes.now legs (rw c.in-Ok-None.field-0-is at c.in-Ok-None.ensures.asks)

pub returns-in-Err-run_ask-clause-stopped : goal.returns-in-Err-run_ask-clause-stopped
returns-in-Err-run_ask-clause-stopped g c w legs too_long found read lines is_read =
    let may = cuts_by g.A.Leg.may_be_left g.B.Leg.may_be_left in
    let show = shown_by g.A.Leg.stands_for g.B.Leg.stands_for g.A.Leg.moments g.B.Leg.moments in
    let stand = stands_left g.A.Leg.stands_for g.B.Leg.stands_for g.A.Leg.moments g.B.Leg.moments
    g.A.Leg.may_be_left g.B.Leg.may_be_left c.legs_are_left_as_told.ensures c.legs_are_left_as_told-2.ensures in
    let old = show c.args.mirror.now.a c.args.mirror.now.b in
    let new = show c.run_ask.new.mirror.a c.run_ask.new.mirror.b in
    let exact = rw c.in-Ok-Some.field-0-is at c.in-Ok-Some.ensures.exact in
    let untold = c.run_ask.ensures.untold in
    let refused = c.run_ask.ensures.refused in
    let is = line_is c.args.bytes.now read (Ok (Some (ask_of c.in-Ok-Some.ask))) is_read exact in
    rw c.ended_by.ensures
    (subst (λ (line : MirrorLine). IsStopped may w (mirror_run_from (format_at w) too_long c.args.number w.m found (line ∷ lines))
    (ending_of (ended_by c.args.number c.in-Err-run_ask.end)) old.moments new.moments
    (g.O.Sink.held c.args.out.now) (g.O.Sink.held c.run_ask.new.out)) (sym is)
    (stopped_by_end may w old new (g.O.Sink.held c.args.out.now) (g.O.Sink.held c.run_ask.new.out) legs
    (stand c.args.mirror.now.a c.args.mirror.now.b) (stand c.run_ask.new.mirror.a c.run_ask.new.mirror.b)
    (ask_of c.in-Ok-Some.ask)
    (c.run_ask.ensures.first_moments w.a w.b w.m legs) (c.run_ask.ensures.second_moments w.a w.b w.m legs)
    too_long c.args.number found lines c.in-Err-run_ask.end (c.in-Err-run_ask.ensures.ended w.a w.b w.m legs)
    (λ fault same.
    let kept = refused.kept fault (c.in-Err-run_ask.is ∙ ap Err same) in
    (ap (λ m. (show m.a m.b).moments) kept.0, ap g.O.Sink.held kept.1))
    (λ disk. ap g.O.Sink.held (untold.disk (c.in-Err-run_ask.is ∙ ap Err disk)))
    (λ memory. ap g.O.Sink.held (untold.memory (c.in-Err-run_ask.is ∙ ap Err memory)))))

pub returns-in-Err-clause-stopped : goal.returns-in-Err-clause-stopped
returns-in-Err-clause-stopped g c w legs too_long found read lines is_read =
    let may = cuts_by g.A.Leg.may_be_left g.B.Leg.may_be_left in
    let show = shown_by g.A.Leg.stands_for g.B.Leg.stands_for g.A.Leg.moments g.B.Leg.moments in
    let stand = stands_left g.A.Leg.stands_for g.B.Leg.stands_for g.A.Leg.moments g.B.Leg.moments
    g.A.Leg.may_be_left g.B.Leg.may_be_left c.legs_are_left_as_told.ensures c.legs_are_left_as_told-2.ensures in
    stopped_by_words may w (show c.args.mirror.now.a c.args.mirror.now.b) (g.O.Sink.held c.args.out.now)
    (stand c.args.mirror.now.a c.args.mirror.now.b w legs) too_long c.args.number found lines read
    (fault_of c.in-Err.fault)
    (line_is c.args.bytes.now read (Err (fault_of c.in-Err.fault)) is_read c.in-Err.ensures.exact)
    c.ended_by_form.result c.ended_by_form.ensures
