use Rattle.std.proofs.Common.{Err, ◌∙◌, ap}
use Rattle.mirror_run.specs.Standing.{cuts_by, shown_by}
use Rattle.mirror_run.proofs.LineLemmas.{levelled, stopped_by_level}
use Rattle.mirror_run.proofs.StoppingLemmas.{stands_left}
use Rattle.mirror_run.proofs.levelling.level.Goals as goal

pub returns-in-Ok-clause-levelled : goal.returns-in-Ok-clause-levelled
returns-in-Ok-clause-levelled g c w legs =
    let may = cuts_by g.A.Leg.may_be_left g.B.Leg.may_be_left in
    let show = shown_by g.A.Leg.stands_for g.B.Leg.stands_for g.A.Leg.moments g.B.Leg.moments in
    let stand = stands_left g.A.Leg.stands_for g.B.Leg.stands_for g.A.Leg.moments g.B.Leg.moments
    g.A.Leg.may_be_left g.B.Leg.may_be_left c.legs_are_left_as_told.ensures c.legs_are_left_as_told-2.ensures in
    levelled may w (show c.args.mirror.now.a c.args.mirror.now.b) (show c.run_level.new.mirror.a c.run_level.new.mirror.b)
    (g.O.Sink.held c.args.out.now) (g.O.Sink.held c.run_level.new.out) legs
    (stand c.args.mirror.now.a c.args.mirror.now.b) (stand c.run_level.new.mirror.a c.run_level.new.mirror.b)
    (c.run_level.ensures.first_moments w.a w.b w.m legs) (c.run_level.ensures.second_moments w.a w.b w.m legs)
    (c.in-Ok.ensures.levelled w.a w.b w.m legs)

pub returns-in-Err-clause-stopped : goal.returns-in-Err-clause-stopped
returns-in-Err-clause-stopped g c w too_long lines legs =
    let may = cuts_by g.A.Leg.may_be_left g.B.Leg.may_be_left in
    let show = shown_by g.A.Leg.stands_for g.B.Leg.stands_for g.A.Leg.moments g.B.Leg.moments in
    let stand = stands_left g.A.Leg.stands_for g.B.Leg.stands_for g.A.Leg.moments g.B.Leg.moments
    g.A.Leg.may_be_left g.B.Leg.may_be_left c.legs_are_left_as_told.ensures c.legs_are_left_as_told-2.ensures in
    let untold = c.run_level.ensures.untold in
    rw c.ended_by.ensures
    (stopped_by_level may w (show c.args.mirror.now.a c.args.mirror.now.b)
    (show c.run_level.new.mirror.a c.run_level.new.mirror.b)
    (g.O.Sink.held c.args.out.now) (g.O.Sink.held c.run_level.new.out) legs
    (stand c.args.mirror.now.a c.args.mirror.now.b) (stand c.run_level.new.mirror.a c.run_level.new.mirror.b)
    (c.run_level.ensures.first_moments w.a w.b w.m legs) (c.run_level.ensures.second_moments w.a w.b w.m legs)
    too_long lines c.in-Err.end (c.in-Err.ensures.ended w.a w.b w.m legs)
    (λ disk. ap g.O.Sink.held (untold.disk (c.in-Err.is ∙ ap Err disk)))
    (λ memory. ap g.O.Sink.held (untold.memory (c.in-Err.is ∙ ap Err memory))))
