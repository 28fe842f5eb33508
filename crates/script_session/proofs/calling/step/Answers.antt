use Rattle.direct_mode.proofs.ServingLemmas.{on_err_always}
use Rattle.script_session.proofs.CallLemmas.{moved_told}
use Rattle.script_session.proofs.calling.step.Goals as goal

pub returns-in_err-moved-clause-err : goal.returns-in_err-moved-clause-err
returns-in_err-moved-clause-err g c = on_err_always c.from_residual.result (λ w is. c.in_err-moved.ensures.runs.err w is)

pub returns-clause-answered : goal.returns-clause-answered
returns-clause-answered g c w is =
    moved_told w _ c.in_ok-moved.moved c.moved_answer.result _ _ _ c.moved_answer.ensures (c.in_ok-moved.ensures.runs.done w is) (c.in_ok-moved.ensures.answers w is)
