use Rattle.script_text.specs.Line.{ask_of}
use Rattle.script_session.proofs.LineLemmas.{cut_stopped}
use Rattle.device_exercise.proofs.ExercisingLemmas.{cut_one, ran_one, stays_one}
use Rattle.device_exercise.proofs.StopLemmas.{on_err_any}
use Rattle.device_exercise.proofs.exercising.run_counted.Goals as goal

pub returns-in_err-reply-clause-stopped : goal.returns-in_err-reply-clause-stopped
returns-in_err-reply-clause-stopped g c = on_err_any c.from_residual.result (λ w is.
    cut_one w (ask_of c.args.ask.now) _ _ (cut_stopped w _ _ _ _ _ (c.in_err-reply.ensures.stopped w is)))

pub returns-in_err-reply-clause-stays : goal.returns-in_err-reply-clause-stays
returns-in_err-reply-clause-stays g c = stays_one _ _ _ _ _ _ _ c.run_ask.ensures.stays

pub returns-clause-ran : goal.returns-clause-ran
returns-clause-ran g c w is =
    ran_one w (ask_of c.args.ask.now) c.in_ok-reply.reply _ _ _ _ _ (c.in_ok-reply.ensures.ran w is)
    c.add_any.ensures.added

pub returns-clause-stays : goal.returns-clause-stays
returns-clause-stays g c = stays_one _ _ _ _ _ _ _ c.run_ask.ensures.stays
