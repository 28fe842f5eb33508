use Rattle.std.proofs.Common.{ℕ, ◌∷◌, [], ◌∙◌, ap, subst}
use Rattle.device_model.specs.Progress.{Submit}
use Rattle.device_model.specs.Script.{submission_of}
use Rattle.device_model.specs.Submission.{Submission}
use Rattle.device_parts.specs.declared.condition.Condition.TheVariants.{Working}
use Rattle.device.proofs.ModeLemmas.{flight_now}
use Rattle.script_text.specs.Line.{ask_of}
use Rattle.script_session.specs.LineRun.{HasAnswered}
use Rattle.script_session.proofs.running.start.Goals as goal

pub returns-clause-answered : goal.returns-clause-answered
returns-clause-answered g c w is =
    let parts = c.args.device.now.parts in
    let a = g.D.Disk.moments c.args.device.now.disk.now in
    let flight = flight_now w Working parts.mode parts.common a is in
    let asked = c.in_ok-request.ensures
    ∙ ap (λ (n : ℕ). submission_of n (ask_of c.args.ask.now)) (c.block_size.ensures ∙ flight.block_size) in
    subst (λ (s : Submission). HasAnswered w (Submit s ∷ []) c.submit.result c.submit.new.device.parts a (g.D.Disk.moments c.submit.new.device.disk.now))
    asked (c.submit.ensures.answered w is)
