use Rattle.std.proofs.Common.{ℕ, [], ◌∷◌, sym, ◌∙◌, ap, subst}
use Rattle.device_model.specs.Progress.{Serve}
use Rattle.request_slots.specs.Flight.{is_in_flight}
use Rattle.direct_mode.proofs.ServingLemmas.{on_err_always}
use Rattle.device.specs.Run.{HasFailed}
use Rattle.script_session.specs.LineRun.{HasAnswered}
use Rattle.script_session.proofs.CallLemmas.{served_told}
use Rattle.script_session.proofs.TicketLemmas.{any-asks}
use Rattle.script_session.proofs.calling.serve_one.Goals as goal

pub serve-requires-clause-there : goal.serve-requires-clause-there
serve-requires-clause-there g c =
    ap (λ (t : ℕ). is_in_flight t c.args.device.now.parts.common.slots) c.ticket_of.ensures
    ∙ sym (any-asks c.args.number c.args.tickets.now.waiting.items c.args.device.now.parts.common.slots.slots c.requires.tickets.asks) ∙ c.requires.number

pub returns-in_err-served-clause-err : goal.returns-in_err-served-clause-err
returns-in_err-served-clause-err g c = on_err_always c.from_residual.result (λ w is.
    subst (λ (t : ℕ). HasFailed w (Serve t ∷ []) c.serve.new.device.parts (g.D.Disk.moments c.args.device.now.disk.now) (g.D.Disk.moments c.serve.new.device.disk.now)) c.ticket_of.ensures (c.in_err-served.ensures.runs.err w is))

pub returns-clause-answered : goal.returns-clause-answered
returns-clause-answered g c w is =
    subst (λ (t : ℕ). HasAnswered w (Serve t ∷ []) c.served_answer.result c.serve.new.device.parts (g.D.Disk.moments c.args.device.now.disk.now) (g.D.Disk.moments c.serve.new.device.disk.now)) c.ticket_of.ensures
    (served_told w _ c.in_ok-served.served c.served_answer.result _ _ _ c.served_answer.ensures (c.in_ok-served.ensures.runs.done w is) (c.in_ok-served.ensures.answers w is))
