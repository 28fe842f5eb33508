use Rattle.std.proofs.Common.{List, [], ◌∷◌, ap, refl, ◌∙◌, suc, subst}
use Rattle.disk_model.specs.Disk.{Content}
use Rattle.device_model.specs.Progress.{Submit}
use Rattle.request_slots.specs.InFlight.{as_submission, submit_answer}
use Rattle.script_session.specs.LineRun.{HasAnswered}
use Rattle.request_slots.specs.Submitting.{answer_by}
use Rattle.device_parts.specs.declared.condition.Condition.{Condition}
use Rattle.device_parts.specs.declared.condition.Condition.TheVariants.{Working}
use Rattle.device.specs.Answers.{refusal_in}
use Rattle.device.proofs.CallLemmas.{device_works}
use Rattle.script_session.specs.declared.line_answer.LineAnswer.TheVariants as Lines
use Rattle.script_session.proofs.CallLemmas.{submit_err, submit_ok, submit_told, submitted_ticket}
use Rattle.script_session.proofs.calling.submit.Goals as goal
use Rattle.device.specs.Device.{any_mode, mode_of}
use Rattle.device.specs.declared.mode.DeviceParts.{DeviceParts}
use Rattle.device_parts.specs.Device.{IsDone, Standing}
use Rattle.request_slots.specs.declared.request.Request.{Request}

-- The request is submitted, or refused.
abbrev IsSubmitted : Standing → Request → Condition → (old new : DeviceParts) → List Content → Type 0
IsSubmitted w request condition old new moments =
    IsDone any_mode w (Submit (as_submission request))
    (submit_answer (refusal_in (mode_of old.mode) condition old.common.slots request) (suc old.common.slots.submitted))
    condition new moments moments

pub returns-in-Ok-clause-answered : goal.returns-in-Ok-clause-answered
returns-in-Ok-clause-answered g c w is =
    let old = c.args.device.now.parts in
    let fault = refusal_in (mode_of old.mode) Working old.common.slots c.args.request in
    subst (λ (m : List Content). HasAnswered w (Submit (as_submission c.args.request) ∷ []) (Lines.Ticket c.number-number.result) c.submit.new.self.parts m (g.D.Disk.moments c.submit.new.self.disk.now)) (ap g.D.Disk.moments c.submit.ensures.disk)
    (submit_told w c.args.request fault (suc old.common.slots.submitted) _ Working c.submit.new.self.parts _
    (subst (λ (x : Condition). IsSubmitted w c.args.request x old c.submit.new.self.parts (g.D.Disk.moments c.submit.new.self.disk.now)) c.requires.works.is
    (c.submit.ensures.done w (device_works w _ _ _ c.requires.works.is is))) refl
    (ap Lines.Ticket c.number-number.ensures
    ∙ submit_ok fault (suc old.common.slots.submitted) c.in-Ok.ticket c.args.request
    (c.in-Ok.ensures.answer ∙ ap (λ (x : Condition). answer_by (refusal_in (mode_of old.mode) x old.common.slots c.args.request) (suc old.common.slots.submitted) c.args.request) c.requires.works.is)))

pub returns-in-Err-clause-answered : goal.returns-in-Err-clause-answered
returns-in-Err-clause-answered g c w is =
    let old = c.args.device.now.parts in
    let fault = refusal_in (mode_of old.mode) Working old.common.slots c.args.request in
    subst (λ (m : List Content). HasAnswered w (Submit (as_submission c.args.request) ∷ []) (c.refused.result) c.submit.new.self.parts m (g.D.Disk.moments c.submit.new.self.disk.now)) (ap g.D.Disk.moments c.submit.ensures.disk)
    (submit_told w c.args.request fault (suc old.common.slots.submitted) _ Working c.submit.new.self.parts _
    (subst (λ (x : Condition). IsSubmitted w c.args.request x old c.submit.new.self.parts (g.D.Disk.moments c.submit.new.self.disk.now)) c.requires.works.is
    (c.submit.ensures.done w (device_works w _ _ _ c.requires.works.is is))) refl
    (c.refused.ensures
    ∙ submit_err fault (suc old.common.slots.submitted) c.args.request c.in-Err.refusal
    (c.in-Err.ensures.answer ∙ ap (λ (x : Condition). answer_by (refusal_in (mode_of old.mode) x old.common.slots c.args.request) (suc old.common.slots.submitted) c.args.request) c.requires.works.is)))

pub returns-in-Ok-clause-ticket : goal.returns-in-Ok-clause-ticket
returns-in-Ok-clause-ticket g c w is =
    let old = c.args.device.now.parts in
    let fault = refusal_in (mode_of old.mode) Working old.common.slots c.args.request in
    let done = subst (λ (x : Condition). IsSubmitted w c.args.request x old c.submit.new.self.parts (g.D.Disk.moments c.submit.new.self.disk.now)) c.requires.works.is
    (c.submit.ensures.done w (device_works w _ _ _ c.requires.works.is is)) in
    submitted_ticket fault (suc old.common.slots.submitted) (Lines.Ticket c.number-number.result) _
    (ap Lines.Ticket c.number-number.ensures
    ∙ submit_ok fault (suc old.common.slots.submitted) c.in-Ok.ticket c.args.request
    (c.in-Ok.ensures.answer ∙ ap (λ (x : Condition). answer_by (refusal_in (mode_of old.mode) x old.common.slots c.args.request) (suc old.common.slots.submitted) c.args.request) c.requires.works.is)) done.answers

pub returns-in-Err-clause-ticket : goal.returns-in-Err-clause-ticket
returns-in-Err-clause-ticket g c w is =
    let old = c.args.device.now.parts in
    let fault = refusal_in (mode_of old.mode) Working old.common.slots c.args.request in
    let done = subst (λ (x : Condition). IsSubmitted w c.args.request x old c.submit.new.self.parts (g.D.Disk.moments c.submit.new.self.disk.now)) c.requires.works.is
    (c.submit.ensures.done w (device_works w _ _ _ c.requires.works.is is)) in
    submitted_ticket fault (suc old.common.slots.submitted) c.refused.result _
    (c.refused.ensures
    ∙ submit_err fault (suc old.common.slots.submitted) c.args.request c.in-Err.refusal
    (c.in-Err.ensures.answer ∙ ap (λ (x : Condition). answer_by (refusal_in (mode_of old.mode) x old.common.slots c.args.request) (suc old.common.slots.submitted) c.args.request) c.requires.works.is)) done.answers
