use Rattle.std.proofs.Common.{◌≡◌, suc, sym, ◌∙◌, ap, subst}
use Rattle.device_model.specs.Progress as Model
use Rattle.request_slots.specs.Flight.{Flight}
use Rattle.request_slots.specs.InFlight.{as_submission, submit_answer}
use Rattle.device_parts.specs.Device.{IsDone}
use Rattle.device_parts.specs.declared.parts.Parts.{Parts}
use Rattle.recovery_device.specs.Answers.{refusal_of}
use Rattle.recovery_device.specs.Device.{IsReady, in_recovery}
use Rattle.recovery_device.proofs.EventLemmas.{is_submitted, passed_is, ready_submitted, refused_is, submitted_to}
use Rattle.recovery_device.proofs.submitting.submit.Goals as goal

pub returns-in-Some-clause-done : goal.returns-in-Some-clause-done
returns-in-Some-clause-done c moments w is =
    let parts = c.args.parts.now in
    let request = c.args.request in
    let condition = c.args.condition in
    subst (λ (p : Parts). IsDone in_recovery w (Model.Submit (as_submission request))
    (submit_answer (refusal_of condition parts.slots request) (suc parts.slots.submitted)) condition p moments moments)
    (refused_is condition request parts c.in-Some.fault (sym c.own_refusal.ensures ∙ c.in-Some.is))
    (is_submitted w condition parts moments request is)

pub returns-in-Some-clause-ready : goal.returns-in-Some-clause-ready
returns-in-Some-clause-ready c disk moments ready = ready

pub returns-clause-done : goal.returns-clause-done
returns-clause-done c moments w is =
    let parts = c.args.parts.now in
    let request = c.args.request in
    let condition = c.args.condition in
    let later : submitted_to condition request parts ≡ record parts { slots = c.submit.new.self } =
    passed_is condition request parts (sym c.own_refusal.ensures ∙ c.in_default.is)
    ∙ ap (λ (x : Flight). let p : Parts = record parts { slots = x } in p) (sym c.submit.ensures.submitted) in
    subst (λ (p : Parts). IsDone in_recovery w (Model.Submit (as_submission request))
    (submit_answer (refusal_of condition parts.slots request) (suc parts.slots.submitted)) condition p moments moments) later
    (is_submitted w condition parts moments request is)

pub returns-clause-ready : goal.returns-clause-ready
returns-clause-ready c disk moments ready =
    let parts = c.args.parts.now in
    let request = c.args.request in
    let condition = c.args.condition in
    let later : submitted_to condition request parts ≡ record parts { slots = c.submit.new.self } =
    passed_is condition request parts (sym c.own_refusal.ensures ∙ c.in_default.is)
    ∙ ap (λ (x : Flight). let p : Parts = record parts { slots = x } in p) (sym c.submit.ensures.submitted) in
    subst (λ (p : Parts). IsReady p disk moments) later (ready_submitted condition request parts disk moments ready)
