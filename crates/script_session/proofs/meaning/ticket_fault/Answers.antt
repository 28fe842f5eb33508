use Rattle.std.proofs.Common.{Bool, if◌then◌else◌, Option, None, Some, sym, ◌∙◌, ap}
use Rattle.device_model.specs.Script.{MeaningFault, WrongTicket}
use Rattle.script_session.proofs.TicketLemmas.{any-numbers}
use Rattle.script_session.proofs.meaning.ticket_fault.Goals as goal

pub returns-then-holds : goal.returns-then-holds
returns-then-holds c =
    let by : Bool → Option MeaningFault = λ b. (if b then None else Some (WrongTicket c.args.ticket)) in
    sym (ap by (any-numbers c.args.ticket c.args.tickets.now.waiting.items ∙ sym c.holds.ensures ∙ c.if-holds.true))

pub returns : goal.returns
returns c =
    let by : Bool → Option MeaningFault = λ b. (if b then None else Some (WrongTicket c.args.ticket)) in
    sym (ap by (any-numbers c.args.ticket c.args.tickets.now.waiting.items ∙ sym c.holds.ensures ∙ c.if-holds.false))
