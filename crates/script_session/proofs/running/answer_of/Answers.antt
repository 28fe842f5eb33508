use Rattle.std.proofs.Common.{sym, ◌∙◌, ap, subst}
use Rattle.script_text.specs.Line.{line_of}
use Rattle.script_text.specs.declared.line.Line.{Line}
use Rattle.device.specs.Run.{HasFailed}
use Rattle.device.proofs.RunLemmas.{none_begun}
use Rattle.script_session.specs.LineRun.{events_of}
use Rattle.script_session.specs.Meaning.{fault_on}
use Rattle.script_session.specs.Tickets.{numbers_of}
use Rattle.script_session.proofs.CallLemmas.{stays_kept}
use Rattle.script_session.proofs.TicketLemmas.{ticket_held}
use Rattle.script_session.proofs.running.answer_of.Goals as goal

pub returns-in_err-start-in-Ask-true-default-clause-memory : goal.returns-in_err-start-in-Ask-true-default-clause-memory
returns-in_err-start-in-Ask-true-default-clause-memory g c stopped w is =
    none_begun w (events_of w (line_of c.args.line.now)) c.args.device.now.parts c.start.new.device.parts _ _ is
    c.in_err-start-in-Ask-true-default.ensures.err (ap g.D.Disk.moments c.start.ensures.disk)

pub serve_one-requires-clause-number : goal.serve_one-requires-clause-number
serve_one-requires-clause-number g c =
    let parts = c.args.device.now.parts in
    ticket_held c.args.tickets.now c.in-Serve.ticket
    (ap (λ (x : Line). fault_on parts.common.slots.blocks parts.common.slots.block_size (numbers_of c.args.tickets.now) (line_of x)) (sym c.in-Serve.is) ∙ c.requires.runnable)

pub take-requires-clause-number : goal.take-requires-clause-number
take-requires-clause-number g c =
    let parts = c.args.device.now.parts in
    ticket_held c.args.tickets.now c.in-Take.ticket
    (ap (λ (x : Line). fault_on parts.common.slots.blocks parts.common.slots.block_size (numbers_of c.args.tickets.now) (line_of x)) (sym c.in-Take.is) ∙ c.requires.runnable)

pub returns-in_err-step-in-Step-clause-disk : goal.returns-in_err-step-in-Step-clause-disk
returns-in_err-step-in-Step-clause-disk g c stopped w is =
    let before = g.D.Disk.moments c.args.device.now.disk.now in
    let after = g.D.Disk.moments c.step.new.device.disk.now in
    subst (λ (x : Line). HasFailed w (events_of w (line_of x)) c.step.new.device.parts before after) (sym c.in-Step.is)
    (c.in_err-step-in-Step.ensures.err w is)

pub returns-in_err-step-in-Step-clause-stays : goal.returns-in_err-step-in-Step-clause-stays
returns-in_err-step-in-Step-clause-stays g c = stays_kept _ _ _ c.args.tickets.now _ _ _ c.requires.tickets c.step.ensures.keeps

pub returns-in_ok-step-in-Step-clause-stays : goal.returns-in_ok-step-in-Step-clause-stays
returns-in_ok-step-in-Step-clause-stays g c = stays_kept _ _ _ c.args.tickets.now _ _ _ c.requires.tickets c.step.ensures.keeps
