use Rattle.std.proofs.Common.{ℕ, [], ◌∷◌, length, sym, ◌∙◌, ap, subst, arith}
use Rattle.request_slots.specs.Flight.{is_in_flight}
use Rattle.device_model.specs.Script.{finish_all_events, submission_of, whole_finish}
use Rattle.device_model.specs.Progress as Model
use Rattle.script_text.specs.Line.{ask_of}
use Rattle.device.specs.Run.{HasFailed, HasRun, standing_behind}
use Rattle.device.proofs.RunLemmas.{failed_wider}
use Rattle.script_session.specs.Told.{IsTicketOf}
use Rattle.script_session.specs.declared.line_answer.LineAnswer.{LineAnswer}
use Rattle.script_session.proofs.CallLemmas.{ask_begun, ask_done, ask_failed, ask_refused}
use Rattle.script_session.proofs.TicketLemmas.{any-asks}
use Rattle.script_session.proofs.running.ask_whole.Goals as goal

pub returns-in_err-finish_all-clause-disk : goal.returns-in_err-finish_all-clause-disk
returns-in_err-finish_all-clause-disk g c stopped w is = failed_wider w _ _ _ _ _ (c.in_err-finish_all.ensures.runs.err w is)

pub returns-in_err-answer-clause-memory : goal.returns-in_err-answer-clause-memory
returns-in_err-answer-clause-memory g c stopped w is =
    ask_begun w (ask_of c.args.ask.now) c.finish_all.new.device.parts c.start.new.device.parts _ _ (g.D.Disk.moments c.start.new.device.disk.now)
    (c.in_ok-finish_all.ensures.runs.done w is) _ _ c.in_err-answer.ensures.err (ap g.D.Disk.moments c.start.ensures.disk)

pub returns-in_default-clause-answered : goal.returns-in_default-clause-answered
returns-in_default-clause-answered g c w is =
    let first = c.in_ok-finish_all.ensures.runs.done w is in
    ask_refused w (ask_of c.args.ask.now) c.finish_all.new.device.parts c.start.new.device.parts _ _ _ first c.in_ok-answer.answer
    (c.in_ok-answer.ensures.answered _ first.device) (c.in_ok-answer.ensures.ticket _ first.device) c.in_default.not-Ticket

pub returns-in_default-clause-stays : goal.returns-in_default-clause-stays
returns-in_default-clause-stays g c =
    let kept = c.finish_all.ensures.runs.keeps in
    let stays = c.start.ensures.stays in
    record {
      ready = stays.ready;
      tickets_ = stays.tickets_;
      mode_ = stays.mode_ ∙ kept.same_mode;
      blocks = stays.blocks ∙ kept.flight.blocks;
      block_size = stays.block_size ∙ kept.flight.block_size;
      submitted = let before = kept.flight.submitted in let after = stays.submitted in omega (arith, before, after);
      identity = stays.identity ∙ kept.identity;
    }

pub finish-requires-clause-there : goal.finish-requires-clause-there
finish-requires-clause-there g c =
    ap (λ (t : ℕ). is_in_flight t c.start.new.device.parts.common.slots) c.ticket_of.ensures
    ∙ sym (any-asks c.in-Ticket.ticket c.start.new.tickets.waiting.items c.start.new.device.parts.common.slots.slots c.start.ensures.stays.tickets_.asks)
    ∙ c.in_ok-answer.ensures.held c.in-Ticket.ticket c.in-Ticket.is

pub returns-in_err-finish-clause-disk : goal.returns-in_err-finish-clause-disk
returns-in_err-finish-clause-disk g c stopped w is =
    let first = c.in_ok-finish_all.ensures.runs.done w is in
    let answered = c.in_ok-answer.ensures.answered (standing_behind w (finish_all_events w.format 1 (length w.state.progress.requests) w.state)) first.device in
    let sub = submission_of w.format.blocks.block_size (ask_of c.args.ask.now) in
    let here = standing_behind w (finish_all_events w.format 1 (length w.state.progress.requests) w.state) in
    let next = standing_behind here (Model.Submit sub ∷ []) in
    let given = subst (λ (x : LineAnswer). IsTicketOf x (Model.event_result w.format here.state (Model.Submit sub)).answer) c.in-Ticket.is (c.in_ok-answer.ensures.ticket here first.device) in
    ask_failed w (ask_of c.args.ask.now) c.finish_all.new.device.parts c.start.new.device.parts _ _ _ first c.in-Ticket.ticket given answered.run c.finish.new.device.parts _
    (subst (λ (t : ℕ). HasFailed next (whole_finish w.format t next.state) c.finish.new.device.parts (g.D.Disk.moments c.start.new.device.disk.now) (g.D.Disk.moments c.finish.new.device.disk.now)) c.ticket_of.ensures (c.in_err-finish.ensures.runs.err next answered.run.device))

pub returns-clause-answered : goal.returns-clause-answered
returns-clause-answered g c w is =
    let first = c.in_ok-finish_all.ensures.runs.done w is in
    let answered = c.in_ok-answer.ensures.answered (standing_behind w (finish_all_events w.format 1 (length w.state.progress.requests) w.state)) first.device in
    let sub = submission_of w.format.blocks.block_size (ask_of c.args.ask.now) in
    let here = standing_behind w (finish_all_events w.format 1 (length w.state.progress.requests) w.state) in
    let next = standing_behind here (Model.Submit sub ∷ []) in
    let given = subst (λ (x : LineAnswer). IsTicketOf x (Model.event_result w.format here.state (Model.Submit sub)).answer) c.in-Ticket.is (c.in_ok-answer.ensures.ticket here first.device) in
    let third = subst (λ (t : ℕ). HasRun next (whole_finish w.format t next.state) c.finish.new.device.parts (g.D.Disk.moments c.start.new.device.disk.now) (g.D.Disk.moments c.finish.new.device.disk.now)) c.ticket_of.ensures (c.in_ok-finish.ensures.runs.done next answered.run.device) in
    ask_done w (ask_of c.args.ask.now) c.finish_all.new.device.parts c.start.new.device.parts _ _ _ first c.in-Ticket.ticket given answered.run
    c.finish.new.device.parts c.take.new.device.parts _ _ third c.take.result (c.take.ensures.answered (standing_behind next (whole_finish w.format c.in-Ticket.ticket next.state)) third.device)

pub returns-clause-stays : goal.returns-clause-stays
returns-clause-stays g c =
    let all = c.finish_all.ensures.runs.keeps in
    let begun = c.start.ensures.stays in
    let own = c.finish.ensures.runs.keeps in
    let taken = c.take.ensures.stays in
    record {
      ready = taken.ready;
      tickets_ = taken.tickets_;
      mode_ = taken.mode_ ∙ own.same_mode ∙ begun.mode_ ∙ all.same_mode;
      blocks = taken.blocks ∙ own.flight.blocks ∙ begun.blocks ∙ all.flight.blocks;
      block_size = taken.block_size ∙ own.flight.block_size ∙ begun.block_size ∙ all.flight.block_size;
      submitted =
          let first = all.flight.submitted in
          let second = begun.submitted in
          let third = own.flight.submitted in
          let fourth = c.take.ensures.submitted in
          omega (arith, first, second, third, fourth);
      identity = taken.identity ∙ own.identity ∙ begun.identity ∙ all.identity;
    }
