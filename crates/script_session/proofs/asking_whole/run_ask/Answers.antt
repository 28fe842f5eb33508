use Rattle.std.proofs.Common.{sym, refl, subst, false, Option}
use Rattle.device_model.specs.Script.{AskLine, line_outcome}
use Rattle.request_slots.specs.declared.reply.Reply.{Reply}
use Rattle.script_text.specs.Line.{ask_of}
use Rattle.script_session.specs.Told.{IsReplied}
use Rattle.script_session.proofs.LineLemmas.{judged}
use Rattle.script_session.proofs.asking_whole.run_ask.Goals as goal

pub returns-in-Ok-clause-ran : goal.returns-in-Ok-clause-ran
returns-in-Ok-clause-ran g c w is =
    let answered = c.in-Ok.ensures.answered w is in
    let line = AskLine false (ask_of c.args.ask.now) in
    record {
      runnable = judged w _ _ is c.args.tickets.now c.requires.tickets _ _ refl refl line _ (sym c.requires.runnable);
      run = answered.run;
      reply_ = subst (λ (o : Option Reply). IsReplied o (line_outcome w.format w.state line).answer)
          (sym c.reply_of.ensures) answered.reply;
    }
