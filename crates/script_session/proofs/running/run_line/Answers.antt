use Rattle.std.proofs.Common.{Err, refl, ◌∙◌, ap}
use Rattle.script_text.specs.Line.{line_of}
use Rattle.script_session.proofs.LineLemmas.{judged, line_begun, line_failed, line_half, line_told, line_untold}
use Rattle.script_session.proofs.running.run_line.Goals as goal

pub returns-in-Some-clause-ended : goal.returns-in-Some-clause-ended
returns-in-Some-clause-ended g c w is =
    judged w _ _ is c.args.tickets.now c.requires.tickets _ _ c.blocks-2.ensures c.block_size.ensures (line_of c.args.line.now) _ c.in-Some.ensures

pub returns-in-Err-Disk-clause-ended : goal.returns-in-Err-Disk-clause-ended
returns-in-Err-Disk-clause-ended g c w is =
    let runnable = judged w _ _ is c.args.tickets.now c.requires.tickets _ _ c.blocks-2.ensures c.block_size.ensures (line_of c.args.line.now) _ c.in_default.ensures in
    line_failed w _ runnable _ _ _ _ _ (c.answer_of.ensures.disk (c.in-Err-Disk.is ∙ ap Err c.in-Err-Disk.field-0-is) w is) refl

pub returns-in-Err-Memory-clause-ended : goal.returns-in-Err-Memory-clause-ended
returns-in-Err-Memory-clause-ended g c w is =
    let runnable = judged w _ _ is c.args.tickets.now c.requires.tickets _ _ c.blocks-2.ensures c.block_size.ensures (line_of c.args.line.now) _ c.in_default.ensures in
    line_begun w _ runnable _ _ _ _ _ (c.answer_of.ensures.memory (c.in-Err-Memory.is ∙ ap Err c.in-Err-Memory.field-0-is) w is) refl

pub returns-in-Ok-tell-clause-ran : goal.returns-in-Ok-tell-clause-ran
returns-in-Ok-tell-clause-ran g c w is =
    let runnable = judged w _ _ is c.args.tickets.now c.requires.tickets _ _ c.blocks-2.ensures c.block_size.ensures (line_of c.args.line.now) _ c.in_default.ensures in
    line_told w _ runnable _ _ _ _ c.in-Ok.answer _ (c.in-Ok.ensures.answered w is) c.tags_found.result c.tags_found.ensures c.in-Ok-tell.ensures.told

pub returns-in-Err-Memory-tell-clause-ended : goal.returns-in-Err-Memory-tell-clause-ended
returns-in-Err-Memory-tell-clause-ended g c w is =
    let runnable = judged w _ _ is c.args.tickets.now c.requires.tickets _ _ c.blocks-2.ensures c.block_size.ensures (line_of c.args.line.now) _ c.in_default.ensures in
    line_untold w _ runnable _ _ _ _ c.in-Ok.answer _ (c.in-Ok.ensures.answered w is) (c.tell.ensures.memory (c.in-Err-Memory-tell.is ∙ ap Err c.in-Err-Memory-tell.field-0-is))

pub returns-clause-ended : goal.returns-clause-ended
returns-clause-ended g c w is =
    let runnable = judged w _ _ is c.args.tickets.now c.requires.tickets _ _ c.blocks-2.ensures c.block_size.ensures (line_of c.args.line.now) _ c.in_default.ensures in
    line_half w _ runnable _ _ _ _ c.in-Ok.answer _ (c.in-Ok.ensures.answered w is) (c.tell.ensures.sink (c.in-Err-Sink.is ∙ ap Err c.in-Err-Sink.field-0-is))
