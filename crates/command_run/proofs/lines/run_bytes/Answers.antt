use Rattle.std.proofs.Common.{◌∷◌, Err, ap}
use Rattle.run_model.specs.Ending.{NoMemory}
use Rattle.script_text.specs.Line.{line_of}
use Rattle.command_run.proofs.StoppingLemmas.{stopped_at_lines, stopped_by_line, stopped_by_words}
use Rattle.command_run.proofs.lines.run_bytes.Goals as goal

pub returns-in-Err-run_line-clause-stopped : goal.returns-in-Err-run_line-clause-stopped
returns-in-Err-run_line-clause-stopped g c w is too_long found read lines is_read =
    stopped_by_line w _ _ _ is (line_of c.in-Ok.line) _ _ _ _ too_long c.args.number found lines
    read (c.in-Ok.ensures.exact read is_read) c.in-Err-run_line.end _ c.ended_by.ensures
    (c.in-Err-run_line.ensures.ended w is)
    (λ fault refused.
    let kept = c.in-Err-run_line.ensures.refused fault (ap Err refused) in
    let untold = c.in-Err-run_line.ensures.untold fault (ap Err refused) in
    (ap g.D.Disk.moments kept.1, ap g.O.Sink.held untold.1))

pub returns-in-Ok-of-clause-stopped : goal.returns-in-Ok-of-clause-stopped
returns-in-Ok-of-clause-stopped g c w is too_long found read lines is_read =
    stopped_by_words w _ _ _ is _ too_long c.args.number found lines read _ _
    (c.in-Err.ensures.exact read is_read)
    c.in-Ok-of.ensures

pub returns-in-Err-of-clause-stopped : goal.returns-in-Err-of-clause-stopped
returns-in-Err-of-clause-stopped g c w is too_long found read lines is_read =
    stopped_at_lines w _ _ _ is NoMemory _ tt too_long c.args.number found (read ∷ lines)
