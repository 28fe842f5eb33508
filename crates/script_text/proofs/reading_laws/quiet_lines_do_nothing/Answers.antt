use Rattle.script_text.proofs.QuietLemmas.{quiet_line}
use Rattle.script_text.proofs.reading_laws.quiet_lines_do_nothing.Goals as goal

pub returns : goal.returns
returns c = quiet_line
