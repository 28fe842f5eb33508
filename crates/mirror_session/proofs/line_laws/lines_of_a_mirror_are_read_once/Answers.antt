use Rattle.mirror_session.proofs.LinesLemmas.{mirror_line, mirror_line_once, mirror_lines}
use Rattle.mirror_session.proofs.line_laws.lines_of_a_mirror_are_read_once.Goals as goal

pub returns-clause-line : goal.returns-clause-line
returns-clause-line c = mirror_line

pub returns-clause-lines : goal.returns-clause-lines
returns-clause-lines c = mirror_lines

pub returns-clause-once : goal.returns-clause-once
returns-clause-once c = mirror_line_once
