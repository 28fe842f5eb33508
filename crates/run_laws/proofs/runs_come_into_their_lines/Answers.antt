use Rattle.run_laws.proofs.ScriptRunLemmas.{came_into_line, came_to_nothing}
use Rattle.run_laws.proofs.runs_come_into_their_lines.Goals as goal

pub returns-clause-nothing : goal.returns-clause-nothing
returns-clause-nothing c = came_to_nothing

pub returns-clause-into : goal.returns-clause-into
returns-clause-into c = came_into_line
