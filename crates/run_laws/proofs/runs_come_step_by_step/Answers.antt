use Rattle.run_laws.proofs.ScriptRunLemmas.{came_further, came_into, came_to_end}
use Rattle.run_laws.proofs.runs_come_step_by_step.Goals as goal

pub returns-clause-end : goal.returns-clause-end
returns-clause-end c = came_to_end

pub returns-clause-further : goal.returns-clause-further
returns-clause-further c = came_further

pub returns-clause-into : goal.returns-clause-into
returns-clause-into c = came_into
