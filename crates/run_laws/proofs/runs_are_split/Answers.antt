use Rattle.run_laws.proofs.ScriptRunLemmas.{run_is_split, run_is_whole}
use Rattle.run_laws.proofs.runs_are_split.Goals as goal

pub returns-clause-split : goal.returns-clause-split
returns-clause-split c = run_is_split

pub returns-clause-whole : goal.returns-clause-whole
returns-clause-whole c = run_is_whole
