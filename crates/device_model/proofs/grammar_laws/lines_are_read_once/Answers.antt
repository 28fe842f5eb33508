use Rattle.device_model.proofs.UniqueReading.{read_once}
use Rattle.device_model.proofs.grammar_laws.lines_are_read_once.Goals as goal

pub returns : goal.returns
returns c = read_once
