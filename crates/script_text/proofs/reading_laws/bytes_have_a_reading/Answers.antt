use Rattle.script_text.proofs.TotalLemmas.{has_reading, has_readings}
use Rattle.script_text.proofs.reading_laws.bytes_have_a_reading.Goals as goal

pub returns-clause-total : goal.returns-clause-total
returns-clause-total c = has_reading

pub returns-clause-lines : goal.returns-clause-lines
returns-clause-lines c = has_readings
