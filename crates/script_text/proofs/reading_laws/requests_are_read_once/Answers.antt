use Rattle.script_text.proofs.AskLineLemmas.{ask_read_once, has_ask_reading}
use Rattle.script_text.proofs.reading_laws.requests_are_read_once.Goals as goal

pub returns-clause-total : goal.returns-clause-total
returns-clause-total c = has_ask_reading

pub returns-clause-once : goal.returns-clause-once
returns-clause-once c = ask_read_once
