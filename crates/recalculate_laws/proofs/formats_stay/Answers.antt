use Rattle.recalculate_laws.proofs.FormatsLemmas.{own_format_law, moved_format_law, same_blocks_law, entry_blocks_law}
use Rattle.recalculate_laws.proofs.formats_stay.Goals as goal

pub returns-clause-own : goal.returns-clause-own
returns-clause-own c = own_format_law

pub returns-clause-moved : goal.returns-clause-moved
returns-clause-moved c = moved_format_law

pub returns-clause-same : goal.returns-clause-same
returns-clause-same c = same_blocks_law

pub returns-clause-entry : goal.returns-clause-entry
returns-clause-entry c = entry_blocks_law
