use Rattle.journal_laws.proofs.JournaledLemmas.{is_journaled_law}
use Rattle.journal_laws.proofs.PromiseLemmas.{newest_place_law, journaled_read_law, placed_law}
use Rattle.journal_laws.proofs.read_is_newest.Goals as goal

pub returns-clause-place : goal.returns-clause-place
returns-clause-place c = newest_place_law

pub returns-clause-journaled : goal.returns-clause-journaled
returns-clause-journaled c = journaled_read_law

pub returns-clause-placed : goal.returns-clause-placed
returns-clause-placed c = placed_law

pub returns-clause-is_journaled : goal.returns-clause-is_journaled
returns-clause-is_journaled c = is_journaled_law
