use Rattle.journal_laws.proofs.RegionLemmas.{regions_begin, regions_written, regions_flushed, regions_recalculated, recalculate_law, clean_law, awaiting_law}
use Rattle.journal_laws.proofs.regions_are_counted.Goals as goal

pub returns-clause-begin : goal.returns-clause-begin
returns-clause-begin c = regions_begin

pub returns-clause-written : goal.returns-clause-written
returns-clause-written c = regions_written

pub returns-clause-flushed : goal.returns-clause-flushed
returns-clause-flushed c = regions_flushed

pub returns-clause-recalculated : goal.returns-clause-recalculated
returns-clause-recalculated c = regions_recalculated

pub returns-clause-recalculate : goal.returns-clause-recalculate
returns-clause-recalculate c = recalculate_law

pub returns-clause-clean : goal.returns-clause-clean
returns-clause-clean c = clean_law

pub returns-clause-awaiting : goal.returns-clause-awaiting
returns-clause-awaiting c = awaiting_law
