use Rattle.std.proofs.Common.{◌*◌, ◌/◌, ◌%◌, arith, rules}
use Rattle.journal_overlay.specs.Slots.{home_of}
use Rattle.journal_overlay.proofs.SlotsLemmas.{part-below}
use Rattle.journal_overlay.proofs.table.home_of.Goals as goal

pub returns-clause-home : goal.returns-clause-home
unfolding home_of
returns-clause-home c = search rules

pub returns-clause-below : goal.returns-clause-below
returns-clause-below c =
    part-below (c.args.key * 11400714819323198485 % 18446744073709551616 / 4294967296) c.args.homes (omega arith) c.requires
