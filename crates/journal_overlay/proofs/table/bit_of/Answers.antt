use Rattle.std.proofs.Common.{rules}
use Rattle.journal_overlay.specs.Slots.{bit_of}
use Rattle.journal_overlay.proofs.table.bit_of.Goals as goal

pub returns : goal.returns
unfolding bit_of
returns c = search rules
