use Rattle.std.proofs.Common.{[]}
use Rattle.journal_section.specs.Fields.{HasFields}
use Rattle.journal_section.proofs.entries.put_fields.Given as goal

-- The last bytes of the block's sectors so far stand behind the sector's number, and zeros behind them.
abbrev pub invariant-loop-k : goal.invariant-loop-k
invariant-loop-k l = HasFields l.k l.sector l.block [] l.place
