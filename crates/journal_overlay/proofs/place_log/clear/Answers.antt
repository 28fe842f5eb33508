use Rattle.std.proofs.Common.{[], length, refl, ap, arith}
use Rattle.journal_overlay.proofs.IndexLemmas.{IsIndex-free, IsIndex-same, TellsLatest-free, TellsLatest-same}
use Rattle.journal_overlay.proofs.place_log.clear.Goals as goal

pub returns-clause-whole : goal.returns-clause-whole
returns-clause-whole c =
    let log = c.args.log.now in let index = c.requires.is_log.index in
    record {
      is_log = record {
        few = omega (arith, ap length c.clear.ensures.items);
        reserved = omega (arith, c.clear.ensures.capacity, c.requires.is_log.reserved);
        small = c.requires.is_log.small;
        counted = rw c.clear.ensures.items refl;
        index = IsIndex-same log.room log.blocks.homes _ _ _ log.sections.homes _ _ _ [] _ c.clear-2.ensures.homes c.clear-2.ensures.slots c.clear-3.ensures.homes c.clear-3.ensures.slots c.clear.ensures.items
            (IsIndex-free log.room log.blocks.homes (length log.blocks.slots.items) log.sections.homes (length log.sections.slots.items)
            index.block_table.some index.block_table.room index.section_table.some index.section_table.room);
      };
      latest = TellsLatest-same log.sections.homes _ _ _ [] _ c.clear-3.ensures.homes c.clear-3.ensures.slots c.clear.ensures.items (TellsLatest-free log.sections.homes (length log.sections.slots.items));
    }
