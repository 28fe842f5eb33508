use Rattle.dump_model.specs.Lines.{superblock_lines, layout_lines, journal_lines}
use Rattle.dump_model.proofs.LinesLemmas.{three_parts}
use Rattle.image_dump.proofs.texts.dump_text.Goals as goal

pub returns : goal.returns
returns c = record {
  text =
      let dump = c.args.dump.now in
      three_parts c.in_ok-text.text.items c.put_superblock.new.text.items c.put_layout.new.text.items
      c.put_journal.new.text.items (superblock_lines dump.format.fields) (layout_lines dump.format.geometry)
      (journal_lines dump.journal) c.in_ok-text.ensures.items c.in_ok-put_superblock.ensures
      c.in_ok-put_layout.ensures c.in_ok-put_journal.ensures;
}
