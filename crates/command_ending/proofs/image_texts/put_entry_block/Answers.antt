use Rattle.std.proofs.Common.{◌∙◌}
use Rattle.std.specs.Fmt.{decimal}
use Rattle.command_ending.proofs.TextLemmas.{same_put, block_line}
use Rattle.command_ending.proofs.image_texts.put_entry_block.Goals as goal

pub returns-clause-line : goal.returns-clause-line
returns-clause-line g c =
    same_put
    (block_line (decimal c.args.section) (decimal c.args.entry) (decimal c.args.sector)
    c.as_bytes-section.result.now c.as_bytes-entry.result.now c.as_bytes-sector.result.now
    (c.as_bytes-section.ensures.value ∙ c.format.ensures.text)
    (c.as_bytes-entry.ensures.value ∙ c.format-2.ensures.text)
    (c.as_bytes-sector.ensures.value ∙ c.format-3.ensures.text))
    c.put_pieces.ensures.line
