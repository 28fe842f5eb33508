use Rattle.std.proofs.Common.{◌∙◌}
use Rattle.std.specs.Fmt.{decimal}
use Rattle.hex.specs.Hex.{encode_lower}
use Rattle.command_ending.proofs.TextLemmas.{same_put, tag_line}
use Rattle.command_ending.proofs.image_texts.put_entry_tag.Goals as goal

pub returns-clause-line : goal.returns-clause-line
returns-clause-line g c =
    same_put
    (tag_line (decimal c.args.section) (decimal c.args.entry) (encode_lower c.args.stored.now) (encode_lower c.args.computed.now)
    c.as_bytes-section.result.now c.as_bytes-entry.result.now c.tag_digits-stored.result.now c.tag_digits-computed.result.now
    (c.as_bytes-section.ensures.value ∙ c.format.ensures.text)
    (c.as_bytes-entry.ensures.value ∙ c.format-2.ensures.text)
    c.tag_digits-stored.ensures c.tag_digits-computed.ensures)
    c.put_pieces.ensures.line
