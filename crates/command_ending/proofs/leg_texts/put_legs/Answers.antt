use Rattle.std.proofs.Common.{◌∙◌}
use Rattle.std.specs.Fmt.{decimal}
use Rattle.command_ending.proofs.TextLemmas.{same_put, legs_line}
use Rattle.command_ending.proofs.leg_texts.put_legs.Goals as goal

pub returns-clause-line : goal.returns-clause-line
returns-clause-line g c =
    same_put
    (legs_line (decimal c.args.a_blocks) (decimal c.args.a_size) (decimal c.args.b_blocks) (decimal c.args.b_size)
    c.as_bytes-a_blocks.result.now c.as_bytes-a_size.result.now c.as_bytes-b_blocks.result.now c.as_bytes-b_size.result.now
    (c.as_bytes-a_blocks.ensures.value ∙ c.format.ensures.text)
    (c.as_bytes-a_size.ensures.value ∙ c.format-2.ensures.text)
    (c.as_bytes-b_blocks.ensures.value ∙ c.format-3.ensures.text)
    (c.as_bytes-b_size.ensures.value ∙ c.format-4.ensures.text))
    c.put_pieces.ensures.line
