use Rattle.std.proofs.Common.{◌∙◌}
use Rattle.std.specs.Fmt.{decimal}
use Rattle.command_ending.proofs.TextLemmas.{same_put, numbers_line}
use Rattle.command_ending.proofs.image_texts.put_numbers.Goals as goal

pub returns-clause-line : goal.returns-clause-line
returns-clause-line g c =
    same_put
    (numbers_line c.args.name.now (decimal c.args.one) (decimal c.args.other)
    c.as_bytes-one.result.now c.as_bytes-other.result.now
    (c.as_bytes-one.ensures.value ∙ c.format.ensures.text)
    (c.as_bytes-other.ensures.value ∙ c.format-2.ensures.text))
    c.put_pieces.ensures.line
