use Rattle.std.proofs.Common.{◌∙◌}
use Rattle.std.specs.Fmt.{decimal}
use Rattle.command_ending.proofs.TextLemmas.{same_put, number_line}
use Rattle.command_ending.proofs.image_texts.put_number.Goals as goal

pub returns-clause-line : goal.returns-clause-line
returns-clause-line g c =
    same_put
    (number_line c.args.name.now c.as_bytes.result.now (decimal c.args.number)
    (c.as_bytes.ensures.value ∙ c.format.ensures.text))
    c.put_pieces.ensures.line
