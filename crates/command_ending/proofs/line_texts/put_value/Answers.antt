use Rattle.std.proofs.Common.{◌∙◌}
use Rattle.std.specs.Fmt.{decimal}
use Rattle.command_ending.proofs.TextLemmas.{same_put, value_line}
use Rattle.command_ending.proofs.line_texts.put_value.Goals as goal

pub returns-clause-line : goal.returns-clause-line
returns-clause-line g c =
    same_put
    (value_line c.args.number.now c.args.name.now (decimal c.args.value) c.as_bytes-value.result.now
    (c.as_bytes-value.ensures.value ∙ c.format.ensures.text))
    c.put_pieces.ensures.line
