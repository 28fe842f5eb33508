use Rattle.std.proofs.Common.{◌∙◌}
use Rattle.command_ending.proofs.TextLemmas.{same_put}
use Rattle.command_image.proofs.MakingLemmas.{formatted_line}
use Rattle.command_image.proofs.making.put_provided.Goals as goal

pub returns-clause-line : goal.returns-clause-line
returns-clause-line g c =
    same_put (formatted_line c.as_bytes-digits.result.now c.args.provided (c.as_bytes-digits.ensures.value ∙ c.format.ensures.text))
    c.put_pieces.ensures.line
