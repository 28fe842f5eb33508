use Rattle.command_ending.proofs.TextLemmas.{same_put, flags_line}
use Rattle.command_ending.proofs.image_texts.put_flags.Goals as goal

pub returns-clause-line : goal.returns-clause-line
returns-clause-line g c =
    same_put
    (flags_line c.args.name.now c.hexadecimal.result.now c.args.flags c.hexadecimal.ensures)
    c.put_pieces.ensures.line
