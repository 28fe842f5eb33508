use Rattle.command_ending.proofs.TextLemmas.{same_put, text_line}
use Rattle.command_ending.proofs.image_texts.put_text.Goals as goal

pub returns-clause-line : goal.returns-clause-line
returns-clause-line g c =
    same_put (text_line c.args.text.now)
    c.put_pieces.ensures.line
