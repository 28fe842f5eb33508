use Rattle.command_words.proofs.PlainLemmas.{plain_law}
use Rattle.command_words.proofs.plain_law.plain_words_are_their_command.Goals as goal

pub returns : goal.returns
returns c = plain_law
