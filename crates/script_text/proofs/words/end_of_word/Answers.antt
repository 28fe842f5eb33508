use Rattle.std.proofs.Common.{sym, ◌∙◌}
use Rattle.script_text.proofs.WordsLemmas.{first_place}
use Rattle.script_text.proofs.words.end_of_word.Goals as goal

pub returns-clause-end : goal.returns-clause-end
returns-clause-end c = c.unwrap_or.ensures ∙ sym (first_place 32 c.args.text.now c.memchr.result c.memchr.ensures)
