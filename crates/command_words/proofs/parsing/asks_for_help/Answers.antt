use Rattle.std.proofs.Common.{◌∙◌, sym}
use Rattle.std.specs.String.{string_bytes}
use Rattle.command_words.proofs.HelpLemmas.{asks_by_first, asks_by_question}
use Rattle.command_words.proofs.parsing.asks_for_help.Goals as goal

pub returns-then-has_question : goal.returns-then-has_question
returns-then-has_question c =
    c.if-has_question.true
    ∙ sym (asks_by_question string_bytes c.in-Some._program.now c.args.words.now c.in-Some.words.now c.in-Some.ensures.cases.0 (sym c.has_question.ensures ∙ c.if-has_question.true))

pub returns-else-has_question : goal.returns-else-has_question
returns-else-has_question c =
    c.begins_with_help.ensures
    ∙ sym (asks_by_first string_bytes c.in-Some._program.now c.args.words.now c.in-Some.words.now c.in-Some.ensures.cases.0 (sym c.has_question.ensures ∙ c.if-has_question.false))
