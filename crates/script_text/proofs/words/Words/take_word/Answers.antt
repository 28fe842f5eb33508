use Rattle.std.proofs.Common.{◌≡◌, ℕ, ◌-◌, ◌<◌, List, ◌∷◌, length, take, drop, sym, ◌∙◌, ap, arith}
use Rattle.device_model.specs.Grammar.{words_in}
use Rattle.std.proofs.lemmas.List.{take_rest}
use Rattle.std.proofs.lemmas.Bool.Decides.{nat_tests}
use Rattle.script_text.proofs.WordsLemmas.{no_word, first_word}
use Rattle.script_text.proofs.words.Words.take_word.Goals as goal

pub returns-then-is_empty-clause-none : goal.returns-then-is_empty-clause-none
returns-then-is_empty-clause-none c =
    let bytes = c.args.self.now.rest.now in
    let start = c.count_spaces.result in
    let none : length (take (length bytes - start) (drop start bytes)) ≡ 0 = grind (arith, nat_tests) in
    no_word bytes start c.count_spaces.ensures.count (rw take_rest at none)

pub returns-clause-word : goal.returns-clause-word
returns-clause-word c =
    let bytes = c.args.self.now.rest.now in
    let start = c.count_spaces.result in
    let text = take (length bytes - start) (drop start bytes) in
    let some : 0 < length text = grind (arith, nat_tests) in
    let end = c.end_of_word-end.result in
    first_word bytes text start end c.count_spaces.ensures.count (take_rest bytes start) some c.end_of_word-end.ensures.end
    ∙ ap (λ (rest : List ℕ). take end text ∷ words_in rest) (sym (take_rest text end))
