use Rattle.std.proofs.Common.{ℕ, ◌+◌, ◌==◌, Some, None, take, drop, sym, ◌∙◌, ap, arith}
use Rattle.std.specs.List.{position_or_len}
use Rattle.std.proofs.Math.ListN.{drop_of_length-le}
use Rattle.std.proofs.lemmas.List.{take_rest, take_all}
use Rattle.script_text.proofs.WordsLemmas.{first_place}
use Rattle.script_text.proofs.runs.first_part.Goals as goal

pub returns-in-Some-clause-part : goal.returns-in-Some-clause-part
returns-in-Some-clause-part c =
    let word = c.args.word.now in
    ap (λ (n : ℕ). take n word) (sym (first_place 44 word (Some c.in-Some.end) c.in-Some.ensures))

pub returns-in-Some-clause-rest : goal.returns-in-Some-clause-rest
returns-in-Some-clause-rest c =
    let word = c.args.word.now in
    take_rest word (c.in-Some.end + 1) ∙ ap (λ (n : ℕ). drop (n + 1) word) (sym (first_place 44 word (Some c.in-Some.end) c.in-Some.ensures))

pub returns-in-None-clause-part : goal.returns-in-None-clause-part
returns-in-None-clause-part c =
    let word = c.args.word.now in
    let place = first_place 44 word None c.in-None.ensures in
    sym (take_all (position_or_len (λ b. b == 44) word) word (omega (arith, place)))

pub returns-in-None-clause-rest : goal.returns-in-None-clause-rest
returns-in-None-clause-rest c =
    let word = c.args.word.now in
    let place = first_place 44 word None c.in-None.ensures in
    sym (drop_of_length-le word (omega (arith, place)))
