use Rattle.std.proofs.Common.{refl, true≢false, sym, ◌∙◌}
use Rattle.script_text.proofs.RunLemmas.{runs_of_word, word_is_runs}
use Rattle.script_text.proofs.runs.Runs.read.Goals as goal

pub returns-then-not-are_runs-clause-none : goal.returns-then-not-are_runs-clause-none
returns-then-not-are_runs-clause-none c fits =
    true≢false (sym (c.are_runs.ensures.1 (word_is_runs c.args.word.now fits)) ∙ c.if-not-are_runs.true)

pub returns-clause-some : goal.returns-clause-some
returns-clause-some c =
    let runs = runs_of_word c.args.word.now (c.are_runs.ensures.0 c.if-not-are_runs.false) in
    (refl, runs.0, runs.1)
