use Rattle.std.proofs.Common.{ℕ, ◌==◌, List, ◌∷◌, sym, ◌∙◌, ap, subst}
use Rattle.std.specs.List.{before_first}
use Rattle.device_model.specs.Stretches.{Stretch}
use Rattle.script_text.specs.Runs.{AreRuns, stretch_in, stretch_of, stretches_in}
use Rattle.script_text.proofs.RunLemmas.{stretch_in-stretch_text}
use Rattle.script_text.proofs.RunsLemmas.{rest_is_runs, first_stretch, some_word, no_stretches}
use Rattle.script_text.proofs.runs.Runs.take_run.Goals as goal

pub returns-in_err-run-clause-none : goal.returns-in_err-run-clause-none
returns-in_err-run-clause-none c =
    rw c.from_residual.ensures (no_stretches c.args.self.now.word.now c.first_part.result.0.now c.args.self.now.runs c.first_part.ensures.part c.in_err-run.ensures.none)

pub invariant_of-self : goal.invariant_of-self
invariant_of-self c =
    let word = c.args.self.now.word.now in
    let text = sym c.first_part.ensures.part ∙ c.in_ok-run.ensures.some in
    let some = some_word word (stretch_of c.in_ok-run.run') c.in_ok-run.ensures.positive text in
    record { runs = subst AreRuns (sym c.first_part.ensures.rest) (rest_is_runs word some c.args.self.now.runs) }

pub returns-clause-some : goal.returns-clause-some
returns-clause-some c =
    let word = c.args.self.now.word.now in
    let stretch = stretch_of c.in_ok-run.run' in
    let text = sym c.first_part.ensures.part ∙ c.in_ok-run.ensures.some in
    let some = some_word word stretch c.in_ok-run.ensures.positive text in
    let read = ap stretch_in text ∙ stretch_in-stretch_text stretch c.in_ok-run.ensures.positive in
    first_stretch word some c.args.self.now.runs
    ∙ ap (λ (rest : List ℕ). stretch_in (before_first (λ byte. byte == 44) word) ∷ stretches_in rest) (sym c.first_part.ensures.rest)
    ∙ ap (λ (first : Stretch). first ∷ stretches_in c.first_part.result.1.now) read
