use Rattle.std.proofs.Common.{◌≡◌, ℕ, List, ◌∷◌, Option, Some, None, sym, ◌∙◌, ap, subst}
use Rattle.std.specs.Prelude.{IfSome, IfOk}
use Rattle.std.specs.Option.{ok_or}
use Rattle.device_model.specs.Grammar.{AreStretches, stretches_word, words_in}
use Rattle.script_text.specs.declared.line.LineFault.{LineFault}
use Rattle.script_text.specs.declared.runs.Runs.{Runs}
use Rattle.script_text.specs.Runs.{stretches_in}
use Rattle.script_text.proofs.places.take_runs.Goals as goal

runs_taken : (found : Option Runs) (fault : LineFault) (word : List ℕ) (before later : List (List ℕ))
    → IfSome found (λ runs. (runs.word.now ≡ word) × AreStretches (stretches_in word) × (word ≡ stretches_word (stretches_in word))) → before ≡ word ∷ later
    → IfOk (ok_or found fault) (λ runs. AreStretches (stretches_in runs.word.now) × (before ≡ stretches_word (stretches_in runs.word.now) ∷ later))
runs_taken (Some runs) fault word before later (same, are, shows) is =
    let told : (AreStretches (stretches_in word)) × (before ≡ stretches_word (stretches_in word) ∷ later) = (are, is ∙ ap (λ (w : List ℕ). w ∷ later) shows) in
    subst (λ (w : List ℕ). (AreStretches (stretches_in w)) × (before ≡ stretches_word (stretches_in w) ∷ later)) (sym same) told
runs_taken None fault word before later some is = tt

pub returns-clause-runs : goal.returns-clause-runs
returns-clause-runs c =
    rw c.ok_or.ensures.value
    (runs_taken c.read.result _ c.in-Some.word.now (words_in c.args.words.now.rest.now) (words_in c.take_word.new.self.rest.now) c.read.ensures.some c.in-Some.ensures.word)
