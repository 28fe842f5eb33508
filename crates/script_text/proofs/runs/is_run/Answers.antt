use Rattle.std.proofs.Common.{◌≡◌, ◌≢◌, List, ℕ, Option, Some, None, ◌↔◌, refl}
use Rattle.std.specs.Prelude.{IfSome, IfNone, IsTrue, is_some}
use Rattle.device_model.specs.Stretches.{Stretch, stretch_text}
use Rattle.script_text.specs.declared.runs.Run.{Run}
use Rattle.script_text.specs.Runs.{IsStretch, IsRunText, stretch_of, stretch_in}
use Rattle.script_text.proofs.RunLemmas.{IsRunText-from}
use Rattle.script_text.proofs.runs.is_run.Goals as goal

found_run : (found : Option Run) (text : List ℕ) → IfSome found (λ run. text ≡ stretch_text (stretch_of run)) → IfSome found (λ run. IsStretch (stretch_of run))
    → IfNone found ((stretch : Stretch) → IsStretch stretch → text ≢ stretch_text stretch) → (IsTrue (is_some found)) ↔ (IsRunText text)
found_run (Some run) text is ok none = ((λ some. IsRunText-from text (stretch_of run) ok is), (λ run_text. refl))
found_run None text is ok none = ((λ some. absurd (cc)), (λ run_text. absurd (none (stretch_in text) run_text.ok run_text.is)))

pub returns : goal.returns
returns c = let found = found_run c.read_run.result c.args.text.now c.read_run.ensures.some c.read_run.ensures.positive c.read_run.ensures.none in rw c.is_some.ensures found
