-- That a script has a run, and one alone.
use Rattle.std.proofs.Common.{◌≡◌, ℕ, false, List, [], ◌∷◌, refl, sym, ◌∙◌, ap}
use Rattle.std.specs.List.{AllZip}
use Rattle.device_model.specs.Grammar.{ReadLine, IsReadAs}
use Rattle.device_model.specs.ScriptBytes.{lines_of, is_too_long}
use Rattle.device_model.proofs.UniqueReading.{read_once}
use Rattle.script_text.proofs.TotalLemmas.{has_readings}
use Rattle.run_model.specs.ScriptRun.{run_from}
use Rattle.run_laws.specs.ReadingLaws.{HasRunLaw, OneRunLaw}

read_all_once : (lines : List (List ℕ)) (ones others : List ReadLine) → AllZip IsReadAs lines ones
    → AllZip IsReadAs lines others → ones ≡ others
read_all_once [] [] [] each each' = refl
read_all_once [] [] (other ∷ others) each each' = absurd each'
read_all_once [] (one ∷ ones) others each each' = absurd each
read_all_once (line ∷ lines) [] others each each' = absurd each
read_all_once (line ∷ lines) (one ∷ ones) [] each each' = absurd each'
read_all_once (line ∷ lines) (one ∷ ones) (other ∷ others) each each' =
    let first = read_once line one other each.0 each'.0 in
    let rest = read_all_once lines ones others each.1 each'.1 in
    cc

-- ---- for callers

pub has_run : HasRunLaw
has_run f s script =
    let lines = has_readings (lines_of script) in
    (run_from f (is_too_long script) 1 s false lines.0, record { lines = lines.0; read = lines.1; is = refl })

pub one_run : OneRunLaw
one_run f s script one other is is' =
    is.is
    ∙ ap (run_from f (is_too_long script) 1 s false)
    (read_all_once (lines_of script) is.lines is'.lines is.read is'.read)
    ∙ sym is'.is
