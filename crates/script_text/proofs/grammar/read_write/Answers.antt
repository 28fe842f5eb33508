use Rattle.std.proofs.Common.{[], ◌∷◌}
use Rattle.std.proofs.lemmas.Result.{err_from_is_err_and}
use Rattle.device_model.specs.Grammar.{StretchesPlace, FuaPlace}
use Rattle.script_text.specs.Line.{fault_of}
use Rattle.script_text.proofs.FaultLemmas.{fault_behind_number, fault_behind_runs}
use Rattle.script_text.proofs.grammar.read_write.Goals as goal

pub returns-in_err-first-clause-fault : goal.returns-in_err-first-clause-fault
returns-in_err-first-clause-fault c =
    let p = err_from_is_err_and c.from_residual.result c.from_residual.ensures.1 in
    rw (p.1, p.2) (c.in_err-first.ensures.fault (StretchesPlace ∷ FuaPlace ∷ []))

pub returns-in_err-runs-clause-fault : goal.returns-in_err-runs-clause-fault
returns-in_err-runs-clause-fault c =
    let p = err_from_is_err_and c.from_residual-in_err-runs.result c.from_residual-in_err-runs.ensures.1 in
    let first = c.in_ok-first.ensures.number in
    rw (p.1, p.2) (fault_behind_number _ _ _ (StretchesPlace ∷ FuaPlace ∷ []) (fault_of c.in_err-runs.field-0.0) first.0 first.1 (c.in_err-runs.ensures.fault (FuaPlace ∷ [])))

pub returns-in_err-fua-clause-fault : goal.returns-in_err-fua-clause-fault
returns-in_err-fua-clause-fault c =
    let p = err_from_is_err_and c.from_residual-in_err-fua.result c.from_residual-in_err-fua.ensures.1 in
    let first = c.in_ok-first.ensures.number in
    let runs = c.in_ok-runs.ensures.runs in
    rw (p.1, p.2) (fault_behind_number _ _ _ (StretchesPlace ∷ FuaPlace ∷ []) (fault_of c.in_err-fua.field-0.0) first.0 first.1 (fault_behind_runs _ _ _ (FuaPlace ∷ []) (fault_of c.in_err-fua.field-0.0) runs.0 runs.1 c.in_err-fua.ensures.fault))
