use Rattle.std.proofs.Common.{[], ◌∷◌}
use Rattle.std.proofs.lemmas.Result.{err_from_is_err_and}
use Rattle.device_model.specs.Grammar.{NumberPlace, BytePlace, FuaPlace}
use Rattle.script_text.specs.Line.{fault_of}
use Rattle.script_text.proofs.FaultLemmas.{fault_behind_number, fault_behind_byte}
use Rattle.script_text.proofs.grammar.read_fill.Goals as goal

pub returns-in_err-first-clause-fault : goal.returns-in_err-first-clause-fault
returns-in_err-first-clause-fault c =
    let p = err_from_is_err_and c.from_residual.result c.from_residual.ensures.1 in
    rw (p.1, p.2) (c.in_err-first.ensures.fault (NumberPlace ∷ BytePlace ∷ FuaPlace ∷ []))

pub returns-in_err-count-clause-fault : goal.returns-in_err-count-clause-fault
returns-in_err-count-clause-fault c =
    let p = err_from_is_err_and c.from_residual-in_err-count.result c.from_residual-in_err-count.ensures.1 in
    let first = c.in_ok-first.ensures.number in
    rw (p.1, p.2) (fault_behind_number _ _ _ (NumberPlace ∷ BytePlace ∷ FuaPlace ∷ []) (fault_of c.in_err-count.field-0.0) first.0 first.1 (c.in_err-count.ensures.fault (BytePlace ∷ FuaPlace ∷ [])))

pub returns-in_err-byte-clause-fault : goal.returns-in_err-byte-clause-fault
returns-in_err-byte-clause-fault c =
    let p = err_from_is_err_and c.from_residual-in_err-byte.result c.from_residual-in_err-byte.ensures.1 in
    let first = c.in_ok-first.ensures.number in
    let count = c.in_ok-count.ensures.number in
    rw (p.1, p.2) (fault_behind_number _ _ _ (NumberPlace ∷ BytePlace ∷ FuaPlace ∷ []) (fault_of c.in_err-byte.field-0.0) first.0 first.1 (fault_behind_number _ _ _ (BytePlace ∷ FuaPlace ∷ []) (fault_of c.in_err-byte.field-0.0) count.0 count.1 (c.in_err-byte.ensures.fault (FuaPlace ∷ []))))

pub returns-in_err-fua-clause-fault : goal.returns-in_err-fua-clause-fault
returns-in_err-fua-clause-fault c =
    let p = err_from_is_err_and c.from_residual-in_err-fua.result c.from_residual-in_err-fua.ensures.1 in
    let first = c.in_ok-first.ensures.number in
    let count = c.in_ok-count.ensures.number in
    let byte = c.in_ok-byte.ensures.byte in
    rw (p.1, p.2) (fault_behind_number _ _ _ (NumberPlace ∷ BytePlace ∷ FuaPlace ∷ []) (fault_of c.in_err-fua.field-0.0) first.0 first.1 (fault_behind_number _ _ _ (BytePlace ∷ FuaPlace ∷ []) (fault_of c.in_err-fua.field-0.0) count.0 count.1 (fault_behind_byte _ _ _ (FuaPlace ∷ []) (fault_of c.in_err-fua.field-0.0) byte.0 byte.1 c.in_err-fua.ensures.fault)))
