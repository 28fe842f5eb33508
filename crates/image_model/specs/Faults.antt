-- Which fault is told where several stand: the first.
use Rattle.std.specs.Prelude.{Bool, List, [], ◌∷◌, Result, Ok, Err, if◌then◌else◌}

-- The value where no test holds, and else the fault beside the first test that does.
abbrev pub ok_unless : {X F : Type 0} → List (Bool × F) → X → Result X F
ok_unless [] x = Ok x
ok_unless (fault ∷ later) x = if fault.0 then Err fault.1 else ok_unless later x
