-- How much of a script's source is taken.
use Rattle.std.proofs.Common.{◌≡◌, ℕ, ◌+◌, ◌≤◌, List, [], ◌++◌, length, length-append, sym, ◌∙◌, ap, refl, subst, arith}
use Rattle.std.proofs.Common.{Option, Some, None}
use Rattle.std.specs.Option.{ForSome, IsSomeAnd}
use Rattle.script_reader.specs.Reading.{Reading, TakesLine}
use Rattle.script_lines.specs.Taken.{HasRead, read_by}
use Rattle.device_model.specs.ScriptBytes.{most_taken}

-- What follows, of a value that is there.
pub and_weaker : {X : Type 0} (P Q : X → Type 0) (o : Option X) → ((x : X) → P x → Q x) → IsSomeAnd o P
    → IsSomeAnd o Q
and_weaker P Q None f is = is
and_weaker P Q (Some x) f is = f x is

-- A reader that has taken some bytes has read as many of its source.
pub taken_is_read : (old new : Reading) (left later : Option (List ℕ))
    → ForSome left (λ bytes. IsSomeAnd later (λ more. TakesLine old new (old.unread ++ bytes) (new.unread ++ more)))
    → HasRead old new left later
taken_is_read old new left None takes bytes told = absurd (takes bytes told)
taken_is_read old new left (Some more) takes bytes told =
    let t = takes bytes told in
    omega (
      arith,
      t.counted,
      ap length t.bytes,
      length-append old.unread bytes,
      length-append new.line (t.ending ++ (new.unread ++ more)),
      length-append t.ending (new.unread ++ more),
      length-append new.unread more,
    )

-- ---- for callers

-- A reader that has read nothing,
pub read_at_start : (left : List ℕ) (reader : Reading) (source : Option (List ℕ)) → source ≡ Some left
    → reader ≡ record { unread = []; line = []; taken = 0 }
    → IsSomeAnd source (λ more. length left ≡ length more + read_by reader)
read_at_start left reader source told fresh =
    subst (λ (o : Option (List ℕ)). IsSomeAnd o (λ more. length left ≡ length more + read_by reader)) (sym told)
    (subst (λ (r : Reading). length left ≡ length left + read_by r) (sym fresh) (omega arith))

-- one that has read on,
pub read_on : (left : List ℕ) (old new : Reading) (mid last : Option (List ℕ))
    → IsSomeAnd mid (λ more. length left ≡ length more + read_by old) → HasRead old new mid last
    → IsSomeAnd last (λ more. length left ≡ length more + read_by new)
read_on left old new None last before read = absurd before
read_on left old new (Some bytes) None before read = absurd (read bytes refl)
read_on left old new (Some bytes) (Some more) before read = before ∙ read bytes refl

-- and one that has read within its bound.
pub read_within : (left : List ℕ) (reader : Reading) (last : Option (List ℕ)) → read_by reader ≤ most_taken
    → IsSomeAnd last (λ more. length left ≡ length more + read_by reader)
    → IsSomeAnd last (λ more. length left ≤ length more + most_taken)
read_within left reader None within read = absurd read
read_within left reader (Some more) within read = omega (arith, within, read)
