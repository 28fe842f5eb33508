-- How much of a script's source is taken.
use Rattle.std.proofs.Common.{◌≡◌, ℕ, ◌+◌, ◌<◌, ◌≤◌, List, [], ◌++◌, drop, length, length-append, length-drop, option_map, refl, sym, ◌∙◌, ap, subst, arith, Option, Some, None}
use Rattle.stream_io.specs.Stream.{TakesAtMost}
use Rattle.std.specs.Option.{ForSome, IsSomeAnd}
use Rattle.script_reader.specs.Reading.{Reading}
use Rattle.script_lines.specs.Taken.{read_by}
use Rattle.command_model.specs.Taken.{HasTaken}

-- Where a reader is behind a byte, that is taken.
pub taken_some : (left : List ℕ) (reader : Reading) (last : Option (List ℕ)) → 0 < reader.taken → IsSomeAnd last (λ more. length left ≡ length more + read_by reader)
    → IsSomeAnd last (λ more. length more < length left)
taken_some left reader None some read = absurd read
taken_some left reader (Some more) some read = omega (arith, some, read)

-- A source that is not called has given nothing.
pub none_taken : (most : ℕ) (left later : Option (List ℕ)) → later ≡ left → HasTaken most left later
none_taken most left later same bytes told =
    subst (λ (o : Option (List ℕ)). IsSomeAnd o (λ more. length bytes ≤ length more + most)) (sym (same ∙ told)) (omega arith)

-- So many were taken of a source that has given so many at most.
pub taken_at_most : (most : ℕ) (left later : Option (List ℕ)) → TakesAtMost most left later → HasTaken most left later
taken_at_most most left later took bytes told =
    let gone : later ≡ Some (drop took.count bytes) = took.rest ∙ ap (option_map (drop took.count)) told in
    subst (λ (o : Option (List ℕ)). IsSomeAnd o (λ more. length bytes ≤ length more + most)) (sym gone)
    (let size = length-drop took.count bytes in let within = took.within in omega (arith, size, within))
