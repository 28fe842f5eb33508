-- How much of a script is taken.
use Rattle.std.specs.Prelude.{◌≡◌, ℕ, ◌+◌, List, ◌++◌, length, Option}
use Rattle.std.specs.Option.{ForSome, IsSomeAnd}
use Rattle.script_reader.specs.Reading.{Reading, TakesLine}

-- How many bytes a reader has read of its source.
abbrev pub read_by : Reading → ℕ
read_by reader = reader.taken + length reader.unread

-- A source had so many bytes more before its reader had read on.
abbrev pub HasRead : (old new : Reading) → (left later : Option (List ℕ)) → Type 0
HasRead old new left later =
    ForSome left (λ bytes. IsSomeAnd later (λ more. length bytes + read_by old ≡ length more + read_by new))

-- What is taken for the next line, where the source tells what is left.
abbrev pub TakesNextLine : (old new : Reading) → (left later : Option (List ℕ)) → Type 0
TakesNextLine old new left later = ForSome left (λ bytes. IsSomeAnd later
    (λ more. TakesLine old new (old.unread ++ bytes) (new.unread ++ more)))
