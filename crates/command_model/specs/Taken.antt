-- How much of a source is taken, and what a sink holds meanwhile.
use Rattle.std.specs.Prelude.{◌≡◌, ℕ, ◌+◌, ◌≤◌, List, ◌++◌, length, Option}
use Rattle.std.specs.Option.{ForSome, IsSomeAnd}
use Rattle.stream_io.specs.Stream.{held_with}

-- At most so many bytes were taken of a source.
abbrev pub HasTaken : (most : ℕ) → (left later : Option (List ℕ)) → Type 0
HasTaken most left later = ForSome left (λ bytes. IsSomeAnd later (λ more. length bytes ≤ length more + most))

-- The sink holds this text behind what it held, and maybe more.
pub record HoldsText (text : List ℕ) (held_before held : Option (List ℕ)) : Type 0 where
  pub more : List ℕ
  pub is : held ≡ held_with (text ++ more) held_before
