-- What a file that is read or written in order tells, and what is held back of what goes to it.
-- Own: bytes that go to a file are held back until their line is whole.
use Rattle.std.specs.Prelude.{◌≡◌, ℕ, List, drop, Option, None, Some}
use Rattle.std.specs.Option.{ForSome}

-- Both tell the same, where the first tells its bytes.
pub record TellsSame (first second : Option (List ℕ)) : Type 0 where
  pub is : ForSome first (λ bytes. second ≡ first)

-- What has a name: the bytes of the file that is open, or what is there where none is.
abbrev pub named_as : {F : Type 0} → (F → Option (List ℕ)) → Option (List ℕ) → Option F → Option (List ℕ)
named_as left else None = else
named_as left else (Some file) = left file

-- The most bytes of a line that are held back.
abbrev pub most_held : ℕ
most_held = 32768

-- What is held back is the rest of what was: none but its last bytes.
pub record IsRestOf (old new : List ℕ) : Type 0 where
  pub count : ℕ
  pub is : new ≡ drop count old
