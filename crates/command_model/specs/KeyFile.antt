-- The bytes of a key file, and how many of them are read.
use Rattle.std.specs.Prelude.{◌≡◌, ℕ, List, Option, Some, None}

-- The key file has these bytes, where there is one.
abbrev pub HasFile : Option (List ℕ) → (named : List ℕ → Option (List ℕ)) → List ℕ → Type 0
HasFile None named bytes = Unit {0}
HasFile (Some file) named bytes = named file ≡ Some bytes

-- So many bytes of a key file are read at most.
abbrev pub most_read : ℕ
most_read = 4097
