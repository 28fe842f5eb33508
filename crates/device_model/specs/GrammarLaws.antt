-- Bytes are read in one way.
use Rattle.std.specs.Prelude.{◌≡◌, ℕ, List}
use Rattle.device_model.specs.Grammar.{ReadLine, IsReadAs}

-- Bytes are one line and no other, and have no fault then; or they have one fault and no other.
abbrev pub ReadingLaw : Type 0
ReadingLaw = (bytes : List ℕ) (one other : ReadLine) → IsReadAs bytes one → IsReadAs bytes other → one ≡ other
