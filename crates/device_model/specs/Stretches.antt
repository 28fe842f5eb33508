-- Bytes as stretches of one byte, and as text.
-- Own: as in a script, two hexadecimal digits and a number, joined by commas.
use Rattle.std.specs.Prelude.{ℕ, ◌+◌, ◌==◌, if◌then◌else◌, List, [], ◌∷◌, ◌++◌, map, codes}
use Rattle.std.specs.Fmt.{decimal}
use Rattle.std.specs.List.{join_with_byte}
use Rattle.hex.specs.Hex.{encode_lower}

-- A byte, and how often it comes.
pub record Stretch : Type 0 where
  pub byte : ℕ
  pub count : ℕ

-- The stretches with one byte before them.
abbrev pub with_byte : ℕ → List Stretch → List Stretch
with_byte x [] = record { byte = x; count = 1 } ∷ []
with_byte x (stretch ∷ stretches) =
    if x == stretch.byte then record stretch { count = stretch.count + 1 } ∷ stretches else record { byte = x; count = 1 } ∷ stretch ∷ stretches

-- The longest stretches of some bytes, in order.
abbrev pub stretches_of : List ℕ → List Stretch
stretches_of [] = []
stretches_of (x ∷ xs) = with_byte x (stretches_of xs)

abbrev pub stretch_text : Stretch → List ℕ
stretch_text stretch = encode_lower (stretch.byte ∷ []) ++ codes "*" ++ decimal stretch.count

-- Some bytes as text: their stretches, joined by commas.
unfoldable pub stretches_text : List ℕ → List ℕ
stretches_text bytes = join_with_byte 44 (map stretch_text (stretches_of bytes))
