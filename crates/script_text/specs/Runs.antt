-- The runs of a word, as stretches of bytes.
use Rattle.std.specs.Prelude.{◌≡◌, ◌≢◌, ℕ, ◌==◌, ◌≤◌, ◌<◌, List, [], ◌∷◌, map, take, drop, slice_index, Ok, Err, All}
use Rattle.std.specs.List.{slice_split}
use Rattle.std.specs.Str.Parse.{digits_value}
use Rattle.hex.specs.Hex.{decode_of}
use Rattle.device_model.specs.Grammar.{IsNumber}
use Rattle.device_model.specs.Stretches.{Stretch, stretch_text}
use Rattle.script_text.specs.declared.runs.Run.{Run}

-- The byte that two hexadecimal digits are.
abbrev pub byte_in : List ℕ → ℕ
byte_in digits = elim (decode_of digits) [ Ok bytes ↦ slice_index bytes 0 | Err e ↦ 0 ]

-- The stretch of which some bytes are the text.
abbrev pub stretch_in : List ℕ → Stretch
stretch_in text = record { byte = byte_in (take 2 text); count = digits_value 10 (drop 3 text) }

-- The stretches of a word, joined by commas there. No bytes have none.
abbrev pub stretches_in : List ℕ → List Stretch
stretches_in [] = []
stretches_in (byte ∷ bytes) = map stretch_in (slice_split (λ b. b == 44) (byte ∷ bytes))

-- A stretch of at least one byte, which a script can write down.
abbrev pub IsStretch : Stretch → Type 0
IsStretch stretch = (stretch.byte < 256) × (1 ≤ stretch.count) × IsNumber stretch.count

-- The bytes are the text of a stretch.
pub record IsRunText (text : List ℕ) : Type 0 where
  pub ok : IsStretch (stretch_in text)
  pub is : text ≡ stretch_text (stretch_in text)

-- What stands between the commas of a word.
abbrev pub parts_in : List ℕ → List (List ℕ)
parts_in word = slice_split (λ byte. byte == 44) word

-- The word is runs, joined by commas, or has no bytes.
pub record AreRuns (word : List ℕ) : Type 0 where
  pub each : word ≢ [] → All IsRunText (parts_in word)

abbrev pub stretch_of : Run → Stretch
stretch_of run = record { byte = run.byte; count = run.count }
