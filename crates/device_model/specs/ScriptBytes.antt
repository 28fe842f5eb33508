-- The lines of a script's bytes, within the bound of a script.
-- Own: a line ends at a newline or at the script's end.
use Rattle.std.specs.Prelude.{◌≢◌, ℕ, ◌+◌, ◌==◌, Bool, if◌then◌else◌, ltb, leb, List, [], ◌∷◌, ◌++◌, length, take}
use Rattle.std.specs.List.{All, slice_split}
use Rattle.device_model.specs.Grammar.{most_line}

-- A script has at most so many bytes.
abbrev pub most_script : ℕ
most_script = 16777216

-- Of a script one byte beyond its bound is taken at most.
abbrev pub most_taken : ℕ
most_taken = 16777217

-- At most so many bytes are read at a time.
abbrev pub most_piece : ℕ
most_piece = 65536

-- What stands between newlines. There is always one such part, which may be empty.
abbrev pub parts_of : List ℕ → List (List ℕ)
parts_of bytes = slice_split (λ byte. byte == 10) bytes

-- The parts that a newline ends: all but the last.
abbrev pub ended_parts : List (List ℕ) → List (List ℕ)
ended_parts [] = []
ended_parts (part ∷ []) = []
ended_parts (part ∷ next ∷ parts) = part ∷ ended_parts (next ∷ parts)

-- The part that no newline ends: the last.
abbrev pub open_part : List (List ℕ) → List ℕ
open_part [] = []
open_part (part ∷ []) = part
open_part (part ∷ next ∷ parts) = open_part (next ∷ parts)

-- The script is longer than it may be.
abbrev pub is_too_long : List ℕ → Bool
is_too_long script = ltb most_script (length script)

-- No byte of it is a newline.
abbrev pub HasNoNewline : List ℕ → Type 0
HasNoNewline bytes = All (λ byte. byte ≢ 10) bytes

-- How many newlines these bytes have.
abbrev pub newlines_in : List ℕ → ℕ
newlines_in [] = 0
newlines_in (byte ∷ bytes) = (if byte == 10 then 1 else 0) + newlines_in bytes

-- The bytes up to the bound.
abbrev pub within_bound : List ℕ → List ℕ
within_bound script = take most_script script

-- What no newline ends within the bound is a line too, where the script ends with it, or where it is longer than a line may be.
abbrev pub open_line : Bool → List ℕ → List (List ℕ)
open_line too_long bytes =
    if length bytes == 0 then []
    else if too_long then (if leb (length bytes) most_line then [] else bytes ∷ [])
    else bytes ∷ []

-- The lines of a script that are run, up to the first that cannot be.
abbrev pub lines_of : List ℕ → List (List ℕ)
lines_of script =
    let parts = parts_of (within_bound script) in
    ended_parts parts ++ open_line (is_too_long script) (open_part parts)
