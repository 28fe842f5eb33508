-- What the lines of a mirror's script are, by what is read of their bytes.
use Rattle.std.specs.Prelude.{◌≡◌, ℕ, List, None, Some, Ok, Err}
use Rattle.std.specs.List.{AllZip}
use Rattle.mirror_model.specs.Script.{AsksFor, IsMirrorLine, MirrorLine, RefusedWords, Skips}
use Rattle.script_text.specs.AskLine.{AskReading, IsAskReading}

-- The line that was read so.
abbrev pub mirror_line_of : AskReading → MirrorLine
mirror_line_of (Ok None) = Skips
mirror_line_of (Ok (Some ask)) = AsksFor ask
mirror_line_of (Err fault) = RefusedWords fault

-- What is read of some bytes is their line;
abbrev pub LineLaw : Type 0
LineLaw = (bytes : List ℕ) (read : AskReading) → IsAskReading bytes read
    → IsMirrorLine bytes (mirror_line_of read)

-- the lines of a script are read, whichever they are,
abbrev pub LinesLaw : Type 0
LinesLaw = (script : List (List ℕ)) → (lines : List MirrorLine) × AllZip IsMirrorLine script lines

-- and each is one line alone.
abbrev pub OneLineLaw : Type 0
OneLineLaw = (bytes : List ℕ) (one other : MirrorLine) → IsMirrorLine bytes one → IsMirrorLine bytes other
    → one ≡ other
