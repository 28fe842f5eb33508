-- The lines of a mirror's script are read, and each in one way.
use Rattle.std.proofs.Common.{◌≡◌, ℕ, List, [], ◌∷◌, None, Some, Ok, Err, refl, sym, ◌∙◌, ap}
use Rattle.device_model.specs.LineFault.{WordsFault, TooLong, NotText, WrongWord, WrongNumber, WrongByte, WrongStretches, MissingWord, ExtraWord}
use Rattle.mirror_model.specs.Script.{AsksFor, IsMirrorFaultOf, IsMirrorLine, MirrorLine, RefusedWords, Skips}
use Rattle.script_text.specs.AskLine.{AskReading, IsAskFaultOf, IsAskReading}
use Rattle.script_text.proofs.AskLineLemmas.{ask_read_once, has_ask_reading}
use Rattle.mirror_session.specs.Lines.{LineLaw, LinesLaw, OneLineLaw, mirror_line_of}

-- Both judge words alike.
fault_as : (bytes : List ℕ) (fault : WordsFault) → IsAskFaultOf bytes fault → IsMirrorFaultOf bytes fault
fault_as bytes TooLong is = is
fault_as bytes NotText is = is
fault_as bytes (WrongWord word) is = is
fault_as bytes (WrongNumber word) is = is
fault_as bytes (WrongByte word) is = is
fault_as bytes (WrongStretches word) is = is
fault_as bytes MissingWord is = is
fault_as bytes (ExtraWord word) is = is

fault_of : (bytes : List ℕ) (fault : WordsFault) → IsMirrorFaultOf bytes fault → IsAskFaultOf bytes fault
fault_of bytes TooLong is = is
fault_of bytes NotText is = is
fault_of bytes (WrongWord word) is = is
fault_of bytes (WrongNumber word) is = is
fault_of bytes (WrongByte word) is = is
fault_of bytes (WrongStretches word) is = is
fault_of bytes MissingWord is = is
fault_of bytes (ExtraWord word) is = is

-- What is read where the line is this.
abbrev reading_of : MirrorLine → AskReading
reading_of Skips = Ok None
reading_of (AsksFor ask) = Ok (Some ask)
reading_of (RefusedWords fault) = Err fault

line_of-reading_of : (line : MirrorLine) → mirror_line_of (reading_of line) ≡ line
line_of-reading_of Skips = refl
line_of-reading_of (AsksFor ask) = refl
line_of-reading_of (RefusedWords fault) = refl

read_as : (bytes : List ℕ) (line : MirrorLine) → IsMirrorLine bytes line → IsAskReading bytes (reading_of line)
read_as bytes Skips is = is
read_as bytes (AsksFor ask) is = is
read_as bytes (RefusedWords fault) is = fault_of bytes fault is

-- ---- for callers

-- What is read of some bytes is their line,
pub mirror_line : LineLaw
mirror_line bytes (Ok None) is = is
mirror_line bytes (Ok (Some ask)) is = is
mirror_line bytes (Err fault) is = fault_as bytes fault is

-- which is one alone,
pub mirror_line_once : OneLineLaw
mirror_line_once bytes one other is is' =
    let same = ask_read_once bytes (reading_of one) (reading_of other) (read_as bytes one is) (read_as bytes other is') in
    sym (line_of-reading_of one) ∙ ap mirror_line_of same ∙ line_of-reading_of other

-- and any lines are read.
pub mirror_lines : LinesLaw
mirror_lines [] = ([], tt)
mirror_lines (bytes ∷ script) =
    let first = has_ask_reading bytes in
    let rest = mirror_lines script in
    (mirror_line_of first.0 ∷ rest.0, (mirror_line bytes first.0 first.1, rest.1))
