-- The lines of a mirror's script, as `script_text` reads them.
use Rattle.std.proofs.Common.{◌≡◌, ◌∙◌, List, ℕ, None, Option, Some, Ok, Err, refl, sym, ap}
use Rattle.device_model.specs.LineFault.{ExtraWord, MissingWord, NotText, TooLong, WordsFault, WrongByte, WrongNumber}
use Rattle.device_model.specs.LineFault.{WrongStretches, WrongWord}
use Rattle.device_model.specs.Script.{Ask}
use Rattle.mirror_model.specs.Script.{AsksFor, IsMirrorFaultOf, IsMirrorLine, MirrorLine, RefusedWords, Skips}
use Rattle.script_text.specs.AskLine.{AskReading, IsAskFaultOf, IsAskReading}
use Rattle.script_text.proofs.AskLineLemmas.{ask_read_once}

-- A line as a reading, and a reading as a line.
abbrev pub reading_as : MirrorLine → AskReading
reading_as Skips = Ok None
reading_as (AsksFor ask) = Ok (Some ask)
reading_as (RefusedWords fault) = Err fault

abbrev pub asked_as : Option Ask → MirrorLine
asked_as None = Skips
asked_as (Some ask) = AsksFor ask

abbrev pub line_as : AskReading → MirrorLine
line_as (Ok asks) = asked_as asks
line_as (Err fault) = RefusedWords fault

line_as-reading : (line : MirrorLine) → line_as (reading_as line) ≡ line
line_as-reading Skips = refl
line_as-reading (AsksFor ask) = refl
line_as-reading (RefusedWords fault) = refl

-- Both say the same of bytes that are no line,
fault_as : (bytes : List ℕ) (fault : WordsFault) → IsMirrorFaultOf bytes fault → IsAskFaultOf bytes fault
fault_as bytes TooLong is = is
fault_as bytes NotText is = is
fault_as bytes (WrongWord word) is = is
fault_as bytes (WrongNumber word) is = is
fault_as bytes (WrongByte word) is = is
fault_as bytes (WrongStretches word) is = is
fault_as bytes MissingWord is = is
fault_as bytes (ExtraWord word) is = is

pub as_fault : (bytes : List ℕ) (fault : WordsFault) → IsAskFaultOf bytes fault → IsMirrorFaultOf bytes fault
as_fault bytes TooLong is = is
as_fault bytes NotText is = is
as_fault bytes (WrongWord word) is = is
as_fault bytes (WrongNumber word) is = is
as_fault bytes (WrongByte word) is = is
as_fault bytes (WrongStretches word) is = is
as_fault bytes MissingWord is = is
as_fault bytes (ExtraWord word) is = is

-- and of those that are.
pub is_reading : (bytes : List ℕ) (line : MirrorLine) → IsMirrorLine bytes line → IsAskReading bytes (reading_as line)
is_reading bytes Skips is = is
is_reading bytes (AsksFor ask) is = is
is_reading bytes (RefusedWords fault) is = fault_as bytes fault is

pub is_line : (bytes : List ℕ) (read : AskReading) → IsAskReading bytes read → IsMirrorLine bytes (line_as read)
is_line bytes (Ok None) is = is
is_line bytes (Ok (Some ask)) is = is
is_line bytes (Err fault) is = as_fault bytes fault is

-- ---- for callers

-- A line that bytes are is what was read of them,
pub line_is : (bytes : List ℕ) (line : MirrorLine) (read : AskReading) → IsMirrorLine bytes line
    → ((other : AskReading) → IsAskReading bytes other → other ≡ read) → line ≡ line_as read
line_is bytes line read is exact =
    sym (line_as-reading line) ∙ ap line_as (exact (reading_as line) (is_reading bytes line is))

-- and they are one line alone.
pub line_once : (bytes : List ℕ) (one other : MirrorLine) → IsMirrorLine bytes one → IsMirrorLine bytes other
    → one ≡ other
line_once bytes one other is is_other =
    sym (line_as-reading one)
    ∙ ap line_as (ask_read_once bytes (reading_as one) (reading_as other) (is_reading bytes one is)
    (is_reading bytes other is_other))
    ∙ line_as-reading other
