-- The lines of a script that has requests alone, none of them under `start`.
use Rattle.std.specs.Prelude.{◌≡◌, ◌≢◌, ℕ, [], ◌<◌, ◌≤◌, false, List, length, Option, None, Some, Result, Ok, Err}
use Rattle.device_model.specs.Grammar.{HasValues, IsFaultOfStart, IsLine, IsSkipped, IsText, ask_words, most_line, words_in}
use Rattle.device_model.specs.LineFault.{NotText, TooLong, WordsFault}
use Rattle.device_model.specs.Script.{Ask, AskLine, Skip}
use Rattle.script_text.specs.Line.{ask_of, fault_of}
use Rattle.script_text.specs.declared.line.Ask as asked
use Rattle.script_text.specs.declared.line.LineFault.{LineFault}

-- ---- what is read

-- A request, none where the line is skipped, or why the bytes are no such line.
abbrev pub AskReading : Type 0
AskReading = Result (Option Ask) WordsFault

-- What was read, as in the grammar.
abbrev pub asks_of : Option asked.Ask → Option Ask
asks_of None = None
asks_of (Some ask) = Some (ask_of ask)

abbrev pub ask_reading_of : Result (Option asked.Ask) LineFault → AskReading
ask_reading_of (Ok asks) = Ok (asks_of asks)
ask_reading_of (Err fault) = Err (fault_of fault)

-- ---- words

-- The words ask for this request, or there are none.
abbrev pub AreAskWords : List (List ℕ) → Option Ask → Type 0
AreAskWords words None = words ≡ []
AreAskWords words (Some ask) = (words ≡ ask_words ask) × HasValues ask

-- There are some, and they have this fault.
abbrev pub HasAskFault : List (List ℕ) → WordsFault → Type 0
HasAskFault words fault = (words ≢ []) × IsFaultOfStart words fault

-- ---- lines

-- The bytes ask for this request, or are skipped.
abbrev pub IsAskLine : List ℕ → Option Ask → Type 0
IsAskLine bytes None = IsLine bytes Skip
IsAskLine bytes (Some ask) = IsLine bytes (AskLine false ask)

-- They do neither, and this is the first fault of them. Words are judged as those behind `start`.
abbrev pub IsAskFaultOf : List ℕ → WordsFault → Type 0
IsAskFaultOf bytes TooLong = most_line < length bytes
IsAskFaultOf bytes NotText = (length bytes ≤ most_line) × (¬ IsText bytes)
IsAskFaultOf bytes fault =
    (length bytes ≤ most_line) × IsText bytes × (¬ IsSkipped bytes) × IsFaultOfStart (words_in bytes) fault

-- The bytes are read so.
abbrev pub IsAskReading : List ℕ → AskReading → Type 0
IsAskReading bytes (Ok asks) = IsAskLine bytes asks
IsAskReading bytes (Err fault) = IsAskFaultOf bytes fault
