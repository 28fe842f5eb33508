-- The lines that are read, and why bytes are none, as in the grammar.
use Rattle.std.specs.Prelude.{List, Result, Ok, Err}
use Rattle.device_model.specs.Actors.{actor_of}
use Rattle.device_model.specs.Grammar.{ReadLine, Means, Refused}
use Rattle.device_model.specs.LineFault as faults
use Rattle.device_model.specs.LineFault.{WordsFault}
use Rattle.device_model.specs.Script as script
use Rattle.device_model.specs.Script.{ScriptLine}
use Rattle.device_model.specs.Stretches.{Stretch}
use Rattle.script_text.specs.Runs.{stretches_in}
use Rattle.script_text.specs.declared.runs.Runs.{Runs}
use Rattle.script_text.specs.declared.line.Ask.{Ask}
use Rattle.script_text.specs.declared.line.Ask.TheVariants.{Fill, Write, Read, Flush}
use Rattle.script_text.specs.declared.line.Line.{Line}
use Rattle.script_text.specs.declared.line.Line.TheVariants as line
use Rattle.script_text.specs.declared.line.LineFault.{LineFault}
use Rattle.script_text.specs.declared.line.LineFault.TheVariants.{TooLong, NotText, WrongWord, WrongNumber, WrongByte, WrongRuns, MissingWord, ExtraWord}

-- The stretches of bytes that runs are.
abbrev pub stretches_of : Runs → List Stretch
stretches_of runs = stretches_in runs.word.now

abbrev pub ask_of : Ask → script.Ask
ask_of (Fill first count byte fua) = script.Fill first count byte fua
ask_of (Write first runs fua) = script.Write first (stretches_of runs) fua
ask_of (Read first count) = script.Read first count
ask_of Flush = script.Flush

-- The line of a script that this is.
abbrev pub line_of : Line → ScriptLine
line_of line.Skip = script.Skip
line_of (line.Ask start ask) = script.AskLine start (ask_of ask)
line_of (line.Serve ticket) = script.ServeLine ticket
line_of (line.Take ticket) = script.TakeLine ticket
line_of (line.Step actor) = script.StepLine (actor_of actor)

-- The fault of a script's line that this is.
abbrev pub fault_of : LineFault → WordsFault
fault_of TooLong = faults.TooLong
fault_of NotText = faults.NotText
fault_of (WrongWord word) = faults.WrongWord word.now
fault_of (WrongNumber word) = faults.WrongNumber word.now
fault_of (WrongByte word) = faults.WrongByte word.now
fault_of (WrongRuns word) = faults.WrongStretches word.now
fault_of MissingWord = faults.MissingWord
fault_of (ExtraWord word) = faults.ExtraWord word.now

-- What was read, as in the grammar.
abbrev pub read_of : Result Line LineFault → ReadLine
read_of (Ok line) = Means (line_of line)
read_of (Err fault) = Refused (fault_of fault)
