-- Any bytes are read, those of a line of requests alone in one way, and a line that prints nothing does nothing.
use Rattle.std.specs.Prelude.{◌≡◌, ℕ, List, [], None}
use Rattle.std.specs.List.{AllZip}
use Rattle.device_model.specs.Grammar.{ReadLine, IsReadAs}
use Rattle.device_model.specs.Mode.{DeviceFormat}
use Rattle.device_model.specs.Progress.{DeviceState}
use Rattle.device_model.specs.Script.{ScriptLine, line_outcome, meaning_fault}
use Rattle.script_text.specs.AskLine.{AskReading, IsAskReading}

-- Bytes are a line or have a fault, whichever they are and however many.
abbrev pub TotalLaw : Type 0
TotalLaw = (bytes : List ℕ) → (read : ReadLine) × IsReadAs bytes read

-- The lines of a script are read, each as what it is.
abbrev pub ReadAllLaw : Type 0
ReadAllLaw = (lines : List (List ℕ)) → (reads : List ReadLine) × AllZip IsReadAs lines reads

-- Bytes of a line of requests alone are read, whichever they are,
abbrev pub AskTotalLaw : Type 0
AskTotalLaw = (bytes : List ℕ) → (read : AskReading) × IsAskReading bytes read

-- and in one way: as one request, as none, or with one fault.
abbrev pub AskOnceLaw : Type 0
AskOnceLaw = (bytes : List ℕ) (one other : AskReading) → IsAskReading bytes one → IsAskReading bytes other
    → one ≡ other

-- A line that prints nothing does nothing to the history.
abbrev pub QuietLineLaw : Type 0
QuietLineLaw = (f : DeviceFormat) (s : DeviceState) (line : ScriptLine) → meaning_fault f s.progress line ≡ None
    → (line_outcome f s line).text ≡ [] → (line_outcome f s line).changes ≡ []
