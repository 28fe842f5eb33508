-- Why a line that was read is refused, as the code judges it.
use Rattle.std.specs.Prelude.{ℕ, ◌/◌, ◌%◌, ◌==◌, if◌then◌else◌, List, Option, Some, None}
use Rattle.std.specs.List.{list_any}
use Rattle.device_model.specs.Script as script
use Rattle.device_model.specs.Script.{Ask, ScriptLine, range_fault, stretches_length}

-- Why a request is refused on so many blocks of so many bytes, if it is.
abbrev pub ask_fault_on : (blocks size : ℕ) → Ask → Option script.MeaningFault
ask_fault_on blocks size (script.Fill first count byte fua) = range_fault blocks first count
ask_fault_on blocks size (script.Write first stretches fua) =
    if stretches_length stretches % size == 0
    then range_fault blocks first (stretches_length stretches / size)
    else Some (script.WrongLength (stretches_length stretches))
ask_fault_on blocks size (script.Read first count) = range_fault blocks first count
ask_fault_on blocks size script.Flush = None

-- Why a ticket is, where these are in flight.
abbrev pub ticket_fault_among : List ℕ → ℕ → Option script.MeaningFault
ticket_fault_among numbers ticket =
    if list_any (λ number. number == ticket) numbers then None else Some (script.WrongTicket ticket)

-- Why a line is.
abbrev pub fault_on : (blocks size : ℕ) → (numbers : List ℕ) → ScriptLine → Option script.MeaningFault
fault_on blocks size numbers script.Skip = None
fault_on blocks size numbers (script.AskLine start ask) = ask_fault_on blocks size ask
fault_on blocks size numbers (script.ServeLine ticket) = ticket_fault_among numbers ticket
fault_on blocks size numbers (script.TakeLine ticket) = ticket_fault_among numbers ticket
fault_on blocks size numbers (script.StepLine actor) = None
