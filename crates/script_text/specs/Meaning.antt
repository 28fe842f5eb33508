-- Why a line has no meaning on a device, as the code tells it.
use Rattle.device_model.specs.Script as script
use Rattle.script_text.specs.declared.meaning_fault.MeaningFault.{MeaningFault}
use Rattle.script_text.specs.declared.meaning_fault.MeaningFault.TheVariants as faults

-- The fault of a line's meaning that this is.
abbrev pub meaning_of : MeaningFault → script.MeaningFault
meaning_of (faults.Ticket ticket) = script.WrongTicket ticket
meaning_of (faults.Length length) = script.WrongLength length
meaning_of (faults.Count count) = script.WrongCount count
meaning_of (faults.Range first count) = script.WrongRange first count
