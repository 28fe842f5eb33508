-- What the cause of a refusal says of an image.
use Rattle.image_model.specs.Openable as model
use Rattle.image_refusal.specs.declared.journal_fault.JournalFault.{JournalFault}
use Rattle.image_refusal.specs.declared.journal_fault.JournalFault.TheVariants.{Scan, JournalBlock, JournalTag}

-- The fault of the journal that a program tells.
abbrev pub as_fault : JournalFault → model.JournalFault
as_fault (Scan fault) = model.Scan fault
as_fault (JournalBlock section entry sector) = model.JournalBlock section entry sector
as_fault (JournalTag section entry stored computed) = model.JournalTag section entry stored computed
