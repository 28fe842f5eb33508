-- How a command ends whose image is not opened.
use Rattle.device_model.specs.Refusals.{BySuperblock, ByGeometry, ByConsent, ByJournal}
use Rattle.run_model.specs.Ending as runs
use Rattle.run_model.specs.Ending.{Ending}
use Rattle.image_refusal.specs.declared.open_fault.HeadFault.{HeadFault}
use Rattle.image_refusal.specs.declared.open_fault.HeadFault.TheVariants.{Super, Geom}
use Rattle.judging_model.specs.Faults as faults

-- The ending of one whose image is refused by its first sector,
abbrev pub ending_by_head : HeadFault → Ending
ending_by_head (Super fault) = runs.Refused (runs.ByImage (BySuperblock fault))
ending_by_head (Geom fault) = runs.Refused (runs.ByImage (ByGeometry fault))

-- or by that, for want of consent, or by its journal.
abbrev pub ending_by_refusal : faults.ImageFault → Ending
ending_by_refusal (faults.ByHead fault) = ending_by_head fault
ending_by_refusal (faults.ByConsent flags) = runs.Refused (runs.ByImage (ByConsent flags))
ending_by_refusal (faults.ByJournal fault) = runs.Refused (runs.ByImage (ByJournal fault))
